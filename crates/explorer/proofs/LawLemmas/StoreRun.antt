-- A run that creates, asks, lists, imports, migrates, tries or serves comes to what the laws of these say, where no call fails and memory is there.
use Rattle.std.proofs.Common.{◌≡◌, ℕ, ◌-◌, ◌^◌, ◌<◌, ◌≤◌, ◌⊎◌, inl, inr, List, [], ◌∷◌, Option, None, Some, Result, Ok, Err, refl, sym, ap, subst, ◌∙◌, arith}
use Rattle.std.specs.Prelude.{◌≢◌, IsSome}
use Rattle.std.specs.Io.KnownBytes.{Appends, append_known}
use Rattle.outside.specs.Stream.{Grows, Stream, Writes}
use Rattle.outside.proofs.StreamLemmas.{grows-none, writes-grows}
use Rattle.explorer_model.specs.declared.query.BadParameter.{BadParameter}
use Rattle.explorer_model.specs.declared.query.Query.{Query as AQuery}
use Rattle.explorer_model.specs.declared.archive.Batch.{Batch}
use Rattle.explorer_model.specs.Openings.{NamedPosition}
use Rattle.manifest.specs.Manifest.{HasJournal}
use Rattle.host.specs.Hosts.{HostState, put}
use Rattle.ingest_desk.specs.declared.report.ImportEnding.{ImportEnding}
use Rattle.ingest_desk.specs.declared.report.ImportEnding.TheVariants as endings
use Rattle.explorer.specs.declared.fault.Fault.{Fault}
use Rattle.explorer.specs.declared.fault.Fault.TheVariants as faults
use Rattle.explorer.specs.Book.{HasBook, LacksBook, NamedBy, StopsAtBook}
use Rattle.explorer.specs.Create.{CreatesBy}
use Rattle.explorer.specs.ImportStore.{ImportsBy, ImportsLabelled, ImportsSo, ImportsTo}
use Rattle.explorer.specs.Laws.{CountsSpills, GoesWell, HasMemory, HoldAlike, ImportAlike, IsToldErrors, IsToldFile, IsToldOutput, IsToldStore, MigratedAlike, LacksOpenings, OpensWell, IsToldOpenings, ReadsWell, RefusedAlike, ReportsWell, ServedAlike, ServedAlikeBehind, ServesDoors, SpilledAlike, SpillsWell, WritesWell, serving, with_book, with_workers}
use Rattle.explorer.specs.Lines.{AreLinesOf, Ending, Done, Stopped, Tells, status_of}
use Rattle.explorer.specs.ListBatches.{ListsBy}
use Rattle.explorer.specs.Migrate.{MigratesBy}
use Rattle.explorer.specs.Query.Spilled.{SpillsBy}
use Rattle.explorer.specs.Query.Store.{Asking, AsksBy, AsksFor, QueriesBy}
use Rattle.explorer.specs.Report.{report}
use Rattle.explorer.specs.Run.{Ends, Meets, Runs, StartsWithout}
use Rattle.explorer.specs.Serve.{Serves}
use Rattle.explorer.specs.Serve.Served.{Service}
use Rattle.explorer.specs.Stores.{OnlyHost}
use Rattle.explorer.specs.Trial.{TriesBy}
use Rattle.explorer.specs.World.{World}
use Rattle.command_line.specs.Task.{Task, Batches, Create, Import, Migrate, Query, Trial, task_of}
use Rattle.import_run.proofs.VerdictLemmas.{OneGame}
use Rattle.explorer.proofs.LawLemmas.Creation.{one_creation}
use Rattle.explorer.proofs.LawLemmas.Import.{one_import}
use Rattle.explorer.proofs.LawLemmas.{OneAnswer, OneNaming}
use Rattle.explorer.proofs.LawLemmas.Listing.{one_listing}
use Rattle.explorer.proofs.LawLemmas.Migrate.{one_migration}
use Rattle.explorer.proofs.LawLemmas.NoRoom.{OneAccount}
use Rattle.explorer.proofs.LawLemmas.OneEnding.{OneQuery, wrote_stream}
use Rattle.explorer.proofs.LawLemmas.Openings.{OneBook, SameHost, one_book, same_host}
use Rattle.explorer.proofs.LawLemmas.Question.{OneOpening, one_question, told_since, well_since}
use Rattle.explorer.proofs.LawLemmas.Run.{append_all, no_memory, opens_before, same_lines, told_behind}
use Rattle.explorer.proofs.LawLemmas.Serve.{both_refused, both_served, refused_errors, refused_too}
use Rattle.explorer.proofs.LawLemmas.Spill.{one_spilling}
use Rattle.explorer.proofs.LawLemmas.Trial.{OneSample, one_trial}

-- ---- how an ending is told

wrote_lines : (lines : List (List ℕ)) (old new : Stream) → IsSome old.written → old.write_faults < 2 ^ 64 - 1 → new.write_faults ≡ old.write_faults → Writes lines old new → new ≡ record old { written = append_all old.written lines }
wrote_lines [] old new told low same writes = writes
wrote_lines (line ∷ lines) old new told low same (middle, wrote_line, rest) =
    let first = (writes-grows (line ∷ []) old middle (middle, wrote_line, refl)).1.never_falls.least in
    let later = (writes-grows lines middle new rest).1.never_falls.least in
    let still : middle.write_faults ≡ old.write_faults = omega (arith, first, later, same) in
    let is = wrote_stream line old middle told low still (middle, wrote_line, refl) in
    let known : IsSome middle.written = subst (λ (s : Stream). IsSome s.written) (sym is) (told_behind old.written line told) in
    wrote_lines lines middle new known (omega (arith, low, still)) (omega (arith, same, still)) rest ∙ ap (λ (s : Stream). record s { written = append_all s.written lines }) is

-- nothing but the errors is another
told_rest : (ending : Ending) (ended after : World) → Tells ending ended after → after ≡ record ended { errors = after.errors }
told_rest Done ended after tells = tells ∙ (λ i. let w : World = sym tells i in record ended { errors = w.errors })
told_rest (Stopped fault) ended after tells = tells.1

-- no report failed before the ending was told, nor then
record IsCalm (before ended after : World) : Type 0 where
  told : IsSome ended.errors.written
  low : ended.errors.write_faults < 2 ^ 64 - 1
  same : after.errors.write_faults ≡ ended.errors.write_faults

still_told : (old new : Option (List ℕ)) (bytes : List ℕ) → IsSome old → Appends old new bytes → IsSome new
still_told None new bytes told appends = cc
still_told (Some x) None bytes told appends = absurd appends
still_told (Some x) (Some y) bytes told appends = refl

least : (ending : Ending) (ended after : World) → Tells ending ended after → ended.errors.write_faults ≤ after.errors.write_faults
least Done ended after tells = let same = ap (λ (w : World). w.errors.write_faults) tells in omega (arith, same)
least (Stopped fault) ended after ((lines, are, writes), rest) = (writes-grows lines ended.errors after.errors writes).1.never_falls.least

calm : (ending : Ending) (before ended after : World) (bytes : List ℕ) → IsToldErrors before → ReportsWell before after → Grows bytes before.errors ended.errors → Tells ending ended after → IsCalm before ended after
calm ending before ended after bytes told well grows tells =
    let later = least ending ended after tells in
    let still : ended.errors.write_faults ≡ before.errors.write_faults = omega (arith, grows.never_falls.least, later, well) in
    record {
      told = still_told before.errors.written ended.errors.written bytes told.errors grows.appended;
      low = omega (arith, still, told.reports);
      same = omega (arith, still, well);
    }

told_alike : (ending : Ending) (before ended after ended' other : World) → (ending ≡ Stopped faults.Usage → ⊥) → IsCalm before ended after → IsCalm before ended' other → ended.errors ≡ ended'.errors → Tells ending ended after → Tells ending ended' other
    → after.errors ≡ other.errors
told_alike Done before ended after ended' other differs fine fine' same tells tells' = ap (λ (w : World). w.errors) tells ∙ same ∙ sym (ap (λ (w : World). w.errors) tells')
told_alike (Stopped fault) before ended after ended' other differs fine fine' same ((lines, are, writes), rest) ((lines', are', writes'), rest') =
    let both = same_lines fault lines lines' (λ usage. differs (ap Stopped usage)) are are' in
    wrote_lines lines ended.errors after.errors fine.told fine.low fine.same writes
    ∙ (λ i. let s : Stream = same i in record s { written = append_all s.written (both i) })
    ∙ sym (wrote_lines lines' ended'.errors other.errors fine'.told fine'.low fine'.same writes')

-- ---- what a task writes to the errors

no_more : (before after : Stream) → after ≡ before → Grows [] before after
no_more before after same = subst (λ (s : Stream). Grows [] before s) (sym same) (grows-none before)

by_host : (before after : World) → OnlyHost before after → after.errors ≡ before.errors
by_host before after only = ap (λ (w : World). w.errors) only

created_errors : (store : List ℕ) (before after : World) (ending : Ending) → CreatesBy store before after ending → after.errors ≡ before.errors
created_errors store before after Done by = ap (λ (w : World). w.errors) by.rest
created_errors store before after (Stopped faults.WriteFault) by = ap (λ (w : World). w.errors) by.rest
created_errors store before after (Stopped (faults.NotEmpty size)) by = by_host before after by.1
created_errors store before after (Stopped faults.DiskFault) by = by_host before after by.2
created_errors store before after (Stopped (faults.CannotOpen name)) by = by_host before after by.2
created_errors store before after (Stopped faults.Usage) by = absurd by
created_errors store before after (Stopped (faults.BadParameter name)) by = absurd by
created_errors store before after (Stopped faults.BadLabel) by = absurd by
created_errors store before after (Stopped faults.SpillFault) by = absurd by
created_errors store before after (Stopped (faults.SpillDamaged part)) by = absurd by
created_errors store before after (Stopped faults.OpeningsTooLong) by = absurd by
created_errors store before after (Stopped (faults.BadOpenings row cause)) by = absurd by
created_errors store before after (Stopped faults.ReadFault) by = absurd by
created_errors store before after (Stopped faults.TooMuchInput) by = absurd by
created_errors store before after (Stopped (faults.Full games bytes)) by = absurd by
created_errors store before after (Stopped faults.NotAStore) by = absurd by
created_errors store before after (Stopped (faults.OtherFormat number)) by = absurd by
created_errors store before after (Stopped (faults.Damaged gate)) by = absurd by
created_errors store before after (Stopped faults.OutOfMemory) by = absurd by
created_errors store before after (Stopped faults.CannotAccept) by = absurd by

migrated_errors : (old new : List ℕ) (before after : World) (ending : Ending) → MigratesBy old new before after ending → after.errors ≡ before.errors
migrated_errors old new before after Done by = ap (λ (w : World). w.errors) by.rest
migrated_errors old new before after (Stopped faults.WriteFault) by = ap (λ (w : World). w.errors) by.rest
migrated_errors old new before after (Stopped faults.NotAStore) by = by_host before after by.1
migrated_errors old new before after (Stopped (faults.OtherFormat number)) by = by_host before after by.1
migrated_errors old new before after (Stopped (faults.Damaged gate)) by = by_host before after by.1
migrated_errors old new before after (Stopped (faults.NotEmpty size)) by = by_host before after by.1
migrated_errors old new before after (Stopped faults.DiskFault) by = by_host before after by.2
migrated_errors old new before after (Stopped (faults.CannotOpen name)) by = by_host before after by.1
migrated_errors old new before after (Stopped faults.OutOfMemory) by = by_host before after by.1
migrated_errors old new before after (Stopped faults.Usage) by = absurd by
migrated_errors old new before after (Stopped (faults.BadParameter name)) by = absurd by
migrated_errors old new before after (Stopped faults.BadLabel) by = absurd by
migrated_errors old new before after (Stopped faults.SpillFault) by = absurd by
migrated_errors old new before after (Stopped (faults.SpillDamaged part)) by = absurd by
migrated_errors old new before after (Stopped faults.OpeningsTooLong) by = absurd by
migrated_errors old new before after (Stopped (faults.BadOpenings row cause)) by = absurd by
migrated_errors old new before after (Stopped faults.ReadFault) by = absurd by
migrated_errors old new before after (Stopped faults.TooMuchInput) by = absurd by
migrated_errors old new before after (Stopped (faults.Full games bytes)) by = absurd by
migrated_errors old new before after (Stopped faults.CannotAccept) by = absurd by

asked_errors : (store : List ℕ) (query : AQuery) (book : List NamedPosition) (before after : World) (ending : Ending) → AsksBy store query book before after ending → after.errors ≡ before.errors
asked_errors store query book before after Done by = ap (λ (w : World). w.errors) by.rest
asked_errors store query book before after (Stopped faults.WriteFault) by = ap (λ (w : World). w.errors) by.rest
asked_errors store query book before after (Stopped faults.NotAStore) by = by_host before after by.1
asked_errors store query book before after (Stopped (faults.OtherFormat number)) by = by_host before after by.1
asked_errors store query book before after (Stopped (faults.Damaged gate)) by = by_host before after by.1
asked_errors store query book before after (Stopped faults.DiskFault) by = by_host before after by.2
asked_errors store query book before after (Stopped (faults.CannotOpen name)) by = by_host before after by.2
asked_errors store query book before after (Stopped faults.Usage) by = absurd by
asked_errors store query book before after (Stopped (faults.BadParameter name)) by = absurd by
asked_errors store query book before after (Stopped faults.BadLabel) by = absurd by
asked_errors store query book before after (Stopped faults.SpillFault) by = absurd by
asked_errors store query book before after (Stopped (faults.SpillDamaged part)) by = absurd by
asked_errors store query book before after (Stopped faults.OpeningsTooLong) by = absurd by
asked_errors store query book before after (Stopped (faults.BadOpenings row cause)) by = absurd by
asked_errors store query book before after (Stopped faults.ReadFault) by = absurd by
asked_errors store query book before after (Stopped faults.TooMuchInput) by = absurd by
asked_errors store query book before after (Stopped (faults.Full games bytes)) by = absurd by
asked_errors store query book before after (Stopped (faults.NotEmpty size)) by = absurd by
asked_errors store query book before after (Stopped faults.OutOfMemory) by = by_host before after by.1
asked_errors store query book before after (Stopped faults.CannotAccept) by = absurd by

-- nothing is written behind the file of openings but what is written by its book
named_errors : (openings : Option (List ℕ)) (Does : List NamedPosition → World → World → Ending → Type 0) (before after : World) (ending : Ending)
    → ((book : List NamedPosition) (now : World) → Does book now after ending → after.errors ≡ now.errors) → NamedBy openings Does before after ending
    → after.errors ≡ before.errors
named_errors openings Does before after ending errors (inl (book, read, has, does)) = errors book (record before { host = read }) does
named_errors None Does before after ending errors (inr stops) = absurd stops
named_errors (Some name) Does before after ending errors (inr (fault, is, lacks, only)) = by_host before after only

spilled_errors : (store name : List ℕ) (query : AQuery) (book : List NamedPosition) (before after : World) (ending : Ending) → SpillsBy store name query book before after ending → after.errors ≡ before.errors
spilled_errors store name query book before after Done by = ap (λ (w : World). w.errors) by.rest
spilled_errors store name query book before after (Stopped faults.WriteFault) by = ap (λ (w : World). w.errors) by.rest
spilled_errors store name query book before after (Stopped faults.NotAStore) by = by_host before after by.1
spilled_errors store name query book before after (Stopped (faults.OtherFormat number)) by = by_host before after by.1
spilled_errors store name query book before after (Stopped (faults.Damaged gate)) by = by_host before after by.1
spilled_errors store name query book before after (Stopped faults.OutOfMemory) by = by_host before after by.1
spilled_errors store name query book before after (Stopped (faults.CannotOpen refused)) by = by_host before after by.1
spilled_errors store name query book before after (Stopped (faults.SpillDamaged part)) by = by_host before after by.1
spilled_errors store name query book before after (Stopped faults.DiskFault) by = by_host before after by.2
spilled_errors store name query book before after (Stopped faults.SpillFault) by = by_host before after by.2
spilled_errors store name query book before after (Stopped faults.Usage) by = absurd by
spilled_errors store name query book before after (Stopped (faults.BadParameter parameter)) by = absurd by
spilled_errors store name query book before after (Stopped faults.BadLabel) by = absurd by
spilled_errors store name query book before after (Stopped faults.OpeningsTooLong) by = absurd by
spilled_errors store name query book before after (Stopped (faults.BadOpenings row cause)) by = absurd by
spilled_errors store name query book before after (Stopped faults.ReadFault) by = absurd by
spilled_errors store name query book before after (Stopped faults.TooMuchInput) by = absurd by
spilled_errors store name query book before after (Stopped (faults.Full games bytes)) by = absurd by
spilled_errors store name query book before after (Stopped (faults.NotEmpty size)) by = absurd by
spilled_errors store name query book before after (Stopped faults.CannotAccept) by = absurd by

-- what is asked by a query and a book writes nothing to the errors
abbrev LeavesErrors : Asking → Type 0
LeavesErrors Asks = (query : AQuery) (book : List NamedPosition) (before after : World) (ending : Ending) → Asks query book before after ending → after.errors ≡ before.errors

asked_for : (Asks : Asking) → LeavesErrors Asks → (openings : Option (List ℕ)) (r : Result AQuery BadParameter) (before after : World) (ending : Ending)
    → AsksFor Asks openings r before after ending → after.errors ≡ before.errors
asked_for Asks leaves openings (Err bad) before after ending by = ap (λ (w : World). w.errors) by.1
asked_for Asks leaves openings (Ok query) before after ending by =
    named_errors openings (Asks query) before after ending (λ book now does. leaves query book now after ending does) by

queried_errors : (Asks : Asking) → LeavesErrors Asks → (text : List ℕ) (openings : Option (List ℕ)) (before after : World) (ending : Ending) → QueriesBy Asks text openings before after ending → after.errors ≡ before.errors
queried_errors Asks leaves text openings before after ending (inl (is, same)) = ap (λ (w : World). w.errors) same
queried_errors Asks leaves text openings before after ending (inr (r, reads, by)) = asked_for Asks leaves openings r before after ending by

listed_errors : (store : List ℕ) (before after : World) (ending : Ending) → ListsBy store before after ending → after.errors ≡ before.errors
listed_errors store before after Done by = ap (λ (w : World). w.errors) by.rest
listed_errors store before after (Stopped faults.WriteFault) by = ap (λ (w : World). w.errors) by.rest
listed_errors store before after (Stopped faults.NotAStore) by = by_host before after by.1
listed_errors store before after (Stopped (faults.OtherFormat number)) by = by_host before after by.1
listed_errors store before after (Stopped (faults.Damaged gate)) by = by_host before after by.1
listed_errors store before after (Stopped faults.DiskFault) by = by_host before after by.2
listed_errors store before after (Stopped (faults.CannotOpen name)) by = by_host before after by.2
listed_errors store before after (Stopped faults.OutOfMemory) by = by_host before after by.1
listed_errors store before after (Stopped faults.Usage) by = absurd by
listed_errors store before after (Stopped (faults.BadParameter name)) by = absurd by
listed_errors store before after (Stopped faults.BadLabel) by = absurd by
listed_errors store before after (Stopped faults.SpillFault) by = absurd by
listed_errors store before after (Stopped (faults.SpillDamaged part)) by = absurd by
listed_errors store before after (Stopped faults.OpeningsTooLong) by = absurd by
listed_errors store before after (Stopped (faults.BadOpenings row cause)) by = absurd by
listed_errors store before after (Stopped faults.ReadFault) by = absurd by
listed_errors store before after (Stopped faults.TooMuchInput) by = absurd by
listed_errors store before after (Stopped (faults.Full games bytes)) by = absurd by
listed_errors store before after (Stopped (faults.NotEmpty size)) by = absurd by
listed_errors store before after (Stopped faults.CannotAccept) by = absurd by

tried_errors : (games seed : ℕ) (before after : World) (ending : Ending) → TriesBy games seed before after ending → after.errors ≡ before.errors
tried_errors games seed before after Done by = ap (λ (w : World). w.errors) by.rest
tried_errors games seed before after (Stopped faults.WriteFault) by = ap (λ (w : World). w.errors) by.rest
tried_errors games seed before after (Stopped faults.OutOfMemory) by = ap (λ (w : World). w.errors) by
tried_errors games seed before after (Stopped faults.Usage) by = absurd by
tried_errors games seed before after (Stopped (faults.BadParameter name)) by = absurd by
tried_errors games seed before after (Stopped faults.BadLabel) by = absurd by
tried_errors games seed before after (Stopped faults.SpillFault) by = absurd by
tried_errors games seed before after (Stopped (faults.SpillDamaged part)) by = absurd by
tried_errors games seed before after (Stopped faults.OpeningsTooLong) by = absurd by
tried_errors games seed before after (Stopped (faults.BadOpenings row cause)) by = absurd by
tried_errors games seed before after (Stopped faults.ReadFault) by = absurd by
tried_errors games seed before after (Stopped faults.DiskFault) by = absurd by
tried_errors games seed before after (Stopped (faults.NotEmpty size)) by = absurd by
tried_errors games seed before after (Stopped faults.NotAStore) by = absurd by
tried_errors games seed before after (Stopped (faults.OtherFormat number)) by = absurd by
tried_errors games seed before after (Stopped (faults.Damaged gate)) by = absurd by
tried_errors games seed before after (Stopped (faults.Full other bytes)) by = absurd by
tried_errors games seed before after (Stopped (faults.CannotOpen name)) by = absurd by
tried_errors games seed before after (Stopped faults.CannotAccept) by = absurd by
tried_errors games seed before after (Stopped faults.TooMuchInput) by = absurd by

abbrev Grew : World → World → Type 0
Grew before after = (bytes : List ℕ) × Grows bytes before.errors after.errors

by_import : (end : ImportEnding) (store file label : List ℕ) (before after : World) → ImportsTo end store file label before after → Grew before after
by_import end store file label before after to = writes-grows (report to.imports.refused ∷ []) before.errors after.errors to.errors

by_none : (before after : World) → OnlyHost before after → Grew before after
by_none before after only = ([], no_more before.errors after.errors (by_host before after only))

by_so : (end : ImportEnding) (store file label : List ℕ) (before after : World) → ImportsSo end store file label before after → Grew before after
by_so end store file label before after (inl to) = by_import end store file label before after to
by_so end store file label before after (inr untold) = by_none before after untold.only

labelled_errors : (store file label : List ℕ) (before after : World) (ending : Ending) → ImportsLabelled store file label before after ending → Grew before after
labelled_errors store file label before after Done by = by_import endings.Whole store file label before after by.0
labelled_errors store file label before after (Stopped faults.WriteFault) by = by_import endings.Whole store file label before after by.0
labelled_errors store file label before after (Stopped faults.ReadFault) (first, last, so) = by_so (endings.ReadFault first last) store file label before after so
labelled_errors store file label before after (Stopped faults.TooMuchInput) (bytes, so) = by_so (endings.TooMuch bytes) store file label before after so
labelled_errors store file label before after (Stopped (faults.Full games bytes)) so = by_so (endings.Full games bytes) store file label before after so
labelled_errors store file label before after (Stopped faults.DiskFault) (inl by) = by_none before after by.1
labelled_errors store file label before after (Stopped faults.DiskFault) (inr (first, last, so)) = by_so (endings.DiskFault first last) store file label before after so
labelled_errors store file label before after (Stopped faults.NotAStore) by = by_none before after by.1
labelled_errors store file label before after (Stopped (faults.OtherFormat number)) by = by_none before after by.1
labelled_errors store file label before after (Stopped (faults.Damaged gate)) by = by_none before after by.1
labelled_errors store file label before after (Stopped (faults.CannotOpen name)) (inl by) = by_none before after by.2
labelled_errors store file label before after (Stopped (faults.CannotOpen name)) (inr by) = by_none before after by.2
labelled_errors store file label before after (Stopped faults.OutOfMemory) (inl by) = by_none before after by.1
labelled_errors store file label before after (Stopped faults.OutOfMemory) (inr (inl so)) = by_so endings.OutOfMemory store file label before after so
labelled_errors store file label before after (Stopped faults.OutOfMemory) (inr (inr untold)) = by_none before after untold.only
labelled_errors store file label before after (Stopped faults.Usage) by = absurd by
labelled_errors store file label before after (Stopped (faults.BadParameter name)) by = absurd by
labelled_errors store file label before after (Stopped faults.BadLabel) by = absurd by
labelled_errors store file label before after (Stopped faults.SpillFault) by = absurd by
labelled_errors store file label before after (Stopped (faults.SpillDamaged part)) by = absurd by
labelled_errors store file label before after (Stopped faults.OpeningsTooLong) by = absurd by
labelled_errors store file label before after (Stopped (faults.BadOpenings row cause)) by = absurd by
labelled_errors store file label before after (Stopped (faults.NotEmpty size)) by = absurd by
labelled_errors store file label before after (Stopped faults.CannotAccept) by = absurd by

imported_errors : (store file label : List ℕ) (before after : World) (ending : Ending) → ImportsBy store file label before after ending → Grew before after
imported_errors store file label before after ending (inl (none, is, same)) = ([], no_more before.errors after.errors (ap (λ (w : World). w.errors) same))
imported_errors store file label before after ending (inr (given, by)) = labelled_errors store file label before after ending by

-- no report failed before the ending was told
reports_before : (ending : Ending) (before ended after : World) (bytes : List ℕ) → ReportsWell before after → Grows bytes before.errors ended.errors → Tells ending ended after → ReportsWell before ended
reports_before ending before ended after bytes well grows tells =
    let later = least ending ended after tells in
    omega (arith, grows.never_falls.least, later, well)

-- a question does not end as words that are refused
stops_no_usage : (openings : Option (List ℕ)) (before after : World) (ending : Ending) → StopsAtBook openings before after ending → ending ≡ Stopped faults.Usage → ⊥
stops_no_usage None before after ending stops usage = stops
stops_no_usage (Some name) before after ending (fault, is, lacks, only) usage =
    let same : Stopped fault ≡ Stopped faults.Usage = sym is ∙ usage in
    let fault_is : fault ≡ faults.Usage = cc in
    subst (λ (f : Fault). LacksBook name f before.host after.host) fault_is lacks

abbrev NoUsage : Asking → Type 0
NoUsage Asks = (query : AQuery) (book : List NamedPosition) (before after : World) → Asks query book before after (Stopped faults.Usage) → ⊥

no_usage_by : (Asks : Asking) → NoUsage Asks → (openings : Option (List ℕ)) (r : Result AQuery BadParameter) (before after : World) (ending : Ending) → AsksFor Asks openings r before after ending → ending ≡ Stopped faults.Usage → ⊥
no_usage_by Asks none openings (Err bad) before after ending by usage = let same : Stopped (faults.BadParameter bad.name) ≡ Stopped faults.Usage = sym by.0 ∙ usage in cc
no_usage_by Asks none openings (Ok query) before after ending (inl (book, read, has, by)) usage =
    none query book (record before { host = read }) after (subst (λ (e : Ending). Asks query book (record before { host = read }) after e) usage by)
no_usage_by Asks none openings (Ok query) before after ending (inr stops) usage = stops_no_usage openings before after ending stops usage

no_usage_asked : (Asks : Asking) → NoUsage Asks → (text : List ℕ) (openings : Option (List ℕ)) (before after : World) (ending : Ending) → QueriesBy Asks text openings before after ending → ending ≡ Stopped faults.Usage → ⊥
no_usage_asked Asks none text openings before after ending (inl (is, starves)) usage = let same : Stopped faults.OutOfMemory ≡ Stopped faults.Usage = sym is ∙ usage in cc
no_usage_asked Asks none text openings before after ending (inr (r, reads, by)) usage = no_usage_by Asks none openings r before after ending by usage

-- nor does an import
no_usage_imported : (store file label : List ℕ) (before after : World) (ending : Ending) → ImportsBy store file label before after ending → ending ≡ Stopped faults.Usage → ⊥
no_usage_imported store file label before after ending (inl (none, is, same)) usage = let other : Stopped faults.BadLabel ≡ Stopped faults.Usage = sym is ∙ usage in cc
no_usage_imported store file label before after ending (inr (given, by)) usage = subst (λ (e : Ending). ImportsLabelled store file label before after e) usage by

-- ---- runs

-- a run of a task that had memory
meets_task : (task : Task) (words : List (List ℕ)) (before ended : World) (ending : Ending) (status : ℕ) → task_of words ≡ Some task → status ≢ 9 → status ≡ status_of ending → StartsWithout before ended ending ⊎ Meets (task_of words) before ended ending
    → Ends task before ended ending
meets_task task words before ended ending status asks fed is (inl starves) = absurd (no_memory status ending fed is starves.0)
meets_task task words before ended ending status asks fed is (inr meets) = subst (λ (t : Option Task). Meets t before ended ending) asks meets

fed_by : (status : ℕ) (ending : Ending) → status ≡ status_of ending → status ≢ 9 → status_of ending ≢ 9
fed_by status ending is fed = λ nine. fed (is ∙ nine)

memory_before : (status : ℕ) (ending : Ending) (before ended after : World) → status ≡ status_of ending → Tells ending ended after → HasMemory status before after
    → HasMemory (status_of ending) before ended
memory_before status ending before ended after is tells fed =
    (fed_by status ending is fed.0, λ eight same. fed.1 (is ∙ eight) (ap (λ (w : World). w.output) (told_rest ending ended after tells) ∙ same))

-- what was written and asked before the ending was told
goes_before : (ending : Ending) (before ended after : World) → Tells ending ended after → GoesWell before after → GoesWell before ended
goes_before ending before ended after tells well =
    let rest = told_rest ending ended after tells in
    record {
      writes = sym (ap (λ (w : World). w.output.write_faults) rest) ∙ well.writes;
      refusals = sym (ap (λ (w : World). w.host.own_faults) rest) ∙ well.refusals;
      faults = sym (ap (λ (w : World). w.host.disk_faults) rest) ∙ well.faults;
    }

spills_before : (name : List ℕ) (ending : Ending) (before ended after : World) → Tells ending ended after → SpillsWell name before after → SpillsWell name before ended
spills_before name ending before ended after tells well =
    let rest = told_rest ending ended after tells in
    record {
      faults = sym (ap (λ (w : World). w.host.port_faults) rest) ∙ well.faults;
      told = subst (λ (o : Option (List ℕ)). IsSome o) (ap (λ (w : World). w.host.ports name) rest) well.told;
    }

not_usage : (ending : Ending) (status : ℕ) → status ≡ status_of ending → status ≢ 2 → ending ≡ Stopped faults.Usage → ⊥
not_usage ending status is differs usage = differs (is ∙ ap status_of usage)

-- what was told of two runs that had come to one thing
same_end : (ending ending' : Ending) (before ended after ended' other : World) → (ending ≡ Stopped faults.Usage → ⊥) → IsCalm before ended after → IsCalm before ended' other → ending ≡ ending' → ended ≡ ended' → Tells ending ended after → Tells ending' ended' other
    → after ≡ other
same_end ending ending' before ended after ended' other differs fine fine' same ends tells tells' =
    let moved = subst (λ (e : Ending). Tells e ended' other) (sym same) tells' in
    let errors = told_alike ending before ended after ended' other differs fine fine' (ap (λ (w : World). w.errors) ends) tells moved in
    told_rest ending ended after tells ∙ (λ i. let w : World = ends i in record w { errors = errors i }) ∙ sym (told_rest ending' ended' other tells')

-- what is told on the errors in the end is no part of how doors were served
told_doors : (service : Service) (opening : List Batch) (before after : World) (errors : Stream) → ServesDoors service opening before after → ServesDoors service opening before (record after { errors = errors })
told_doors service opening before after errors x = record {
  worked = x.worked;
  opening_is = x.opening_is;
  goes_on = x.goes_on;
  listens = record { input = x.listens.input; output = x.listens.output };
}

told_last : (service others : Service) (opening : List Batch) (before after other : World) (errors errors' : Stream) → ServedAlike service others opening before after other
    → ServedAlike service others opening before (record after { errors = errors }) (record other { errors = errors' })
unfolding told_doors
told_last service others opening before after other errors errors' alike = record {
  first = told_doors service opening before after errors alike.first;
  second = told_doors others opening before other errors' alike.second;
  doors = alike.doors;
  calls = alike.calls;
  input = alike.input;
  output = alike.output;
}

module _ (words words' : List (List ℕ)) (before after other : World) (status status' : ℕ) (first : Runs words before after status) (second : Runs words' before other status') (errors : IsToldErrors before) (reports : ReportsWell before after)
    (reports' : ReportsWell before other) where
  one_run_of : Grew before first.ended → Grew before second.ended → (first.ending ≡ Stopped faults.Usage → ⊥) → (first.ending ≡ second.ending) × (first.ended ≡ second.ended) → (status ≡ status') × (after ≡ other)
  one_run_of (bytes, grows) (bytes', grows') differs same =
      let fine = calm first.ending before first.ended after bytes errors reports grows first.tells in
      let fine' = calm second.ending before second.ended other bytes' errors reports' grows' second.tells in (
        first.status_is ∙ ap status_of same.0 ∙ sym second.status_is,
        same_end first.ending second.ending before first.ended after second.ended other differs fine fine' same.0 same.1 first.tells second.tells,
      )

  -- of a creation
  pub one_creating : (store image : List ℕ) → task_of words ≡ Some (Create store) → task_of words' ≡ Some (Create store) → IsToldStore store image before → GoesWell before after → GoesWell before other → IsSome (after.host.disks store) → IsSome (other.host.disks store)
      → status ≢ 9 → status' ≢ 9 → (status ≡ status') × (after ≡ other)
  one_creating store image asks asks' told well well' still still' fed fed' =
      let meets = meets_task (Create store) words before first.ended first.ending status asks fed first.status_is first.meets in
      let meets' = meets_task (Create store) words' before second.ended second.ending status' asks' fed' second.status_is second.meets in
      let rest = told_rest first.ending first.ended after first.tells in
      let rest' = told_rest second.ending second.ended other second.tells in
      let there : IsSome (first.ended.host.disks store) = subst (λ (h : HostState). IsSome (h.disks store)) (ap (λ (w : World). w.host) rest) still in
      let there' : IsSome (second.ended.host.disks store) = subst (λ (h : HostState). IsSome (h.disks store)) (ap (λ (w : World). w.host) rest') still' in
      one_run_of ([], no_more before.errors first.ended.errors (created_errors store before first.ended first.ending meets))
      ([], no_more before.errors second.ended.errors (created_errors store before second.ended second.ending meets'))
      (λ usage. subst (λ (e : Ending). CreatesBy store before first.ended e) usage meets)
      (one_creation store image before first.ended second.ended first.ending second.ending told (goes_before first.ending before first.ended after first.tells well)
      (goes_before second.ending before second.ended other second.tells well') there there' meets meets')

  -- of a question
  pub one_asking : (store text image : List ℕ) (openings : Option (List ℕ)) (workers workers' : ℕ) → OneAnswer → OneNaming → OneOpening → OneBook → OneQuery → task_of words ≡ Some (Query store text workers openings None) → task_of words' ≡ Some (Query store text workers' openings None)
      → IsToldStore store image before → IsToldOpenings openings before → GoesWell before after → OpensWell openings before after → GoesWell before other → OpensWell openings before other → status ≢ 9 → status' ≢ 9 → (status ≡ status') × (after ≡ other)
  one_asking store text image openings workers workers' found one_naming once book_once query asks asks' told opens well read well' read' fed fed' =
      let meets = meets_task (Query store text workers openings None) words before first.ended first.ending status asks fed first.status_is first.meets in
      let meets' = meets_task (Query store text workers' openings None) words' before second.ended second.ending status' asks' fed' second.status_is second.meets in
      one_run_of ([], no_more before.errors first.ended.errors (queried_errors (AsksBy store) (asked_errors store) text openings before first.ended first.ending meets))
      ([], no_more before.errors second.ended.errors (queried_errors (AsksBy store) (asked_errors store) text openings before second.ended second.ending meets'))
      (no_usage_asked (AsksBy store) (λ query book before after by. by) text openings before first.ended first.ending meets)
      (one_question store image openings before first.ended second.ended first.ending second.ending found one_naming once book_once told opens
      (goes_before first.ending before first.ended after first.tells well) (opens_before openings first.ending before first.ended after first.tells read)
      (goes_before second.ending before second.ended other second.tells well') (opens_before openings second.ending before second.ended other second.tells read')
      (fed_by status first.ending first.status_is fed) (fed_by status' second.ending second.status_is fed') text query meets meets')

  -- of one through a scratch file
  pub one_spilled : (store name text image : List ℕ) (openings : Option (List ℕ)) (workers workers' : ℕ) → OneAnswer → OneNaming → OneOpening → OneBook → OneQuery → task_of words ≡ Some (Query store text workers openings (Some name)) → task_of words' ≡ Some (Query store text workers' openings (Some name))
      → IsToldStore store image before → IsToldOpenings openings before → CountsSpills before → GoesWell before after → OpensWell openings before after → SpillsWell name before after → GoesWell before other → OpensWell openings before other → SpillsWell name before other → status ≢ 9 → status' ≢ 9
      → (status ≡ status') × SpilledAlike name after other
  one_spilled store name text image openings workers workers' found one_naming once book_once query asks asks' told opens spill well read kept well' read' kept' fed fed' =
      let meets = meets_task (Query store text workers openings (Some name)) words before first.ended first.ending status asks fed first.status_is first.meets in
      let meets' = meets_task (Query store text workers' openings (Some name)) words' before second.ended second.ending status' asks' fed' second.status_is second.meets in
      let grew = no_more before.errors first.ended.errors (queried_errors (SpillsBy store name) (spilled_errors store name) text openings before first.ended first.ending meets) in
      let grew' = no_more before.errors second.ended.errors (queried_errors (SpillsBy store name) (spilled_errors store name) text openings before second.ended second.ending meets') in
      let fine = calm first.ending before first.ended after [] errors reports grew first.tells in
      let fine' = calm second.ending before second.ended other [] errors reports' grew' second.tells in
      let rest = told_rest first.ending first.ended after first.tells in
      let rest' = told_rest second.ending second.ended other second.tells in
      let host : after.host ≡ first.ended.host = ap (λ (w : World). w.host) rest in
      let host' : other.host ≡ second.ended.host = ap (λ (w : World). w.host) rest' in
      let both = one_spilling store name image openings before first.ended second.ended first.ending second.ending found one_naming once book_once told opens spill
      (goes_before first.ending before first.ended after first.tells well) (opens_before openings first.ending before first.ended after first.tells read) (spills_before name first.ending before first.ended after first.tells kept)
      (goes_before second.ending before second.ended other second.tells well') (opens_before openings second.ending before second.ended other second.tells read') (spills_before name second.ending before second.ended other second.tells kept')
      (fed_by status first.ending first.status_is fed) (fed_by status' second.ending second.status_is fed') text query meets meets' in
      let alike = both.1 in
      let moved = subst (λ (e : Ending). Tells e second.ended other) (sym both.0) second.tells in
      let P : HostState → HostState → Type 0 = λ h k. k ≡ record h { ports = put name (k.ports name) h.ports } in (
        first.status_is ∙ ap status_of both.0 ∙ sym second.status_is,
        record {
          streams = record {
            input = ap (λ (w : World). w.input) rest' ∙ alike.streams.input ∙ sym (ap (λ (w : World). w.input) rest);
            output = ap (λ (w : World). w.output) rest' ∙ alike.streams.output ∙ sym (ap (λ (w : World). w.output) rest);
            errors = sym (told_alike first.ending before first.ended after second.ended other
                (no_usage_asked (SpillsBy store name) (λ query book before after by. by) text openings before first.ended first.ending meets) fine fine' (sym alike.streams.errors) first.tells moved);
          };
          rest = subst (λ (h : HostState). P h other.host) (sym host) (subst (λ (k : HostState). P first.ended.host k) (sym host') alike.rest);
        },
      )

  -- of a listing
  pub one_listed : (store image : List ℕ) (workers workers' : ℕ) → OneOpening → task_of words ≡ Some (Batches store workers) → task_of words' ≡ Some (Batches store workers') → IsToldStore store image before → GoesWell before after → GoesWell before other
      → status ≢ 9 → status' ≢ 9 → (status ≡ status') × (after ≡ other)
  one_listed store image workers workers' once asks asks' told well well' fed fed' =
      let meets = meets_task (Batches store workers) words before first.ended first.ending status asks fed first.status_is first.meets in
      let meets' = meets_task (Batches store workers') words' before second.ended second.ending status' asks' fed' second.status_is second.meets in
      one_run_of ([], no_more before.errors first.ended.errors (listed_errors store before first.ended first.ending meets))
      ([], no_more before.errors second.ended.errors (listed_errors store before second.ended second.ending meets'))
      (λ usage. subst (λ (e : Ending). ListsBy store before first.ended e) usage meets)
      (one_listing store image before first.ended second.ended first.ending second.ending once told (goes_before first.ending before first.ended after first.tells well)
      (goes_before second.ending before second.ended other second.tells well') (fed_by status first.ending first.status_is fed) (fed_by status' second.ending second.status_is fed') meets meets')

  -- of a migration
  pub one_migrating : (old image new there : List ℕ) → task_of words ≡ Some (Migrate old new) → task_of words' ≡ Some (Migrate old new) → IsToldStore old image before → before.host.disks new ≡ Some there → GoesWell before after → GoesWell before other
      → status ≢ 9 → status' ≢ 9 → (status ≡ status') × MigratedAlike new after other
  one_migrating old image new there asks asks' told told_new well well' fed fed' =
      let meets = meets_task (Migrate old new) words before first.ended first.ending status asks fed first.status_is first.meets in
      let meets' = meets_task (Migrate old new) words' before second.ended second.ending status' asks' fed' second.status_is second.meets in
      let grew = no_more before.errors first.ended.errors (migrated_errors old new before first.ended first.ending meets) in
      let grew' = no_more before.errors second.ended.errors (migrated_errors old new before second.ended second.ending meets') in
      let fine = calm first.ending before first.ended after [] errors reports grew first.tells in
      let fine' = calm second.ending before second.ended other [] errors reports' grew' second.tells in
      let rest = told_rest first.ending first.ended after first.tells in
      let rest' = told_rest second.ending second.ended other second.tells in
      let host : after.host ≡ first.ended.host = ap (λ (w : World). w.host) rest in
      let host' : other.host ≡ second.ended.host = ap (λ (w : World). w.host) rest' in
      let both = one_migration old new image there before first.ended second.ended first.ending second.ending told told_new
      (goes_before first.ending before first.ended after first.tells well) (goes_before second.ending before second.ended other second.tells well')
      (fed_by status first.ending first.status_is fed) (fed_by status' second.ending second.status_is fed') meets meets' in
      let alike = both.1 in
      let moved = subst (λ (e : Ending). Tells e second.ended other) (sym both.0) second.tells in
      let P : HostState → HostState → Type 0 = λ h k. k ≡ record h { calls = k.calls; disks = put new (k.disks new) h.disks } in
      let Q : HostState → HostState → Type 0 = λ h k. HoldAlike (h.disks new) (k.disks new) in (
        first.status_is ∙ ap status_of both.0 ∙ sym second.status_is,
        record {
          streams = record {
            input = ap (λ (w : World). w.input) rest' ∙ alike.streams.input ∙ sym (ap (λ (w : World). w.input) rest);
            output = ap (λ (w : World). w.output) rest' ∙ alike.streams.output ∙ sym (ap (λ (w : World). w.output) rest);
            errors = sym (told_alike first.ending before first.ended after second.ended other
                (λ usage. subst (λ (e : Ending). MigratesBy old new before first.ended e) usage meets) fine fine' (sym alike.streams.errors) first.tells moved);
          };
          disk = subst (λ (h : HostState). Q h other.host) (sym host) (subst (λ (k : HostState). Q first.ended.host k) (sym host') alike.disk);
          calls = ap (λ (h : HostState). h.calls) host' ∙ alike.calls ∙ sym (ap (λ (h : HostState). h.calls) host);
          rest = subst (λ (h : HostState). P h other.host) (sym host) (subst (λ (k : HostState). P first.ended.host k) (sym host') alike.rest);
        },
      )

  -- of a trial
  pub one_trying : (games seed workers workers' : ℕ) → OneGame → OneAccount → OneSample → OneAnswer → OneQuery → task_of words ≡ Some (Trial games seed workers) → task_of words' ≡ Some (Trial games seed workers') → IsToldOutput before → WritesWell before after → WritesWell before other
      → status ≢ 9 → status' ≢ 9 → (status ≡ status') × (after ≡ other)
  one_trying games seed workers workers' one accounts sample found query asks asks' told well well' fed fed' =
      let meets = meets_task (Trial games seed workers) words before first.ended first.ending status asks fed first.status_is first.meets in
      let meets' = meets_task (Trial games seed workers') words' before second.ended second.ending status' asks' fed' second.status_is second.meets in
      let output = ap (λ (w : World). w.output.write_faults) (told_rest first.ending first.ended after first.tells) in
      let output' = ap (λ (w : World). w.output.write_faults) (told_rest second.ending second.ended other second.tells) in
      one_run_of ([], no_more before.errors first.ended.errors (tried_errors games seed before first.ended first.ending meets))
      ([], no_more before.errors second.ended.errors (tried_errors games seed before second.ended second.ending meets'))
      (λ usage. subst (λ (e : Ending). TriesBy games seed before first.ended e) usage meets)
      (one_trial games seed one accounts sample found query before first.ended second.ended first.ending second.ending told (sym output ∙ well) (sym output' ∙ well')
      (fed_by status first.ending first.status_is fed) (fed_by status' second.ending second.status_is fed') meets meets')

  -- of an import
  pub one_importing : (store file image stream label : List ℕ) (workers workers' : ℕ) → OneGame → OneAccount → OneOpening → task_of words ≡ Some (Import store file workers label) → task_of words' ≡ Some (Import store file workers' label) → IsToldStore store image before → IsToldFile file stream before
      → GoesWell before after → ReadsWell before after → GoesWell before other → ReadsWell before other → HasMemory status before after → HasMemory status' before other → (status ≡ status') × ImportAlike store status after other
  one_importing store file image stream label workers workers' one accounts once asks asks' told told_file well reads well' reads' fed fed' =
      let meets = meets_task (Import store file workers label) words before first.ended first.ending status asks fed.0 first.status_is first.meets in
      let meets' = meets_task (Import store file workers' label) words' before second.ended second.ending status' asks' fed'.0 second.status_is second.meets in
      let grew = imported_errors store file label before first.ended first.ending meets in
      let grew' = imported_errors store file label before second.ended second.ending meets' in
      let fine = calm first.ending before first.ended after grew.0 errors reports grew.1 first.tells in
      let fine' = calm second.ending before second.ended other grew'.0 errors reports' grew'.1 second.tells in
      let still = reports_before first.ending before first.ended after grew.0 reports grew.1 first.tells in
      let still' = reports_before second.ending before second.ended other grew'.0 reports' grew'.1 second.tells in
      let rest = told_rest first.ending first.ended after first.tells in
      let rest' = told_rest second.ending second.ended other second.tells in
      let host : after.host ≡ first.ended.host = ap (λ (w : World). w.host) rest in
      let host' : other.host ≡ second.ended.host = ap (λ (w : World). w.host) rest' in
      let both = one_import store image file stream label before first.ended second.ended first.ending second.ending one accounts once told told_file errors
      (goes_before first.ending before first.ended after first.tells well) (sym (ap (λ (h : HostState). h.file_faults) host) ∙ reads) still
      (goes_before second.ending before second.ended other second.tells well') (sym (ap (λ (h : HostState). h.file_faults) host') ∙ reads') still'
      (memory_before status first.ending before first.ended after first.status_is first.tells fed) (memory_before status' second.ending before second.ended other second.status_is second.tells fed') meets meets' in
      let alike = both.1 in
      let moved = subst (λ (e : Ending). Tells e second.ended other) (sym both.0) second.tells in
      let P : HostState → HostState → Type 0 = λ h k. k ≡ record h { calls = k.calls; disks = put store (k.disks store) h.disks } in
      let Q : HostState → HostState → Type 0 = λ h k. HoldAlike (h.disks store) (k.disks store) in (
        first.status_is ∙ ap status_of both.0 ∙ sym second.status_is,
        record {
          streams = record {
            input = ap (λ (w : World). w.input) rest' ∙ alike.streams.input ∙ sym (ap (λ (w : World). w.input) rest);
            output = ap (λ (w : World). w.output) rest' ∙ alike.streams.output ∙ sym (ap (λ (w : World). w.output) rest);
            errors = sym (told_alike first.ending before first.ended after second.ended other
                (no_usage_imported store file label before first.ended first.ending meets) fine fine' (sym alike.streams.errors) first.tells moved);
          };
          disk = subst (λ (h : HostState). Q h other.host) (sym host) (subst (λ (k : HostState). Q first.ended.host k) (sym host') alike.disk);
          calls = λ differs.
              ap (λ (h : HostState). h.calls) host' ∙ alike.calls (λ eight. differs (first.status_is ∙ eight)) ∙ sym (ap (λ (h : HostState). h.calls) host);
          rest = subst (λ (h : HostState). P h other.host) (sym host) (subst (λ (k : HostState). P first.ended.host k) (sym host') alike.rest);
        },
      )

-- a fault of the file of openings is none of a store
stops_not_seven : (openings : Option (List ℕ)) (before after : World) (ending : Ending) → StopsAtBook openings before after ending → status_of ending ≡ 7 → ⊥
stops_not_seven None before after ending stops seven = stops
stops_not_seven (Some name) before after ending (fault, is, lacks, only) seven = by_fault fault lacks (sym (ap status_of is) ∙ seven)
  where
    by_fault : (fault : Fault) → LacksBook name fault before.host after.host → status_of (Stopped fault) ≡ 7 → ⊥
    by_fault (faults.CannotOpen refused) lacks seven = omega (arith, seven)
    by_fault faults.ReadFault lacks seven = omega (arith, seven)
    by_fault faults.OpeningsTooLong lacks seven = omega (arith, seven)
    by_fault (faults.BadOpenings row cause) lacks seven = omega (arith, seven)
    by_fault faults.OutOfMemory lacks seven = omega (arith, seven)
    by_fault faults.Usage lacks seven = lacks
    by_fault (faults.BadParameter parameter) lacks seven = lacks
    by_fault faults.BadLabel lacks seven = lacks
    by_fault faults.SpillFault lacks seven = lacks
    by_fault (faults.SpillDamaged part) lacks seven = lacks
    by_fault faults.WriteFault lacks seven = lacks
    by_fault faults.DiskFault lacks seven = lacks
    by_fault (faults.NotEmpty size) lacks seven = lacks
    by_fault faults.NotAStore lacks seven = lacks
    by_fault (faults.OtherFormat number) lacks seven = lacks
    by_fault (faults.Damaged gate) lacks seven = lacks
    by_fault (faults.Full games size) lacks seven = lacks
    by_fault faults.CannotAccept lacks seven = lacks
    by_fault faults.TooMuchInput lacks seven = lacks

-- what the file came to is seen once that was told
lacks_told : (openings : Option (List ℕ)) (before ended after : World) (ending : Ending) → StopsAtBook openings before ended ending → Tells ending ended after
    → LacksOpenings openings before after
lacks_told None before ended after ending stops tells = absurd stops
lacks_told (Some name) before ended after ending (fault, is, lacks, only) tells =
    let host : after.host ≡ ended.host = ap (λ (w : World). w.host) (told_rest ending ended after tells) in
    (fault, subst (λ (h : HostState). LacksBook name fault before.host h) (sym host) lacks)

module _ (words words' : List (List ℕ)) (before after other : World) (status status' : ℕ) (first : Runs words before after status) (second : Runs words' before other status') (service : Service) (workers : ℕ) (openings : Option (List ℕ)) (image : List ℕ)
    (once : OneOpening) (book_once : OneBook) (asks : task_of words ≡ Some (serving openings service)) (asks' : task_of words' ≡ Some (serving openings (with_workers workers service))) (told : IsToldStore service.store image before) (opens : IsToldOpenings openings before)
    (well' : GoesWell before other) where
  serves_first : status ≢ 9 → NamedBy openings (λ book. Serves (with_book book service)) before first.ended first.ending
  serves_first fed = meets_task (serving openings service) words before first.ended first.ending status asks fed first.status_is first.meets

  serves_second : status' ≢ 9 → NamedBy openings (λ book. Serves (with_workers workers (with_book book service))) before second.ended second.ending
  serves_second fed' = meets_task (serving openings (with_workers workers service)) words' before second.ended second.ending status' asks' fed' second.status_is second.meets

  still_well : GoesWell before second.ended
  still_well = goes_before second.ending before second.ended other second.tells well'

  -- by a book that both read
  module _ (book : List NamedPosition) (read : HostState) (has : HasBook openings book before.host read) where
    abbrev named : Service
    named = with_book book service

    abbrev again : Service
    again = with_workers workers named

    abbrev behind : World
    behind = record before { host = read }

    kept : SameHost before.host read
    kept = same_host openings book before.host read has

    refusing : IsToldErrors before → ReportsWell before after → ReportsWell before other → status ≡ 7 → status' ≢ 9 → Serves named behind first.ended first.ending
        → Serves again behind second.ended second.ending → (status ≡ status') × RefusedAlike service.store after other
    refusing errors reports reports' is_seven fed' meets meets' =
        let stays = told_since service.store image before read kept told in
        let still = well_since before second.ended read kept still_well in
        let seven : status_of first.ending ≡ 7 = sym first.status_is ∙ is_seven in
        let seven' = refused_too named workers image behind first.ended second.ended first.ending second.ending once stays still (fed_by status' second.ending second.status_is fed') seven meets meets' in
        let both = both_refused named workers image behind first.ended second.ended first.ending second.ending once stays seven seven' meets meets' in
        let alike = both.1 in
        let errors_are = no_more before.errors first.ended.errors (refused_errors named behind first.ended first.ending seven meets) in
        let errors_are' = no_more before.errors second.ended.errors (refused_errors again behind second.ended second.ending seven' meets') in
        let fine = calm first.ending before first.ended after [] errors reports errors_are first.tells in
        let fine' = calm second.ending before second.ended other [] errors reports' errors_are' second.tells in
        let moved = subst (λ (e : Ending). Tells e second.ended other) (sym both.0) second.tells in
        let rest = told_rest first.ending first.ended after first.tells in
        let rest' = told_rest second.ending second.ended other second.tells in (
          first.status_is ∙ ap status_of both.0 ∙ sym second.status_is,
          record {
            streams = record {
              input = ap (λ (w : World). w.input) rest' ∙ alike.streams.input ∙ sym (ap (λ (w : World). w.input) rest);
              output = ap (λ (w : World). w.output) rest' ∙ alike.streams.output ∙ sym (ap (λ (w : World). w.output) rest);
              errors = sym (told_alike first.ending before first.ended after second.ended other (λ usage. omega (arith, seven, ap status_of usage)) fine fine' (sym alike.streams.errors) first.tells moved);
            };
            disk = ap (λ (w : World). w.host.disks service.store) rest' ∙ alike.disk ∙ sym (ap (λ (w : World). w.host.disks service.store) rest);
            calls = ap (λ (w : World). w.host.calls) rest' ∙ alike.calls ∙ sym (ap (λ (w : World). w.host.calls) rest);
            faults = ap (λ (w : World). w.host.disk_faults) rest' ∙ alike.faults ∙ sym (ap (λ (w : World). w.host.disk_faults) rest);
          },
        )

    serving_by : GoesWell before after → status ≢ 7 → status ≢ 9 → status' ≢ 9 → Serves named behind first.ended first.ending
        → Serves again behind second.ended second.ending → ServedAlikeBehind named workers image behind after other
    serving_by well differs fed fed' meets meets' =
        let stays = told_since service.store image before read kept told in
        let fine = well_since before first.ended read kept (goes_before first.ending before first.ended after first.tells well) in
        let fine' = well_since before second.ended read kept still_well in
        let both = both_served named workers image behind first.ended second.ended first.ending second.ending once stays fine fine'
        (fed_by status first.ending first.status_is fed) (fed_by status' second.ending second.status_is fed') (λ seven. differs (first.status_is ∙ seven)) meets meets' in
        let rest = told_rest first.ending first.ended after first.tells in
        let rest' = told_rest second.ending second.ended other second.tells in
        let there = told_last named again both.0 behind first.ended second.ended after.errors other.errors both.2 in
        let P : World → Type 0 = λ w. ServedAlike named again both.0 behind w (record second.ended { errors = other.errors }) in
        let Q : World → Type 0 = λ w. ServedAlike named again both.0 behind after w in
        (both.0, both.1, subst Q (sym rest') (subst P (sym rest) there))

  -- the second by the book that the first read
  moved_to : (book book' : List NamedPosition) (read read' : HostState) → (book ≡ book') × (read ≡ read')
      → Serves (with_workers workers (with_book book' service)) (record before { host = read' }) second.ended second.ending
      → Serves (with_workers workers (with_book book service)) (record before { host = read }) second.ended second.ending
  moved_to book book' read read' same serves =
      let there = subst (λ (h : HostState). Serves (with_workers workers (with_book book' service)) (record before { host = h }) second.ended second.ending) (sym same.1) serves in
      subst (λ (b : List NamedPosition). Serves (with_workers workers (with_book b service)) (record before { host = read }) second.ended second.ending) (sym same.0) there

  -- of a store that is refused
  pub one_refusing : IsToldErrors before → ReportsWell before after → ReportsWell before other → status ≡ 7 → status' ≢ 9
      → LacksOpenings openings before other ⊎ ((status ≡ status') × RefusedAlike service.store after other)
  one_refusing errors reports reports' is_seven fed' = by_first (serves_first (λ nine. omega (arith, is_seven, nine))) (serves_second fed')
    where
      by_first : NamedBy openings (λ book. Serves (with_book book service)) before first.ended first.ending
          → NamedBy openings (λ book. Serves (with_workers workers (with_book book service))) before second.ended second.ending
          → LacksOpenings openings before other ⊎ ((status ≡ status') × RefusedAlike service.store after other)
      by_first (inr stops) second_by = absurd (stops_not_seven openings before first.ended first.ending stops (sym first.status_is ∙ is_seven))
      by_first (inl (book, read, has, meets)) (inr stops') = inl (lacks_told openings before second.ended other second.ending stops' second.tells)
      by_first (inl (book, read, has, meets)) (inl (book', read', has', meets')) =
          inr (refusing book read has errors reports reports' is_seven fed' meets
          (moved_to book book' read read' (one_book book_once openings book book' before read read' opens has has') meets'))

  -- of a store that is served
  pub one_serving : GoesWell before after → status ≢ 7 → status ≢ 9 → status' ≢ 9
      → LacksOpenings openings before after ⊎ (LacksOpenings openings before other
      ⊎ ((book : List NamedPosition) × (read : HostState) × HasBook openings book before.host read
      × ServedAlikeBehind (with_book book service) workers image (record before { host = read }) after other))
  one_serving well differs fed fed' = by_first (serves_first fed) (serves_second fed')
    where
      by_first : NamedBy openings (λ book. Serves (with_book book service)) before first.ended first.ending
          → NamedBy openings (λ book. Serves (with_workers workers (with_book book service))) before second.ended second.ending
          → LacksOpenings openings before after ⊎ (LacksOpenings openings before other
          ⊎ ((book : List NamedPosition) × (read : HostState) × HasBook openings book before.host read
          × ServedAlikeBehind (with_book book service) workers image (record before { host = read }) after other))
      by_first (inr stops) second_by = inl (lacks_told openings before first.ended after first.ending stops first.tells)
      by_first (inl (book, read, has, meets)) (inr stops') = inr (inl (lacks_told openings before second.ended other second.ending stops' second.tells))
      by_first (inl (book, read, has, meets)) (inl (book', read', has', meets')) =
          inr (inr (
            book,
            read,
            has,
            serving_by book read has well differs fed fed' meets
                (moved_to book book' read read' (one_book book_once openings book book' before read read' opens has has') meets'),
          ))
