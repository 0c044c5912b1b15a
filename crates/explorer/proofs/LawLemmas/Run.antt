-- A run over a told input has one status and writes one thing, where no call fails.
use Rattle.std.proofs.Common.{◌≡◌, ℕ, ◌-◌, ◌^◌, ◌<◌, ◌≤◌, ◌⊎◌, inl, inr, List, [], ◌∷◌, Option, None, Some, Result, Ok, Err, refl, sym, ap, subst, ◌∙◌, arith}
use Rattle.std.specs.Prelude.{IsSome}
use Rattle.std.specs.Io.KnownBytes.{Appends, append_known}
use Rattle.outside.specs.Stream.{Grows, Stream, Writes}
use Rattle.outside.proofs.StreamLemmas.{grows-none, writes-grows}
use Rattle.explorer_model.specs.Openings.{NamedPosition}
use Rattle.explorer_model.specs.declared.query.BadParameter.{BadParameter}
use Rattle.explorer_model.specs.declared.query.Query.{Query as AQuery}
use Rattle.explorer.specs.declared.fault.Fault.{Fault}
use Rattle.explorer.specs.declared.fault.Fault.TheVariants as faults
use Rattle.explorer.specs.Book.{LacksBook, NamedBy, StopsAtBook}
use Rattle.explorer.specs.Count.{Counts, CountsBy, CountsFor, CountsOver}
use Rattle.explorer.specs.Laws.{CountsAtMost, IsTold, IsToldOpenings, OpensWell, WroteAlike, WroteAlikeButReport, WroteBehind, openings_of}
use Rattle.explorer.specs.Lines.{AreLinesOf, Ending, Done, Stopped, Tells, full_line, status_of}
use Rattle.explorer.specs.Report.{MayReport, report}
use Rattle.explorer.specs.Run.{Meets, Runs, StartsWithout}
use Rattle.command_line.specs.Task.{Task, Batches, Count, Create, Import, Migrate, Query, Serve, Trial, task_of}
use Rattle.explorer.specs.World.{World, IsFaultless}
use Rattle.import_run.proofs.VerdictLemmas.{OneGame}
use Rattle.explorer.proofs.LawLemmas.Count.{one_ending}
use Rattle.explorer.proofs.LawLemmas.{OneAnswer, OneNaming}
use Rattle.explorer.proofs.LawLemmas.NoRoom.{OneAccount}
use Rattle.explorer.proofs.LawLemmas.OneEnding.{FoundNoRoom, OneQuery, Reported, WroteBy, wrote}
use Rattle.explorer.proofs.LawLemmas.Openings.{OneBook}

-- ---- what a count writes to the errors

grew_may : (lines : List ℕ) (old new : Stream) → MayReport lines old new → (bytes : List ℕ) × Grows bytes old new
grew_may lines old new (inl writes) = writes-grows (lines ∷ []) old new writes
grew_may lines old new (inr same) = ([], subst (λ (s : Stream). Grows [] old s) (sym same) (grows-none old))

grew_by : (query : AQuery) (book : List NamedPosition) (before after : World) (ending : Ending) → CountsBy query book before after ending → (bytes : List ℕ) × Grows bytes before.errors after.errors
grew_by query book before after Done counts = writes-grows (report counts.0.refused ∷ []) before.errors after.errors counts.0.errors
grew_by query book before after (Stopped faults.WriteFault) counts = writes-grows (report counts.0.refused ∷ []) before.errors after.errors counts.0.errors
grew_by query book before after (Stopped faults.ReadFault) counts = grew_may (report counts.0.refused) before.errors after.errors counts.0.errors
grew_by query book before after (Stopped faults.TooMuchInput) counts = grew_may (report counts.0.refused) before.errors after.errors counts.0.errors
grew_by query book before after (Stopped (faults.Full games bytes)) counts = grew_may (report counts.0.refused) before.errors after.errors counts.0.errors
grew_by query book before after (Stopped faults.Usage) counts = absurd counts
grew_by query book before after (Stopped (faults.BadParameter name)) counts = absurd counts
grew_by query book before after (Stopped faults.BadLabel) counts = absurd counts
grew_by query book before after (Stopped faults.SpillFault) counts = absurd counts
grew_by query book before after (Stopped (faults.SpillDamaged part)) counts = absurd counts
grew_by query book before after (Stopped faults.OpeningsTooLong) counts = absurd counts
grew_by query book before after (Stopped (faults.BadOpenings row cause)) counts = absurd counts
grew_by query book before after (Stopped faults.DiskFault) counts = absurd counts
grew_by query book before after (Stopped (faults.NotEmpty size)) counts = absurd counts
grew_by query book before after (Stopped faults.NotAStore) counts = absurd counts
grew_by query book before after (Stopped (faults.OtherFormat number)) counts = absurd counts
grew_by query book before after (Stopped (faults.Damaged gate)) counts = absurd counts
grew_by query book before after (Stopped faults.OutOfMemory) counts = absurd counts
grew_by query book before after (Stopped (faults.CannotOpen name)) counts = absurd counts
grew_by query book before after (Stopped faults.CannotAccept) counts = absurd counts

grew_none : (before after : World) → after.errors ≡ before.errors → (bytes : List ℕ) × Grows bytes before.errors after.errors
grew_none before after same = ([], subst (λ (t : Stream). Grows [] before.errors t) (sym same) (grows-none before.errors))

grew_named : (query : AQuery) (openings : Option (List ℕ)) (before after : World) (ending : Ending) → NamedBy openings (CountsOver query) before after ending
    → (bytes : List ℕ) × Grows bytes before.errors after.errors
grew_named query openings before after ending (inl (book, read, has, inl starves)) = grew_none before after (ap (λ (w : World). w.errors) starves.rest)
grew_named query openings before after ending (inl (book, read, has, inr counts)) = grew_by query book (record before { host = read }) after ending counts
grew_named query None before after ending (inr stops) = absurd stops
grew_named query (Some name) before after ending (inr (fault, is, lacks, only)) = grew_none before after (ap (λ (w : World). w.errors) only)

grew_for : (query : Result AQuery BadParameter) (openings : Option (List ℕ)) (before after : World) (ending : Ending) → CountsFor openings query before after ending
    → (bytes : List ℕ) × Grows bytes before.errors after.errors
grew_for (Err bad) openings before after ending counts = grew_none before after (ap (λ (w : World). w.errors) counts.1)
grew_for (Ok query) openings before after ending counts = grew_named query openings before after ending counts

grew_in : (text : List ℕ) (openings : Option (List ℕ)) (before after : World) (ending : Ending) → Counts text openings before after ending
    → (bytes : List ℕ) × Grows bytes before.errors after.errors
grew_in text openings before after ending (inl starves) = grew_none before after (ap (λ (w : World). w.errors) starves.1)
grew_in text openings before after ending (inr counts) = grew_for counts.0 openings before after ending counts.2

still_told : (old new : Option (List ℕ)) (bytes : List ℕ) → IsSome old → Appends old new bytes → IsSome new
still_told None new bytes told appends = cc
still_told (Some x) None bytes told appends = absurd appends
still_told (Some x) (Some y) bytes told appends = refl

-- ---- the lines of a fault

pub same_lines : (fault : Fault) (lines others : List (List ℕ)) → (fault ≡ faults.Usage → ⊥) → AreLinesOf fault lines → AreLinesOf fault others → lines ≡ others
same_lines faults.Usage lines others differs are are' = absurd (differs refl)
same_lines (faults.BadParameter name) lines others differs are are' = are ∙ sym are'
same_lines faults.BadLabel lines others differs are are' = are ∙ sym are'
same_lines faults.SpillFault lines others differs are are' = are ∙ sym are'
same_lines (faults.SpillDamaged part) lines others differs are are' = are ∙ sym are'
same_lines faults.OpeningsTooLong lines others differs are are' = are ∙ sym are'
same_lines (faults.BadOpenings row cause) lines others differs are are' = are ∙ sym are'
same_lines faults.ReadFault lines others differs are are' = are ∙ sym are'
same_lines faults.WriteFault lines others differs are are' = are ∙ sym are'
same_lines faults.DiskFault lines others differs are are' = are ∙ sym are'
same_lines (faults.NotEmpty size) lines others differs are are' = are ∙ sym are'
same_lines faults.NotAStore lines others differs are are' = are ∙ sym are'
same_lines (faults.OtherFormat number) lines others differs are are' = are ∙ sym are'
same_lines (faults.Damaged gate) lines others differs are are' = are ∙ sym are'
same_lines (faults.Full games bytes) lines others differs are are' = are ∙ sym are'
same_lines faults.OutOfMemory lines others differs are are' = are ∙ sym are'
same_lines (faults.CannotOpen name) lines others differs are are' = are ∙ sym are'
same_lines faults.CannotAccept lines others differs are are' = are ∙ sym are'
same_lines faults.TooMuchInput lines others differs are are' = are ∙ sym are'

-- the bytes with all lines behind them
abbrev pub append_all : Option (List ℕ) → List (List ℕ) → Option (List ℕ)
append_all written [] = written
append_all written (line ∷ lines) = append_all (append_known written line) lines

pub told_behind : (written : Option (List ℕ)) (line : List ℕ) → IsSome written → IsSome (append_known written line)
told_behind None line told = cc
told_behind (Some bytes) line told = refl

wrote_all : (lines : List (List ℕ)) (old new : Stream) → IsSome old.written → old.write_faults < 2 ^ 64 - 1 → new.write_faults ≡ old.write_faults → Writes lines old new → new.written ≡ append_all old.written lines
wrote_all [] old new told low same writes = ap (λ (s : Stream). s.written) writes
wrote_all (line ∷ lines) old new told low same (middle, wrote_line, rest) =
    let first = (writes-grows (line ∷ []) old middle (middle, wrote_line, refl)).1.never_falls.least in
    let later = (writes-grows lines middle new rest).1.never_falls.least in
    let still : middle.write_faults ≡ old.write_faults = omega (arith, first, later, same) in
    let is = wrote line old middle told low still (middle, wrote_line, refl) in
    let known : IsSome middle.written = subst (λ (o : Option (List ℕ)). IsSome o) (sym is) (told_behind old.written line told) in
    wrote_all lines middle new known (omega (arith, low, still)) (omega (arith, same, still)) rest ∙ ap (λ (o : Option (List ℕ)). append_all o lines) is

-- ---- how an ending is told

-- no call failed before the ending was told, nor then
fine_by : (ending : Ending) (before ended after : World) → before.errors.write_faults ≤ ended.errors.write_faults → Tells ending ended after → IsFaultless before after → IsFaultless before ended × (after.errors.write_faults ≡ ended.errors.write_faults)
fine_by Done before ended after least tells fine = (subst (λ (w : World). IsFaultless before w) tells fine, ap (λ (w : World). w.errors.write_faults) tells)
fine_by (Stopped fault) before ended after least ((lines, are, writes), rest) fine =
    let later = (writes-grows lines ended.errors after.errors writes).1.never_falls.least in
    let same : after.errors.write_faults ≡ ended.errors.write_faults = omega (arith, least, later, fine.errors) in (
      record {
        reads = ap (λ (w : World). w.input.read_faults) (sym rest) ∙ fine.reads;
        output = ap (λ (w : World). w.output.write_faults) (sym rest) ∙ fine.output;
        errors = sym same ∙ fine.errors;
      },
      same,
    )

told_alike : (ending : Ending) (ended after ended' other : World) → (ending ≡ Stopped faults.Usage → ⊥) → IsSome ended.errors.written → IsSome ended'.errors.written → ended.errors.write_faults < 2 ^ 64 - 1 → ended'.errors.write_faults < 2 ^ 64 - 1
    → after.errors.write_faults ≡ ended.errors.write_faults → other.errors.write_faults ≡ ended'.errors.write_faults → WroteAlike ended ended' → Tells ending ended after → Tells ending ended' other → WroteAlike after other
told_alike Done ended after ended' other differs told told' low low' fine fine' alike tells tells' = record {
  output = ap (λ (w : World). w.output.written) tells ∙ alike.output ∙ sym (ap (λ (w : World). w.output.written) tells');
  errors = ap (λ (w : World). w.errors.written) tells ∙ alike.errors ∙ sym (ap (λ (w : World). w.errors.written) tells');
}
told_alike (Stopped fault) ended after ended' other differs told told' low low' fine fine' alike ((lines, are, writes), rest) ((lines', are', writes'), rest') =
    let same = same_lines fault lines lines' (λ usage. differs (ap Stopped usage)) are are' in
    record {
      output = ap (λ (w : World). w.output.written) rest ∙ alike.output ∙ sym (ap (λ (w : World). w.output.written) rest');
      errors =
          wrote_all lines ended.errors after.errors told low fine writes ∙ ap (λ (o : Option (List ℕ)). append_all o lines) alike.errors ∙ ap (append_all ended'.errors.written) same
          ∙ sym (wrote_all lines' ended'.errors other.errors told' low' fine' writes');
    }

-- where a group found no room, and one may have gone without the report
full_line_behind : (lines : List ℕ) (line : List ℕ) (before ended after : Stream) → Reported lines before ended → after.written ≡ append_known ended.written line → WroteBehind lines line before after
full_line_behind lines line before ended after (inl is) behind = inl (behind ∙ ap (λ (o : Option (List ℕ)). append_known o line) is)
full_line_behind lines line before ended after (inr is) behind = inr (behind ∙ ap (λ (o : Option (List ℕ)). append_known o line) is)

full_told : (games bytes : ℕ) (lines : List ℕ) (before ended after : World) → IsSome ended.errors.written → ended.errors.write_faults < 2 ^ 64 - 1 → after.errors.write_faults ≡ ended.errors.write_faults
    → Tells (Stopped (faults.Full games bytes)) ended after → Reported lines before.errors ended.errors → WroteBehind lines (full_line games bytes) before.errors after.errors
full_told games bytes lines before ended after told low fine ((all, are, writes), rest) reported =
    full_line_behind lines (full_line games bytes) before.errors ended.errors after.errors reported
    (wrote_all all ended.errors after.errors told low fine writes ∙ ap (append_all ended.errors.written) are)

-- a run that ended alike and was told so
alike_by : (ending : Ending) (before after other : World) → (status_of ending ≡ 8 → ⊥) → WroteBy before after other ending → WroteAlike after other
alike_by Done before after other differs alike = alike
alike_by (Stopped faults.Usage) before after other differs alike = alike
alike_by (Stopped (faults.BadParameter name)) before after other differs alike = alike
alike_by (Stopped faults.BadLabel) before after other differs alike = alike
alike_by (Stopped faults.SpillFault) before after other differs alike = alike
alike_by (Stopped (faults.SpillDamaged part)) before after other differs alike = alike
alike_by (Stopped faults.OpeningsTooLong) before after other differs alike = alike
alike_by (Stopped (faults.BadOpenings row cause)) before after other differs alike = alike
alike_by (Stopped faults.ReadFault) before after other differs alike = alike
alike_by (Stopped faults.WriteFault) before after other differs alike = alike
alike_by (Stopped faults.DiskFault) before after other differs alike = alike
alike_by (Stopped (faults.NotEmpty size)) before after other differs alike = alike
alike_by (Stopped faults.NotAStore) before after other differs alike = alike
alike_by (Stopped (faults.OtherFormat number)) before after other differs alike = alike
alike_by (Stopped (faults.Damaged gate)) before after other differs alike = alike
alike_by (Stopped (faults.Full games bytes)) before after other differs alike = absurd (differs refl)
alike_by (Stopped faults.OutOfMemory) before after other differs alike = alike
alike_by (Stopped (faults.CannotOpen name)) before after other differs alike = alike
alike_by (Stopped faults.CannotAccept) before after other differs alike = alike
alike_by (Stopped faults.TooMuchInput) before after other differs alike = alike

record IsFull (ending : Ending) : Type 0 where
  games : ℕ
  bytes : ℕ
  is : ending ≡ Stopped (faults.Full games bytes)

full_by : (ending : Ending) → status_of ending ≡ 8 → IsFull ending
full_by (Stopped (faults.Full games bytes)) eight = record { games = games; bytes = bytes; is = refl }
full_by Done eight = absurd (omega (arith, eight))
full_by (Stopped faults.Usage) eight = absurd (omega (arith, eight))
full_by (Stopped (faults.BadParameter name)) eight = absurd (omega (arith, eight))
full_by (Stopped faults.BadLabel) eight = absurd (omega (arith, eight))
full_by (Stopped faults.SpillFault) eight = absurd (omega (arith, eight))
full_by (Stopped (faults.SpillDamaged part)) eight = absurd (omega (arith, eight))
full_by (Stopped faults.OpeningsTooLong) eight = absurd (omega (arith, eight))
full_by (Stopped (faults.BadOpenings row cause)) eight = absurd (omega (arith, eight))
full_by (Stopped faults.ReadFault) eight = absurd (omega (arith, eight))
full_by (Stopped faults.WriteFault) eight = absurd (omega (arith, eight))
full_by (Stopped faults.DiskFault) eight = absurd (omega (arith, eight))
full_by (Stopped (faults.NotEmpty size)) eight = absurd (omega (arith, eight))
full_by (Stopped faults.NotAStore) eight = absurd (omega (arith, eight))
full_by (Stopped (faults.OtherFormat number)) eight = absurd (omega (arith, eight))
full_by (Stopped (faults.Damaged gate)) eight = absurd (omega (arith, eight))
full_by (Stopped faults.OutOfMemory) eight = absurd (omega (arith, eight))
full_by (Stopped (faults.CannotOpen name)) eight = absurd (omega (arith, eight))
full_by (Stopped faults.CannotAccept) eight = absurd (omega (arith, eight))
full_by (Stopped faults.TooMuchInput) eight = absurd (omega (arith, eight))

full_alike : (ending : Ending) (before ended after ended' other : World) → IsSome ended.errors.written → IsSome ended'.errors.written → ended.errors.write_faults < 2 ^ 64 - 1 → ended'.errors.write_faults < 2 ^ 64 - 1
    → after.errors.write_faults ≡ ended.errors.write_faults → other.errors.write_faults ≡ ended'.errors.write_faults → IsFull ending → WroteBy before ended ended' ending → Tells ending ended after → Tells ending ended' other
    → WroteAlikeButReport before after other
full_alike ending before ended after ended' other told told' low low' fine fine' full wrote_by tells tells' =
    let F : FoundNoRoom before ended ended' = subst (λ (e : Ending). WroteBy before ended ended' e) full.is wrote_by in
    let t = subst (λ (e : Ending). Tells e ended after) full.is tells in
    let t' = subst (λ (e : Ending). Tells e ended' other) full.is tells' in
    record {
      output = ap (λ (w : World). w.output.written) t.1 ∙ F.output ∙ sym (ap (λ (w : World). w.output.written) t'.1);
      report = F.lines;
      line = full_line full.games full.bytes;
      first = full_told full.games full.bytes F.lines before ended after told low fine t F.first;
      second = full_told full.games full.bytes F.lines before ended' other told' low' fine' t' F.second;
    }

-- ---- runs

pub no_memory : (status : ℕ) (ending : Ending) → (status ≡ 9 → ⊥) → status ≡ status_of ending → ending ≡ Stopped faults.OutOfMemory → ⊥
no_memory status ending differs is starves = differs (is ∙ ap status_of starves)

abbrev OneRun : World → World → World → ℕ → ℕ → Type 0
OneRun before after other status status' =
    (status ≡ status') × ((status ≡ 2 → ⊥) → (status ≡ 8 → ⊥) → WroteAlike after other) × (status ≡ 8 → WroteAlikeButReport before after other)

-- what was asked of the host before the ending was told
pub opens_before : (openings : Option (List ℕ)) (ending : Ending) (before ended after : World) → Tells ending ended after → OpensWell openings before after
    → OpensWell openings before ended
opens_before None ending before ended after tells well = tt
opens_before (Some name) Done before ended after tells well = subst (λ (w : World). OpensWell (Some name) before w) tells well
opens_before (Some name) (Stopped fault) before ended after (lines, rest) well = record {
  refusals = sym (ap (λ (w : World). w.host.own_faults) rest) ∙ well.refusals;
  files = sym (ap (λ (w : World). w.host.file_faults) rest) ∙ well.files;
}

pub one_run : (words : List (List ℕ)) (stream : List ℕ) (before after other : World) (status status' : ℕ) → CountsAtMost (task_of words) → OneGame → OneAccount → OneAnswer → OneNaming → OneQuery → OneBook
    → IsToldOpenings (openings_of (task_of words)) before → IsTold stream before → IsFaultless before after → IsFaultless before other
    → OpensWell (openings_of (task_of words)) before after → OpensWell (openings_of (task_of words)) before other
    → (status ≡ 9 → ⊥) → (status' ≡ 9 → ⊥) → Runs words before after status → Runs words before other status' → OneRun before after other status status'
one_run words stream before after other status status' counts_only game one answer one_naming query book_once opens told fine fine' well well' fed fed' first second = by_meets first.meets second.meets
  where
    by_counts : (text : List ℕ) (openings : Option (List ℕ)) → IsToldOpenings openings before → OpensWell openings before after → OpensWell openings before other
        → Counts text openings before first.ended first.ending → Counts text openings before second.ended second.ending → OneRun before after other status status'
    by_counts text openings opens well well' counts counts' =
        let grows = grew_in text openings before first.ended first.ending counts in
        let grows' = grew_in text openings before second.ended second.ending counts' in
        let was = fine_by first.ending before first.ended after grows.1.never_falls.least first.tells fine in
        let was' = fine_by second.ending before second.ended other grows'.1.never_falls.least second.tells fine' in
        let both = one_ending text stream openings before first.ended second.ended first.ending second.ending game one answer one_naming book_once told opens
        (opens_before openings first.ending before first.ended after first.tells well) (opens_before openings second.ending before second.ended other second.tells well')
        was.0 was'.0 (λ nine. fed (first.status_is ∙ nine)) (λ nine. fed' (second.status_is ∙ nine)) query counts counts' in
        let tells : Tells first.ending second.ended other = subst (λ (e : Ending). Tells e second.ended other) (sym both.0) second.tells in
        let known = still_told before.errors.written first.ended.errors.written grows.0 told.errors grows.1.appended in
        let known' = still_told before.errors.written second.ended.errors.written grows'.0 told.errors grows'.1.appended in
        let low : first.ended.errors.write_faults < 2 ^ 64 - 1 = omega (arith, told.reports, was.0.errors) in
        let low' : second.ended.errors.write_faults < 2 ^ 64 - 1 = omega (arith, told.reports, was'.0.errors) in (
          first.status_is ∙ ap status_of both.0 ∙ sym second.status_is,
          λ differs other_than.
              told_alike first.ending first.ended after second.ended other (λ usage. differs (first.status_is ∙ ap status_of usage)) known known' low low' was.1 was'.1
              (alike_by first.ending before first.ended second.ended (λ eight. other_than (first.status_is ∙ eight)) both.1) first.tells tells,
          λ eight.
              full_alike first.ending before first.ended after second.ended other known known' low low' was.1 was'.1
              (full_by first.ending (sym first.status_is ∙ eight)) both.1 first.tells tells,
        )

    by_task : (task : Option Task) → CountsAtMost task → IsToldOpenings (openings_of task) before → OpensWell (openings_of task) before after → OpensWell (openings_of task) before other
        → Meets task before first.ended first.ending → Meets task before second.ended second.ending → OneRun before after other status status'
    by_task None only opens well well' meets meets' =
        let status_is : status ≡ 2 = first.status_is ∙ ap status_of meets.0 in
        (status_is ∙ sym (second.status_is ∙ ap status_of meets'.0), λ differs other_than. absurd (differs status_is), λ eight. absurd (omega (arith, status_is, eight)))
    by_task (Some (Count text workers openings)) only opens well well' counts counts' = by_counts text openings opens well well' counts counts'
    by_task (Some (Batches store workers)) only opens well well' meets meets' = absurd only
    by_task (Some (Create store)) only opens well well' meets meets' = absurd only
    by_task (Some (Import store file workers label)) only opens well well' meets meets' = absurd only
    by_task (Some (Migrate old new)) only opens well well' meets meets' = absurd only
    by_task (Some (Query store query workers openings spill)) only opens well well' meets meets' = absurd only
    by_task (Some (Serve store address files workers readers connections openings)) only opens well well' meets meets' = absurd only
    by_task (Some (Trial games seed workers)) only opens well well' meets meets' = absurd only

    by_meets : StartsWithout before first.ended first.ending ⊎ Meets (task_of words) before first.ended first.ending → StartsWithout before second.ended second.ending ⊎ Meets (task_of words) before second.ended second.ending → OneRun before after other status status'
    by_meets (inl starves) meets' = absurd (no_memory status first.ending fed first.status_is starves.0)
    by_meets (inr meets) (inl starves) = absurd (no_memory status' second.ending fed' second.status_is starves.0)
    by_meets (inr meets) (inr meets') = by_task (task_of words) counts_only opens well well' meets meets'
