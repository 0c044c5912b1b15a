-- A question over a told store comes to one thing, where no call fails and memory is there.
use Rattle.std.proofs.Common.{◌≡◌, ◌⊎◌, inl, inr, ℕ, List, Option, Some, Result, Ok, Err, refl, sym, ap, subst, ◌∙◌}
use Rattle.std.specs.Prelude.{◌≢◌}
use Rattle.std.specs.Io.KnownBytes.{append_known}
use Rattle.import_run.proofs.LawLemmas.{no_rise}
use Rattle.plain_laws.specs.Options.{IfSome-at}
use Rattle.outside.specs.Stream.{Takes}
use Rattle.explorer_model.specs.declared.answer.Found.{Found}
use Rattle.explorer_model.specs.declared.archive.Batch.{Batch}
use Rattle.explorer_model.specs.declared.opening.Naming.{Naming}
use Rattle.explorer_model.specs.declared.query.BadParameter.{BadParameter}
use Rattle.explorer_model.specs.declared.query.Query.{Query}
use Rattle.explorer_model.specs.declared.store.LogFault.{LogFault}
use Rattle.explorer_model.specs.declared.store.LogFault.TheVariants as log
use Rattle.explorer_model.specs.Finds.{IsFound}
use Rattle.explorer_model.specs.Journal.{IsSound}
use Rattle.explorer_model.specs.Openings.{NamedPosition}
use Rattle.record_log.specs.declared.fault.OpenFault.TheVariants as opening
use Rattle.manifest.specs.Manifest.{HasJournal}
use Rattle.ingest_desk.specs.Openings.{IsWrong}
use Rattle.host.specs.Hosts.{HostState}
use Rattle.explorer.specs.Answer.{IsNamingOf, answer_line}
use Rattle.explorer.specs.Book.{NamedBy}
use Rattle.explorer.specs.Faults.{fault_of_opening}
use Rattle.explorer.specs.Laws.{GoesWell, IsToldOpenings, IsToldStore, OpensWell}
use Rattle.explorer.specs.Lines.{Ending, Done, Stopped, status_of}
use Rattle.explorer.specs.Opened.{IsRefusedBy, OpensTo, RefusesStore}
use Rattle.explorer.specs.Query.Store.{Answers, AsksBy, AsksFor, QueriesBy}
use Rattle.explorer.specs.World.{World}
use Rattle.explorer.specs.declared.fault.Fault.TheVariants as faults
use Rattle.explorer.proofs.LawLemmas.{OneAnswer, OneNaming}
use Rattle.explorer.proofs.LawLemmas.OneEnding.{OneQuery, appended}
use Rattle.explorer.proofs.LawLemmas.Openings.{OneBook, SameHost, not_either, one_book, one_fault, same_host}
use Rattle.explorer.proofs.LawLemmas.ToldStore.{left_by, refused_in, used}

-- what the lower crates say: a file is opened with one answer
pub record OneOpening : Type 0 where
  pub opened : (file : List ℕ) (journal other : List Batch)
      → HasJournal journal file → HasJournal other file → journal ≡ other
  pub refused : (file : List ℕ) (fault other : LogFault)
      → IsWrong fault file → IsWrong other file → fault ≡ other
  pub either : (file : List ℕ) (journal : List Batch) (fault : LogFault)
      → HasJournal journal file → IsSound journal → IsWrong fault file → ⊥

-- ---- what a question comes to

abbrev answered_in : List ℕ → List ℕ → World → Found → Naming → World
answered_in store file before found naming = record before {
  output = record before.output
      { written = append_known before.output.written (answer_line found naming) };
  host = left_by store (Some file) before.host;
}

abbrev pub refusal : LogFault → Ending
refusal fault = Stopped (fault_of_opening (opening.Log fault))

record IsAnswered (store file : List ℕ) (query : Query) (book : List NamedPosition) (before after : World) : Type 0 where
  journal : List Batch
  read : HasJournal journal file
  sound : IsSound journal
  found : Found
  is_found : IsFound journal query found
  naming : Naming
  is_naming : IsNamingOf book query found naming
  after_is : after ≡ answered_in store file before found naming

abbrev Comes : List ℕ → List ℕ → Query → List NamedPosition → World → World → Ending → Type 0
Comes store file query book before after ending =
    ((ending ≡ Done) × IsAnswered store file query book before after)
    ⊎ ((fault : LogFault) × (ending ≡ refusal fault) × IsWrong fault file
    × (after ≡ refused_in store file before))

module _ (store file : List ℕ) (query : Query) (book : List NamedPosition) (before after : World)
    (told : IsToldStore store file before) (well : GoesWell before after) where
  answers : Answers (λ line. Takes line before.output after.output) store query book before after
      → Comes store file query book before after Done
  answers a =
      let handed = a.read.hands.content ∙ told.disk in
      let host : after.host ≡ left_by store (Some file) before.host =
      used store (OpensTo a.journal) before.host after.host a.read well.faults
      ∙ ap (λ (o : Option (List ℕ)). left_by store o before.host) (a.read.does.kept ∙ handed) in
      let line = answer_line a.found a.naming in
      let written =
      appended before.output.written after.output.written line told.output a.wrote.appended in
      let output : after.output ≡ record before.output { written = append_known before.output.written line } =
      a.wrote.rest ∙ ap (λ (w : Option (List ℕ)). record before.output { written = w }) written in
      let is : after ≡ answered_in store file before a.found a.naming =
      a.rest ∙ (λ i. record before { output = output i; host = host i }) in
      inl (
        refl,
        record {
          journal = a.journal;
          read = IfSome-at (HasJournal a.journal) a.read.handed.content file handed a.read.does.read;
          sound = a.read.does.sound;
          found = a.found;
          is_found = a.is_found;
          naming = a.naming;
          is_naming = a.is_naming;
          after_is = is;
        },
      )

  refuses : (fault : LogFault) → RefusesStore fault store before after
      → Comes store file query book before after (refusal fault)
  refuses fault by =
      let uses = by.0 in
      let handed = uses.hands.content ∙ told.disk in
      let host : after.host ≡ left_by store (Some file) before.host =
      used store (IsRefusedBy fault) before.host after.host uses well.faults
      ∙ ap (λ (o : Option (List ℕ)). left_by store o before.host) (uses.does.kept ∙ handed) in
      inr (
        fault,
        refl,
        IfSome-at (IsWrong fault) uses.handed.content file handed uses.does.wrong,
        by.1 ∙ ap (λ (h : HostState). record before { host = h }) host,
      )

  comes : (ending : Ending) → status_of ending ≢ 9 → AsksBy store query book before after ending
      → Comes store file query book before after ending
  comes Done fed by = answers by
  comes (Stopped faults.WriteFault) fed by =
      absurd (no_rise before.output.write_faults after.output.write_faults well.writes told.writes by.wrote.rises)
  comes (Stopped faults.NotAStore) fed by = refuses log.NotALog by
  comes (Stopped (faults.OtherFormat number)) fed by = refuses (log.OtherFormat number) by
  comes (Stopped (faults.Damaged gate)) fed by = refuses (log.Damaged gate) by
  comes (Stopped faults.DiskFault) fed by =
      absurd (no_rise before.host.disk_faults after.host.disk_faults well.faults told.faults by.1)
  comes (Stopped (faults.CannotOpen name)) fed by =
      absurd (no_rise before.host.own_faults after.host.own_faults well.refusals told.refusals by.1.rises)
  comes (Stopped faults.Usage) fed by = absurd by
  comes (Stopped (faults.BadParameter name)) fed by = absurd by
  comes (Stopped faults.BadLabel) fed by = absurd by
  comes (Stopped faults.SpillFault) fed by = absurd by
  comes (Stopped (faults.SpillDamaged part)) fed by = absurd by
  comes (Stopped faults.OpeningsTooLong) fed by = absurd by
  comes (Stopped (faults.BadOpenings row cause)) fed by = absurd by
  comes (Stopped faults.ReadFault) fed by = absurd by
  comes (Stopped faults.TooMuchInput) fed by = absurd by
  comes (Stopped (faults.Full games bytes)) fed by = absurd by
  comes (Stopped (faults.NotEmpty size)) fed by = absurd by
  comes (Stopped faults.OutOfMemory) fed by = absurd (fed refl)
  comes (Stopped faults.CannotAccept) fed by = absurd by

-- ---- two questions

-- what was told stays told behind the file of openings
pub told_since : (store file : List ℕ) (before : World) (read : HostState) → SameHost before.host read → IsToldStore store file before
    → IsToldStore store file (record before { host = read })
told_since store file before read same told = record {
  disk = ap (λ (disks : List ℕ → Option (List ℕ)). disks store) same.disks ∙ told.disk;
  output = told.output;
  writes = told.writes;
  refusals = rw same.own told.refusals;
  faults = rw same.disk_faults told.faults;
}

pub well_since : (before after : World) (read : HostState) → SameHost before.host read → GoesWell before after
    → GoesWell (record before { host = read }) after
well_since before after read same well = record {
  writes = well.writes;
  refusals = well.refusals ∙ sym same.own;
  faults = well.faults ∙ sym same.disk_faults;
}

module _ (store file : List ℕ) (openings : Option (List ℕ)) (before after other : World) (ending ending' : Ending)
    (found : OneAnswer) (one_naming : OneNaming) (open_once : OneOpening) (book_once : OneBook) (told : IsToldStore store file before)
    (opens : IsToldOpenings openings before) (well : GoesWell before after) (read_well : OpensWell openings before after)
    (well' : GoesWell before other) (read_well' : OpensWell openings before other) (fed : status_of ending ≢ 9)
    (fed' : status_of ending' ≢ 9) where
  abbrev BothCome : Type 0
  BothCome = (ending ≡ ending') × (after ≡ other)

  same_coming : (query : Query) (book : List NamedPosition) (now : World) → Comes store file query book now after ending
      → Comes store file query book now other ending' → BothCome
  same_coming query book now (inl a) (inl b) =
      let x = a.1 in
      let y = b.1 in
      let journals = open_once.opened file x.journal y.journal x.read y.read in
      let there : IsFound y.journal query x.found =
      subst (λ (j : List Batch). IsFound j query x.found) journals x.is_found in
      let one = found y.journal query x.found y.found there y.is_found in
      let named : IsNamingOf book query y.found x.naming = subst (λ (f : Found). IsNamingOf book query f x.naming) one x.is_naming in
      let names = one_naming book query _ x.naming y.naming named y.is_naming in
      (a.0 ∙ sym b.0, x.after_is ∙ ap (λ (f : Found). answered_in store file now f x.naming) one ∙ ap (answered_in store file now y.found) names ∙ sym y.after_is)
  same_coming query book now (inl a) (inr b) =
      absurd (open_once.either file a.1.journal b.0 a.1.read a.1.sound b.2)
  same_coming query book now (inr a) (inl b) =
      absurd (open_once.either file b.1.journal a.0 b.1.read b.1.sound a.2)
  same_coming query book now (inr a) (inr b) =
      let one = open_once.refused file a.0 b.0 a.2 b.2 in
      (a.1 ∙ ap refusal one ∙ sym b.1, a.3 ∙ sym b.3)

  same_named : (query : Query) → NamedBy openings (AsksBy store query) before after ending → NamedBy openings (AsksBy store query) before other ending'
      → BothCome
  same_named query (inl (book, read, has, by)) (inl (book', read', has', by')) =
      let same = one_book book_once openings book book' before read read' opens has has' in
      let moved = subst (λ (b : List NamedPosition). AsksBy store query b (record before { host = read }) after ending) same.0 by in
      let there = subst (λ (h : HostState). AsksBy store query book' (record before { host = h }) after ending) same.1 moved in
      let kept = same_host openings book' before.host read' has' in
      let now : World = record before { host = read' } in
      let stays = told_since store file before read' kept told in
      same_coming query book' now (comes store file query book' now after stays (well_since before after read' kept well) ending fed there)
      (comes store file query book' now other stays (well_since before other read' kept well') ending' fed' by')
  same_named query (inl (book, read, has, by)) (inr stops') =
      absurd (not_either book_once openings book before other read ending' opens read_well' fed' has stops')
  same_named query (inr stops) (inl (book', read', has', by')) =
      absurd (not_either book_once openings book' before after read' ending opens read_well fed has' stops)
  same_named query (inr stops) (inr stops') =
      one_fault book_once openings before after other ending ending' opens read_well read_well' fed fed' stops stops'

  same_asking : (r s : Result Query BadParameter) → r ≡ s → AsksFor (AsksBy store) openings r before after ending
      → AsksFor (AsksBy store) openings s before other ending' → BothCome
  same_asking r s is by by' =
      of_one s (subst (λ (q : Result Query BadParameter). AsksFor (AsksBy store) openings q before after ending) is by) by'
    where
      of_one : (q : Result Query BadParameter) → AsksFor (AsksBy store) openings q before after ending
          → AsksFor (AsksBy store) openings q before other ending' → BothCome
      of_one (Err bad) by by' = (by.0 ∙ sym by'.0, by.1 ∙ sym by'.1)
      of_one (Ok query) by by' = same_named query by by'

  pub one_question : (text : List ℕ) → OneQuery → QueriesBy (AsksBy store) text openings before after ending
      → QueriesBy (AsksBy store) text openings before other ending' → BothCome
  one_question text query (inl a) second = absurd (fed (ap status_of a.0))
  one_question text query (inr a) (inl b) = absurd (fed' (ap status_of b.0))
  one_question text query (inr a) (inr b) = same_asking a.0 b.0 (query text a.0 b.0 a.1 b.1) a.2 b.2
