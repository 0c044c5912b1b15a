-- A listing of a told store comes to one thing, where no call fails and memory is there.
use Rattle.std.proofs.Common.{◌≡◌, ◌⊎◌, inl, inr, ℕ, List, Option, Some, refl, sym, ap, ◌∙◌}
use Rattle.std.specs.Prelude.{◌≢◌}
use Rattle.std.specs.Io.KnownBytes.{append_known}
use Rattle.import_run.proofs.LawLemmas.{no_rise}
use Rattle.plain_laws.specs.Options.{IfSome-at}
use Rattle.outside.specs.Stream.{Takes}
use Rattle.explorer_model.specs.declared.archive.Batch.{Batch}
use Rattle.explorer_model.specs.declared.store.LogFault.{LogFault}
use Rattle.explorer_model.specs.declared.store.LogFault.TheVariants as log
use Rattle.explorer_model.specs.Journal.{IsSound}
use Rattle.manifest.specs.Manifest.{HasJournal}
use Rattle.ingest_desk.specs.Openings.{IsWrong}
use Rattle.host.specs.Hosts.{HostState}
use Rattle.explorer.specs.Laws.{GoesWell, IsToldStore}
use Rattle.explorer.specs.Lines.{Ending, Done, Stopped, status_of}
use Rattle.explorer.specs.ListBatches.{Lists, ListsBy, batch_lines}
use Rattle.explorer.specs.Opened.{IsRefusedBy, OpensTo, RefusesStore}
use Rattle.explorer.specs.World.{World}
use Rattle.explorer.specs.declared.fault.Fault.TheVariants as faults
use Rattle.explorer.proofs.LawLemmas.OneEnding.{appended}
use Rattle.explorer.proofs.LawLemmas.Question.{OneOpening, refusal}
use Rattle.explorer.proofs.LawLemmas.ToldStore.{left_by, refused_in, used}

-- ---- what a listing comes to

abbrev listed_in : List ℕ → List ℕ → World → List Batch → World
listed_in store file before journal = record before {
  output = record before.output
      { written = append_known before.output.written (batch_lines 1 journal) };
  host = left_by store (Some file) before.host;
}

record IsListed (store file : List ℕ) (before after : World) : Type 0 where
  journal : List Batch
  read : HasJournal journal file
  sound : IsSound journal
  after_is : after ≡ listed_in store file before journal

abbrev Comes : List ℕ → List ℕ → World → World → Ending → Type 0
Comes store file before after ending =
    ((ending ≡ Done) × IsListed store file before after)
    ⊎ ((fault : LogFault) × (ending ≡ refusal fault) × IsWrong fault file
    × (after ≡ refused_in store file before))

module _ (store file : List ℕ) (before after : World)
    (told : IsToldStore store file before) (well : GoesWell before after) where
  lists : Lists (λ lines. Takes lines before.output after.output) store before after
      → Comes store file before after Done
  lists a =
      let handed = a.read.hands.content ∙ told.disk in
      let host : after.host ≡ left_by store (Some file) before.host =
      used store (OpensTo a.journal) before.host after.host a.read well.faults
      ∙ ap (λ (o : Option (List ℕ)). left_by store o before.host) (a.read.does.kept ∙ handed) in
      let lines = batch_lines 1 a.journal in
      let written =
      appended before.output.written after.output.written lines told.output a.wrote.appended in
      let output : after.output ≡ record before.output { written = append_known before.output.written lines } =
      a.wrote.rest ∙ ap (λ (w : Option (List ℕ)). record before.output { written = w }) written in
      inl (
        refl,
        record {
          journal = a.journal;
          read = IfSome-at (HasJournal a.journal) a.read.handed.content file handed a.read.does.read;
          sound = a.read.does.sound;
          after_is = a.rest ∙ (λ i. record before { output = output i; host = host i });
        },
      )

  refuses : (fault : LogFault) → RefusesStore fault store before after
      → Comes store file before after (refusal fault)
  refuses fault by =
      let uses = by.0 in
      let handed = uses.hands.content ∙ told.disk in
      let host : after.host ≡ left_by store (Some file) before.host =
      used store (IsRefusedBy fault) before.host after.host uses well.faults
      ∙ ap (λ (o : Option (List ℕ)). left_by store o before.host) (uses.does.kept ∙ handed) in
      inr (
        fault,
        refl,
        IfSome-at (IsWrong fault) uses.handed.content file handed uses.does.wrong,
        by.1 ∙ ap (λ (h : HostState). record before { host = h }) host,
      )

  comes : (ending : Ending) → status_of ending ≢ 9 → ListsBy store before after ending
      → Comes store file before after ending
  comes Done fed by = lists by
  comes (Stopped faults.WriteFault) fed by =
      absurd (no_rise before.output.write_faults after.output.write_faults well.writes told.writes by.wrote.rises)
  comes (Stopped faults.NotAStore) fed by = refuses log.NotALog by
  comes (Stopped (faults.OtherFormat number)) fed by = refuses (log.OtherFormat number) by
  comes (Stopped (faults.Damaged gate)) fed by = refuses (log.Damaged gate) by
  comes (Stopped faults.DiskFault) fed by =
      absurd (no_rise before.host.disk_faults after.host.disk_faults well.faults told.faults by.1)
  comes (Stopped (faults.CannotOpen name)) fed by =
      absurd (no_rise before.host.own_faults after.host.own_faults well.refusals told.refusals by.1.rises)
  comes (Stopped faults.OutOfMemory) fed by = absurd (fed refl)
  comes (Stopped faults.Usage) fed by = absurd by
  comes (Stopped (faults.BadParameter name)) fed by = absurd by
  comes (Stopped faults.BadLabel) fed by = absurd by
  comes (Stopped faults.SpillFault) fed by = absurd by
  comes (Stopped (faults.SpillDamaged part)) fed by = absurd by
  comes (Stopped faults.OpeningsTooLong) fed by = absurd by
  comes (Stopped (faults.BadOpenings row cause)) fed by = absurd by
  comes (Stopped faults.ReadFault) fed by = absurd by
  comes (Stopped faults.TooMuchInput) fed by = absurd by
  comes (Stopped (faults.Full games bytes)) fed by = absurd by
  comes (Stopped (faults.NotEmpty size)) fed by = absurd by
  comes (Stopped faults.CannotAccept) fed by = absurd by

-- ---- two listings

same_coming : (store file : List ℕ) (before after other : World) (ending ending' : Ending) → OneOpening
    → Comes store file before after ending → Comes store file before other ending' → (ending ≡ ending') × (after ≡ other)
same_coming store file before after other ending ending' once (inl a) (inl b) =
    let x = a.1 in
    let y = b.1 in
    let journals = once.opened file x.journal y.journal x.read y.read in
    (a.0 ∙ sym b.0, x.after_is ∙ ap (λ (j : List Batch). listed_in store file before j) journals ∙ sym y.after_is)
same_coming store file before after other ending ending' once (inl a) (inr b) =
    absurd (once.either file a.1.journal b.0 a.1.read a.1.sound b.2)
same_coming store file before after other ending ending' once (inr a) (inl b) =
    absurd (once.either file b.1.journal a.0 b.1.read b.1.sound a.2)
same_coming store file before after other ending ending' once (inr a) (inr b) =
    let one = once.refused file a.0 b.0 a.2 b.2 in
    (a.1 ∙ ap refusal one ∙ sym b.1, a.3 ∙ sym b.3)

pub one_listing : (store file : List ℕ) (before after other : World) (ending ending' : Ending)
    → OneOpening → IsToldStore store file before → GoesWell before after → GoesWell before other
    → status_of ending ≢ 9 → status_of ending' ≢ 9
    → ListsBy store before after ending → ListsBy store before other ending'
    → (ending ≡ ending') × (after ≡ other)
one_listing store file before after other ending ending' once told well well' fed fed' first second =
    same_coming store file before after other ending ending' once (comes store file before after told well ending fed first)
    (comes store file before other told well' ending' fed' second)
