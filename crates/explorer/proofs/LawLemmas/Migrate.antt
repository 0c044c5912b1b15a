-- A migration over told stores comes to one thing, where no call fails and memory is there.
use Rattle.std.proofs.Common.{◌≡◌, ◌⊎◌, inl, inr, ℕ, ◌-◌, Bool, true, false, List, length, Option, None, Some, refl, sym, ap, subst, ◌∙◌, arith}
use Rattle.std.specs.Prelude.{◌≢◌, IfSome, if◌then◌else◌, string_bytes}
use Rattle.std.specs.Io.KnownBytes.{append_known}
use Rattle.std.specs.Str.{bytes_eq}
use Rattle.import_run.proofs.LawLemmas.{no_rise}
use Rattle.plain_laws.specs.Bytes.{bytes_eq-is}
use Rattle.plain_laws.specs.Options.{IfSome-at}
use Rattle.outside.specs.Stream.{Takes}
use Rattle.disk_model.specs.Disk.{DiskState}
use Rattle.explorer_model.specs.declared.archive.Batch.{Batch}
use Rattle.explorer_model.specs.declared.store.LogFault.{LogFault}
use Rattle.explorer_model.specs.declared.store.LogFault.TheVariants as log
use Rattle.record_log.specs.declared.fault.OpenFault.TheVariants as opening
use Rattle.manifest.specs.First.{HasFirstJournal, IsWithinFirst, IsWrongFirst}
use Rattle.manifest.specs.Manifest.{HasJournal}
use Rattle.manifest.proofs.FirstDetermined.{one-fault, one-journal, read-or-wrong}
use Rattle.host.specs.Hosts.{HostState, RefusesDisk}
use Rattle.explorer.specs.declared.fault.Fault.TheVariants as faults
use Rattle.explorer.specs.Create.{IsNotEmpty}
use Rattle.explorer.specs.Faults.{fault_of_opening}
use Rattle.explorer.specs.Laws.{GoesWell, IsToldStore, MigratedAlike}
use Rattle.explorer.specs.Lines.{Ending, Done, Stopped, status_of}
use Rattle.explorer.specs.Migrate.{IsNoFirst, MakesOf, Migrates, MigratesBy, ReadsFirst, ReadsThen, RefusesFirst, migrated_line}
use Rattle.explorer.specs.Stores.{OnlyHost, UsesDisk}
use Rattle.explorer.specs.World.{World}
use Rattle.explorer.proofs.LawLemmas.ImportHost.{left_only, only_disk, put_same, rest_alike}
use Rattle.explorer.proofs.MigrateLemmas.{same_faults}
use Rattle.explorer.proofs.LawLemmas.OneEnding.{appended}
use Rattle.explorer.proofs.LawLemmas.ToldStore.{left_by, refused_in, size_is, stands, used}

-- ---- what stands under a name

-- what is told under one name is so still, where a told disk of another was used and kept its bytes
told_still : (old new file image : List ℕ) (before : HostState) → before.disks old ≡ Some file → before.disks new ≡ Some image
    → (left_by old (Some file) before).disks new ≡ Some image
told_still old new file image before told there = by (bytes_eq new old) refl
  where
    by : (b : Bool) → bytes_eq new old ≡ b → (if b then Some file else (if b then None else before.disks new)) ≡ Some image
    by true is = sym told ∙ ap before.disks (sym (bytes_eq-is new old is)) ∙ there
    by false is = there

-- ---- what a migration comes to

-- both stores were read and given back
abbrev both_back : List ℕ → List ℕ → List ℕ → Option (List ℕ) → HostState → HostState
both_back old file new content before = left_by new content (left_by old (Some file) before)

-- the file has this journal
record IsRead (file : List ℕ) (journal : List Batch) : Type 0 where
  has : HasFirstJournal journal file
  within : IsWithinFirst journal

-- the new store was made
record IsDone (old file new image : List ℕ) (before after : World) : Type 0 where
  journal : List Batch
  read : IsRead file journal
  none : length image ≡ 0
  holds : IfSome (after.host.disks new) (HasJournal journal)
  input : after.input ≡ before.input
  errors : after.errors ≡ before.errors
  output : after.output ≡ record before.output { written = append_known before.output.written (migrated_line (length journal)) }
  host : after.host ≡ both_back old file new (after.host.disks new) before.host

-- there stands something where the new store was to be made
record IsFilled (old file new image : List ℕ) (before after : World) : Type 0 where
  journal : List Batch
  read : IsRead file journal
  some : length image ≢ 0
  after_is : after ≡ record before { host = both_back old file new (Some image) before.host }

abbrev refusal : LogFault → Ending
refusal fault = Stopped (fault_of_opening (opening.Log fault))

abbrev Comes : List ℕ → List ℕ → List ℕ → List ℕ → World → World → Ending → Type 0
Comes old file new image before after ending =
    ((ending ≡ Done) × IsDone old file new image before after)
    ⊎ ((ending ≡ Stopped (faults.NotEmpty (length image))) × IsFilled old file new image before after)
    ⊎ ((fault : LogFault) × (ending ≡ refusal fault) × IsWrongFirst fault file × (after ≡ refused_in old file before))

module _ (old file new image : List ℕ) (before after : World) (told : IsToldStore old file before) (there : before.host.disks new ≡ Some image) (well : GoesWell before after) where
  abbrev read_back : HostState
  read_back = left_by old (Some file) before.host

  -- ---- the old store was read

  module _ (journal : List Batch) (between : HostState) (reads : UsesDisk old (ReadsFirst journal) before.host between) where
    handed : reads.handed.content ≡ Some file
    handed = reads.hands.content ∙ told.disk

    read : IsRead file journal
    read = record {
      has = IfSome-at (HasFirstJournal journal) reads.handed.content file handed reads.does.read;
      within = reads.does.within;
    }

    back : between ≡ read_back
    back =
        used old (ReadsFirst journal) before.host between reads (same_faults old journal before.host between reads)
        ∙ ap (λ (o : Option (List ℕ)). left_by old o before.host) (reads.does.kept ∙ handed)

    module _ (Does : DiskState → DiskState → Type 0) (makes : UsesDisk new Does between after.host) where
      stood : makes.handed.content ≡ Some image
      stood = makes.hands.content ∙ ap (λ (h : HostState). h.disks new) back ∙ told_still old new file image before.host told.disk there

      size : length image ≡ makes.handed.size
      size = size_is makes.handed.content image makes.handed.size stood makes.sized

      host_is : after.host ≡ both_back old file new makes.returned.content before.host
      host_is =
          used new Does between after.host makes (well.faults ∙ sym (same_faults old journal before.host between reads))
          ∙ ap (left_by new makes.returned.content) back

      content_is : after.host.disks new ≡ makes.returned.content
      content_is = ap (λ (h : HostState). h.disks new) host_is ∙ stands new makes.returned.content read_back

    no_refusal : RefusesDisk new between after.host → ⊥
    no_refusal refuses =
        let own = ap (λ (h : HostState). h.own_faults) back in
        no_rise between.own_faults after.host.own_faults (well.refusals ∙ sym own) (omega (arith, own, told.refusals)) refuses.rises

  -- ---- each ending

  migrates : Migrates (λ line. Takes line before.output after.output) old new before after → Comes old file new image before after Done
  migrates m =
      let journal = m.stores.journal in
      let between = m.stores.between in
      let reads = m.stores.reads in
      let makes : UsesDisk new (MakesOf journal) between after.host = m.stores.next in
      let line = migrated_line (length journal) in
      let written = appended before.output.written after.output.written line told.output m.wrote.appended in
      let content = content_is journal between reads (MakesOf journal) makes in
      inl (
        refl,
        record {
          journal = journal;
          read = read journal between reads;
          none = size journal between reads (MakesOf journal) makes ∙ makes.does.was_empty;
          holds = subst (λ (o : Option (List ℕ)). IfSome o (HasJournal journal)) (sym content) makes.does.has;
          input = ap (λ (w : World). w.input) m.rest;
          errors = ap (λ (w : World). w.errors) m.rest;
          output = m.wrote.rest ∙ ap (λ (w : Option (List ℕ)). record before.output { written = w }) written;
          host =
              host_is journal between reads (MakesOf journal) makes
              ∙ ap (λ (o : Option (List ℕ)). both_back old file new o before.host) (sym content);
        },
      )

  filled : (bytes : ℕ) → ReadsThen old (λ _. UsesDisk new (IsNotEmpty bytes)) before.host after.host → OnlyHost before after
      → Comes old file new image before after (Stopped (faults.NotEmpty bytes))
  filled bytes behind only =
      let journal = behind.journal in
      let between = behind.between in
      let reads = behind.reads in
      let makes : UsesDisk new (IsNotEmpty bytes) between after.host = behind.next in
      let is : bytes ≡ length image = makes.does.size_is ∙ sym (size journal between reads (IsNotEmpty bytes) makes) in
      let host =
      host_is journal between reads (IsNotEmpty bytes) makes
      ∙ ap (λ (o : Option (List ℕ)). both_back old file new o before.host) (makes.does.same ∙ stood journal between reads (IsNotEmpty bytes) makes) in
      inr (inl (
        ap (λ (n : ℕ). Stopped (faults.NotEmpty n)) is,
        record {
          journal = journal;
          read = read journal between reads;
          some = subst (λ (n : ℕ). n ≢ 0) is makes.does.some;
          after_is = only ∙ ap (λ (h : HostState). record before { host = h }) host;
        },
      ))

  refuses : (fault : LogFault) → RefusesFirst fault old before after → Comes old file new image before after (refusal fault)
  refuses fault by =
      let uses = by.0 in
      let content = uses.hands.content ∙ told.disk in
      let host : after.host ≡ read_back =
      used old (IsNoFirst fault) before.host after.host uses well.faults
      ∙ ap (λ (o : Option (List ℕ)). left_by old o before.host) (uses.does.kept ∙ content) in
      inr (inr (
        fault,
        refl,
        IfSome-at (IsWrongFirst fault) uses.handed.content file content uses.does.wrong,
        by.1 ∙ ap (λ (h : HostState). record before { host = h }) host,
      ))

  comes : (ending : Ending) → status_of ending ≢ 9 → MigratesBy old new before after ending → Comes old file new image before after ending
  comes Done fed by = migrates by
  comes (Stopped faults.WriteFault) fed by =
      absurd (no_rise before.output.write_faults after.output.write_faults well.writes told.writes by.wrote.rises)
  comes (Stopped faults.NotAStore) fed by = refuses log.NotALog by
  comes (Stopped (faults.OtherFormat number)) fed by = refuses (log.OtherFormat number) by
  comes (Stopped (faults.Damaged gate)) fed by = refuses (log.Damaged gate) by
  comes (Stopped (faults.NotEmpty bytes)) fed by = filled bytes by.0 by.1
  comes (Stopped faults.DiskFault) fed by =
      absurd (no_rise before.host.disk_faults after.host.disk_faults well.faults told.faults by.1)
  comes (Stopped (faults.CannotOpen name)) fed by = absurd (none by.0)
    where
      none : ((string_bytes name ≡ old) × RefusesDisk old before.host after.host) ⊎ ((string_bytes name ≡ new) × ReadsThen old (λ _. RefusesDisk new) before.host after.host) → ⊥
      none (inl of) = no_rise before.host.own_faults after.host.own_faults well.refusals told.refusals of.1.rises
      none (inr of) = no_refusal of.1.journal of.1.between of.1.reads of.1.next
  comes (Stopped faults.OutOfMemory) fed by = absurd (fed refl)
  comes (Stopped faults.Usage) fed by = absurd by
  comes (Stopped (faults.BadParameter name)) fed by = absurd by
  comes (Stopped faults.BadLabel) fed by = absurd by
  comes (Stopped faults.SpillFault) fed by = absurd by
  comes (Stopped (faults.SpillDamaged part)) fed by = absurd by
  comes (Stopped faults.OpeningsTooLong) fed by = absurd by
  comes (Stopped (faults.BadOpenings row cause)) fed by = absurd by
  comes (Stopped faults.ReadFault) fed by = absurd by
  comes (Stopped faults.TooMuchInput) fed by = absurd by
  comes (Stopped (faults.Full games bytes)) fed by = absurd by
  comes (Stopped faults.CannotAccept) fed by = absurd by

-- ---- two migrations

-- that came to one world
alike : (new : List ℕ) (after other : World) → after ≡ other → MigratedAlike new after other
alike new after other is = subst (λ (w : World). MigratedAlike new after w) is (record {
  streams = record { input = refl; output = refl; errors = refl };
  disk = inl refl;
  calls = refl;
  rest = λ i. record after.host { disks = sym (put_same new after.host.disks) i };
})

module _ (old file new image : List ℕ) (before after other : World) (ending ending' : Ending) where
  abbrev Same : Type 0
  Same = (ending ≡ ending') × MigratedAlike new after other

  one_done : IsDone old file new image before after → IsDone old file new image before other → MigratedAlike new after other
  one_done a b =
      let journals = one-journal file b.journal a.journal b.read.has a.read.has in
      let line = λ (j : List Batch). record before.output { written = append_known before.output.written (migrated_line (length j)) } in
      let B : HostState = left_by old (Some file) before.host in
      let only = only_disk new (left_by new (after.host.disks new) B).calls (after.host.disks new) B after.host (a.host ∙ left_only new (after.host.disks new) B) in
      let only' = only_disk new (left_by new (other.host.disks new) B).calls (other.host.disks new) B other.host (b.host ∙ left_only new (other.host.disks new) B) in
      record {
        streams = record {
          input = b.input ∙ sym a.input;
          output = b.output ∙ ap line journals ∙ sym a.output;
          errors = b.errors ∙ sym a.errors;
        };
        disk = inr (a.journal, a.holds, subst (λ (j : List Batch). IfSome (other.host.disks new) (HasJournal j)) journals b.holds);
        calls = ap (λ (h : HostState). h.calls) b.host ∙ sym (ap (λ (h : HostState). h.calls) a.host);
        rest = rest_alike new B after.host other.host only only';
      }

  not_refused : (journal : List Batch) (fault : LogFault) → IsRead file journal → IsWrongFirst fault file → ⊥
  not_refused journal fault read wrong = read-or-wrong (Some file) file refl journal fault read.has read.within wrong

  same_coming : Comes old file new image before after ending → Comes old file new image before other ending' → Same
  same_coming (inl a) (inl b) = (a.0 ∙ sym b.0, one_done a.1 b.1)
  same_coming (inl a) (inr (inl b)) = absurd (b.1.some a.1.none)
  same_coming (inl a) (inr (inr (fault, is, wrong, rest))) = absurd (not_refused a.1.journal fault a.1.read wrong)
  same_coming (inr (inl a)) (inl b) = absurd (a.1.some b.1.none)
  same_coming (inr (inl a)) (inr (inl b)) = (a.0 ∙ sym b.0, alike new after other (a.1.after_is ∙ sym b.1.after_is))
  same_coming (inr (inl a)) (inr (inr (fault, is, wrong, rest))) = absurd (not_refused a.1.journal fault a.1.read wrong)
  same_coming (inr (inr (fault, is, wrong, rest))) (inl b) = absurd (not_refused b.1.journal fault b.1.read wrong)
  same_coming (inr (inr (fault, is, wrong, rest))) (inr (inl b)) = absurd (not_refused b.1.journal fault b.1.read wrong)
  same_coming (inr (inr (fault, is, wrong, rest))) (inr (inr (fault', is', wrong', rest'))) =
      let one = one-fault (Some file) file refl fault fault' wrong wrong' in
      (is ∙ ap refusal one ∙ sym is', alike new after other (rest ∙ sym rest'))

pub one_migration : (old new file image : List ℕ) (before after other : World) (ending ending' : Ending)
    → IsToldStore old file before → before.host.disks new ≡ Some image → GoesWell before after → GoesWell before other
    → status_of ending ≢ 9 → status_of ending' ≢ 9
    → MigratesBy old new before after ending → MigratesBy old new before other ending'
    → (ending ≡ ending') × MigratedAlike new after other
one_migration old new file image before after other ending ending' told there well well' fed fed' by by' =
    same_coming old file new image before after other ending ending'
    (comes old file new image before after told there well ending fed by)
    (comes old file new image before other told there well' ending' fed' by')
