-- The old store of a migration keeps its bytes.
use Rattle.std.proofs.Common.{◌≡◌, ◌⊎◌, inl, inr, ℕ, Bool, true, false, List, [], ◌∷◌, length, None, Some, refl, sym, ap, subst, ◌∙◌, arith}
use Rattle.std.specs.Prelude.{◌≢◌, if◌then◌else◌, string_bytes}
use Rattle.std.specs.Str.{bytes_eq}
use Rattle.plain_laws.specs.Bytes.{bytes_eq-is, bytes_eq-self}
use Rattle.plain_laws.specs.Options.{IfSome-at}
use Rattle.disk_model.specs.Disk.{DiskState}
use Rattle.explorer_model.specs.declared.archive.Batch.{Batch}
use Rattle.explorer_model.specs.declared.store.LogFault.{LogFault}
use Rattle.explorer_model.specs.declared.store.LogFault.TheVariants as log
use Rattle.explorer_model.specs.StoreFile.{first_journal_of}
use Rattle.manifest.specs.First.{HasFirstJournal}
use Rattle.host.specs.Hosts.{HostState, RefusesDisk}
use Rattle.explorer.specs.declared.fault.Fault.TheVariants as faults
use Rattle.explorer.specs.Create.{IsNotEmpty}
use Rattle.explorer.specs.Lines.{Ending, Done, Stopped}
use Rattle.explorer.specs.Migrate.{FailsToMake, IsNoFirst, LacksRest, MakesOf, MigratesBy, ReadsFirst, ReadsThen}
use Rattle.explorer.specs.Opened.{FailsUnread, IsUnchanged}
use Rattle.explorer.specs.Stores.{UsesDisk}
use Rattle.explorer.specs.World.{World}
use Rattle.explorer.proofs.LawLemmas.ToldStore.{size_is}

-- a file without a byte has no journal
none_without_bytes : (journal : List Batch) → HasFirstJournal journal [] → ⊥
unfolding first_journal_of
none_without_bytes journal has = cc

some_bytes : (journal : List Batch) (file : List ℕ) → HasFirstJournal journal file → length file ≢ 0
some_bytes journal [] has none = none_without_bytes journal has
some_bytes journal (byte ∷ file) has none = omega (arith, none)

module _ (old : List ℕ) (file : List ℕ) where
  -- what was used was given back with its bytes
  kept : (Does : DiskState → DiskState → Type 0) (before after : HostState) (uses : UsesDisk old Does before after)
      → uses.returned.content ≡ uses.handed.content → before.disks old ≡ Some file → after.disks old ≡ Some file
  kept Does before after uses same told =
      ap (λ (h : HostState). h.disks old) uses.takes.rest
      ∙ ap (λ (b : Bool). if b then uses.returned.content else uses.middle.disks old) (bytes_eq-self old)
      ∙ same ∙ uses.hands.content ∙ told

  -- the host refused a disk
  untouched : (name : List ℕ) (before after : HostState) → RefusesDisk name before after → before.disks old ≡ Some file → after.disks old ≡ Some file
  untouched name before after refuses told = ap (λ (h : HostState). h.disks old) refuses.rest ∙ told

  module _ (new : List ℕ) where
    -- another disk was used, or this one where it stands again
    kept_beside : (Does : DiskState → DiskState → Type 0) (between after : HostState) (uses : UsesDisk new Does between after)
        → between.disks old ≡ Some file
        → (uses.handed.content ≡ Some file → uses.handed.size ≢ 0 → uses.returned.content ≡ uses.handed.content)
        → length file ≢ 0 → after.disks old ≡ Some file
    kept_beside Does between after uses told same long =
        ap (λ (h : HostState). h.disks old) uses.takes.rest ∙ by (bytes_eq old new) refl
      where
        by : (b : Bool) → bytes_eq old new ≡ b → (if b then uses.returned.content else uses.middle.disks old) ≡ Some file
        by true is =
            let one : new ≡ old = sym (bytes_eq-is old new is) in
            let handed : uses.handed.content ≡ Some file = uses.hands.content ∙ ap between.disks one ∙ told in
            let size = size_is uses.handed.content file uses.handed.size handed uses.sized in
            same handed (subst (λ (n : ℕ). n ≢ 0) size long) ∙ handed
        by false is =
            ap (λ (h : HostState). h.disks old) uses.hands.rest
            ∙ ap (λ (b : Bool). if b then None else between.disks old) is ∙ told

    behind : (Then : List Batch → HostState → HostState → Type 0) (before after : HostState) (reads : ReadsThen old Then before after)
        → before.disks old ≡ Some file → (reads.between.disks old ≡ Some file) × (length file ≢ 0)
    behind Then before after reads told =
        let uses = reads.reads in (
          kept (ReadsFirst reads.journal) before reads.between uses uses.does.kept told,
          some_bytes reads.journal file (IfSome-at (HasFirstJournal reads.journal) uses.handed.content file (uses.hands.content ∙ told) uses.does.read),
        )

    pub old_is_kept : (before after : World) (ending : Ending) → before.host.disks old ≡ Some file → MigratesBy old new before after ending
        → after.host.disks old ≡ Some file
    old_is_kept before after ending told by = of_ending ending by
      where
        made : (reads : ReadsThen old (λ journal. UsesDisk new (MakesOf journal)) before.host after.host) → after.host.disks old ≡ Some file
        made reads =
            let was = behind (λ journal. UsesDisk new (MakesOf journal)) before.host after.host reads told in
            let uses : UsesDisk new (MakesOf reads.journal) reads.between after.host = reads.next in
            kept_beside (MakesOf reads.journal) reads.between after.host uses was.0 (λ handed long. absurd (long uses.does.was_empty)) was.1

        not_empty : (size : ℕ) (reads : ReadsThen old (λ _. UsesDisk new (IsNotEmpty size)) before.host after.host) → after.host.disks old ≡ Some file
        not_empty size reads =
            let was = behind (λ _. UsesDisk new (IsNotEmpty size)) before.host after.host reads told in
            let uses : UsesDisk new (IsNotEmpty size) reads.between after.host = reads.next in
            kept_beside (IsNotEmpty size) reads.between after.host uses was.0 (λ handed long. uses.does.same) was.1

        same_after : (journal : List Batch) (handed returned : DiskState) → FailsToMake journal handed returned → handed.size ≢ 0 → returned.content ≡ handed.content
        same_after journal handed returned (inl not) long = not.kept long
        same_after journal handed returned (inr breaks) long = absurd (long breaks.front.was_empty)

        failed : (reads : ReadsThen old (λ journal. UsesDisk new (FailsToMake journal)) before.host after.host) → after.host.disks old ≡ Some file
        failed reads =
            let was = behind (λ journal. UsesDisk new (FailsToMake journal)) before.host after.host reads told in
            let uses : UsesDisk new (FailsToMake reads.journal) reads.between after.host = reads.next in
            kept_beside (FailsToMake reads.journal) reads.between after.host uses was.0
            (λ handed long. same_after reads.journal uses.handed uses.returned uses.does long) was.1

        lacked : (reads : ReadsThen old (λ journal. UsesDisk new (LacksRest journal)) before.host after.host) → after.host.disks old ≡ Some file
        lacked reads =
            let was = behind (λ journal. UsesDisk new (LacksRest journal)) before.host after.host reads told in
            let uses : UsesDisk new (LacksRest reads.journal) reads.between after.host = reads.next in
            kept_beside (LacksRest reads.journal) reads.between after.host uses was.0 (λ handed long. absurd (long uses.does.front.was_empty)) was.1

        refused : (fault : LogFault) → UsesDisk old (IsNoFirst fault) before.host after.host → after.host.disks old ≡ Some file
        refused fault uses = kept (IsNoFirst fault) before.host after.host uses uses.does.kept told

        by_disk : UsesDisk old FailsUnread before.host after.host ⊎ ReadsThen old (λ journal. UsesDisk new (FailsToMake journal)) before.host after.host
            → after.host.disks old ≡ Some file
        by_disk (inl uses) = kept FailsUnread before.host after.host uses uses.does.kept told
        by_disk (inr reads) = failed reads

        by_memory : UsesDisk old IsUnchanged before.host after.host ⊎ ReadsThen old (λ journal. UsesDisk new (LacksRest journal)) before.host after.host
            → after.host.disks old ≡ Some file
        by_memory (inl uses) = kept IsUnchanged before.host after.host uses uses.does.kept told
        by_memory (inr reads) = lacked reads

        by_name : (name : List ℕ) → ((name ≡ old) × RefusesDisk old before.host after.host)
            ⊎ ((name ≡ new) × ReadsThen old (λ _. RefusesDisk new) before.host after.host) → after.host.disks old ≡ Some file
        by_name name (inl of) = untouched old before.host after.host of.1 told
        by_name name (inr of) =
            let was = behind (λ _. RefusesDisk new) before.host after.host of.1 told in
            untouched new of.1.between after.host of.1.next was.0

        of_ending : (e : Ending) → MigratesBy old new before after e → after.host.disks old ≡ Some file
        of_ending Done by = made by.stores
        of_ending (Stopped faults.WriteFault) by = made by.stores
        of_ending (Stopped faults.NotAStore) by = refused log.NotALog by.0
        of_ending (Stopped (faults.OtherFormat number)) by = refused (log.OtherFormat number) by.0
        of_ending (Stopped (faults.Damaged gate)) by = refused (log.Damaged gate) by.0
        of_ending (Stopped (faults.NotEmpty size)) by = not_empty size by.0
        of_ending (Stopped faults.DiskFault) by = by_disk by.0
        of_ending (Stopped (faults.CannotOpen name)) by = by_name (string_bytes name) by.0
        of_ending (Stopped faults.OutOfMemory) by = by_memory by.0
        of_ending (Stopped faults.Usage) by = absurd by
        of_ending (Stopped (faults.BadParameter name)) by = absurd by
        of_ending (Stopped faults.BadLabel) by = absurd by
        of_ending (Stopped faults.SpillFault) by = absurd by
        of_ending (Stopped (faults.SpillDamaged part)) by = absurd by
        of_ending (Stopped faults.OpeningsTooLong) by = absurd by
        of_ending (Stopped (faults.BadOpenings row cause)) by = absurd by
        of_ending (Stopped faults.ReadFault) by = absurd by
        of_ending (Stopped faults.TooMuchInput) by = absurd by
        of_ending (Stopped (faults.Full games bytes)) by = absurd by
        of_ending (Stopped faults.CannotAccept) by = absurd by
