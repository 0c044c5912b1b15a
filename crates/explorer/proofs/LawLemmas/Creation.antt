-- A creation over a told disk comes to one thing, where no call fails.
use Rattle.std.proofs.Common.{◌≡◌, ◌⊎◌, inl, inr, ℕ, List, length, Option, None, Some, refl, sym, ap, subst, ◌∙◌}
use Rattle.std.specs.Prelude.{◌≢◌, IfSome, IsSome, codes}
use Rattle.std.specs.Io.KnownBytes.{append_known}
use Rattle.import_run.proofs.LawLemmas.{no_rise}
use Rattle.explorer_model.specs.StoreFile.{store_format}
use Rattle.outside.specs.Stream.{Takes}
use Rattle.record_log.specs.Log.{empty_file}
use Rattle.host.specs.Hosts.{HostState}
use Rattle.explorer.specs.Create.{Creates, CreatesBy, IsNotEmpty, Makes}
use Rattle.explorer.specs.Laws.{GoesWell, IsToldStore}
use Rattle.explorer.specs.Lines.{Ending, Done, Stopped}
use Rattle.explorer.specs.Stores.{OnlyHost, UsesDisk}
use Rattle.explorer.specs.World.{World}
use Rattle.explorer.specs.declared.fault.Fault.TheVariants as faults
use Rattle.explorer.proofs.LawLemmas.OneEnding.{appended}
use Rattle.explorer.proofs.LawLemmas.ToldStore.{left_by, refused_in, size_is, stands, used}

-- ---- the disk

-- the content that came back is told
came_told : (store : List ℕ) (content : Option (List ℕ)) (before after : HostState)
    → after ≡ left_by store content before → IsSome (after.disks store) → IsSome content
came_told store content before after is told =
    subst (λ (c : Option (List ℕ)). IsSome c)
    (ap (λ (h : HostState). h.disks store) is ∙ stands store content before) told

made_content : (content : Option (List ℕ)) (file : List ℕ) → IsSome content
    → IfSome content (λ bytes. bytes ≡ file) → content ≡ Some file
made_content None file told is = cc
made_content (Some bytes) file told is = ap Some is

-- ---- what a run comes to

abbrev made_in : List ℕ → World → World
made_in store before = record before {
  output = record before.output
      { written = append_known before.output.written (codes "created\n") };
  host = left_by store (Some (empty_file store_format)) before.host;
}

abbrev Comes : List ℕ → List ℕ → World → World → Ending → Type 0
Comes store file before after ending =
    ((ending ≡ Done) × (length file ≡ 0) × (after ≡ made_in store before))
    ⊎ ((ending ≡ Stopped (faults.NotEmpty (length file))) × (length file ≢ 0)
    × (after ≡ refused_in store file before))

module _ (store file : List ℕ) (before after : World) (told : IsToldStore store file before)
    (well : GoesWell before after) (still : IsSome (after.host.disks store)) where
  creates : Creates (λ line. Takes line before.output after.output) store before after
      → Comes store file before after Done
  creates c =
      let content = c.made.returned.content in
      let chunk : List ℕ = codes "created\n" in
      let host_is = used store Makes before.host after.host c.made well.faults in
      let content_is = made_content content (empty_file store_format)
      (came_told store content before.host after.host host_is still) c.made.does.bytes in
      let host : after.host ≡ left_by store (Some (empty_file store_format)) before.host =
      host_is ∙ ap (λ (o : Option (List ℕ)). left_by store o before.host) content_is in
      let written =
      appended before.output.written after.output.written chunk told.output c.wrote.appended in
      let output : after.output ≡ record before.output { written = append_known before.output.written chunk } =
      c.wrote.rest ∙ ap (λ (w : Option (List ℕ)). record before.output { written = w }) written in
      let size = size_is c.made.handed.content file c.made.handed.size
      (c.made.hands.content ∙ told.disk) c.made.sized in
      inl (
        refl,
        size ∙ c.made.does.was_empty,
        c.rest ∙ (λ i. record before { output = output i; host = host i }),
      )

  refuses : (size : ℕ) → UsesDisk store (IsNotEmpty size) before.host after.host
      → OnlyHost before after → Comes store file before after (Stopped (faults.NotEmpty size))
  refuses size uses only =
      let handed = uses.hands.content ∙ told.disk in
      let long = size_is uses.handed.content file uses.handed.size handed uses.sized in
      let is : size ≡ length file = uses.does.size_is ∙ sym long in
      let host : after.host ≡ left_by store (Some file) before.host =
      used store (IsNotEmpty size) before.host after.host uses well.faults
      ∙ ap (λ (o : Option (List ℕ)). left_by store o before.host) (uses.does.same ∙ handed) in
      inr (
        ap (λ (n : ℕ). Stopped (faults.NotEmpty n)) is,
        subst (λ (n : ℕ). n ≢ 0) is uses.does.some,
        only ∙ ap (λ (h : HostState). record before { host = h }) host,
      )

  comes : (ending : Ending) → CreatesBy store before after ending
      → Comes store file before after ending
  comes Done by = creates by
  comes (Stopped faults.WriteFault) by =
      absurd (no_rise before.output.write_faults after.output.write_faults well.writes told.writes by.wrote.rises)
  comes (Stopped (faults.NotEmpty size)) by = refuses size by.0 by.1
  comes (Stopped faults.DiskFault) by =
      absurd (no_rise before.host.disk_faults after.host.disk_faults well.faults told.faults by.1)
  comes (Stopped (faults.CannotOpen name)) by =
      absurd (no_rise before.host.own_faults after.host.own_faults well.refusals told.refusals by.1.rises)
  comes (Stopped faults.Usage) by = absurd by
  comes (Stopped (faults.BadParameter name)) by = absurd by
  comes (Stopped faults.BadLabel) by = absurd by
  comes (Stopped faults.SpillFault) by = absurd by
  comes (Stopped (faults.SpillDamaged part)) by = absurd by
  comes (Stopped faults.OpeningsTooLong) by = absurd by
  comes (Stopped (faults.BadOpenings row cause)) by = absurd by
  comes (Stopped faults.ReadFault) by = absurd by
  comes (Stopped faults.TooMuchInput) by = absurd by
  comes (Stopped (faults.Full games bytes)) by = absurd by
  comes (Stopped faults.NotAStore) by = absurd by
  comes (Stopped (faults.OtherFormat number)) by = absurd by
  comes (Stopped (faults.Damaged gate)) by = absurd by
  comes (Stopped faults.OutOfMemory) by = absurd by
  comes (Stopped faults.CannotAccept) by = absurd by

same_coming : (store file : List ℕ) (before after other : World) (ending ending' : Ending)
    → Comes store file before after ending → Comes store file before other ending'
    → (ending ≡ ending') × (after ≡ other)
same_coming store file before after other ending ending' (inl a) (inl b) =
    (a.0 ∙ sym b.0, a.2 ∙ sym b.2)
same_coming store file before after other ending ending' (inl a) (inr b) = absurd (b.1 a.1)
same_coming store file before after other ending ending' (inr a) (inl b) = absurd (a.1 b.1)
same_coming store file before after other ending ending' (inr a) (inr b) =
    (a.0 ∙ sym b.0, a.2 ∙ sym b.2)

pub one_creation : (store file : List ℕ) (before after other : World) (ending ending' : Ending)
    → IsToldStore store file before → GoesWell before after → GoesWell before other
    → IsSome (after.host.disks store) → IsSome (other.host.disks store)
    → CreatesBy store before after ending → CreatesBy store before other ending'
    → (ending ≡ ending') × (after ≡ other)
one_creation store file before after other ending ending' told well well' still still' by by' =
    same_coming store file before after other ending ending'
    (comes store file before after told well still ending by)
    (comes store file before other told well' still' ending' by')
