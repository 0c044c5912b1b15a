-- What a migration comes to.
use Rattle.std.proofs.Common.{◌≡◌, ◌⊎◌, inl, inr, ℕ, ◌+◌, ◌≤◌, List, [], ◌∷◌, ◌++◌, length, map, All, Option, None, Some, refl, sym, ap, subst, ◌∙◌, arith, length-append}
use Rattle.std.specs.Prelude.{◌≢◌, IfSome, IsSome, String, string_bytes}
use Rattle.std.specs.Global.{Global}
use Rattle.std.specs.List.{flat_map}
use Rattle.std.proofs.lemmas.List.Elements.{All-weaker}
use Rattle.plain_laws.specs.Options.{IfSome-from}
use Rattle.outside.specs.Stream.{FailsToTake, Rises, Stream, Takes}
use Rattle.disk_model.specs.Disk.{DiskState, IsQuiet, LeavesOnly, MayLeave, StaysTold}
use Rattle.disk_model.proofs.Moments.{now_has}
use Rattle.explorer_model.specs.declared.archive.Batch.{Batch}
use Rattle.explorer_model.specs.declared.store.LogFault.TheVariants as log
use Rattle.explorer_model.specs.StoreFile.{IsStorable, gate_limit, header, payload_of, record_bytes, store_format, store_of}
use Rattle.record_log.specs.Log.{IsCreated, IsFault, IsNotAdded, IsTornOf, Log}
use Rattle.record_log.specs.declared.fault.AppendFault.{AppendFault}
use Rattle.record_log.specs.declared.fault.AppendFault.TheVariants as append
use Rattle.record_log.specs.declared.fault.CreateFault.{CreateFault}
use Rattle.record_log.specs.declared.fault.CreateFault.TheVariants as creation
use Rattle.record_log.specs.declared.fault.OpenFault.{OpenFault}
use Rattle.record_log.specs.declared.fault.OpenFault.TheVariants as opening
use Rattle.manifest.specs.First.{HasFirstJournal, IsBare, IsNotOpenedFirst, IsWithinFirst}
use Rattle.manifest.specs.Manifest.{HasFrontOf, HasJournal, IsManifestOf, StopsAt, StoresAll, batch_format, size_of_records}
use Rattle.host.specs.Hosts.{HandsDisk, HostState, RefusesDisk, TakesDisk}
use Rattle.explorer.specs.declared.fault.Fault.{Fault}
use Rattle.explorer.specs.declared.fault.Fault.TheVariants as faults
use Rattle.explorer.specs.Create.{Faults, IsNotEmpty, IsNotMade, Makes}
use Rattle.explorer.specs.Faults.{FirstCause, fault_of_append, fault_of_creation, fault_of_opening}
use Rattle.explorer.specs.Lines.{Ending, Done, Stopped}
use Rattle.explorer.specs.Migrate.{Begins, BreaksOff, CannotHave, CannotRead, FailsToMake, IsMadeBy, IsMadeSafely, IsMadeUnder, IsNoFirst, IsSafe, LacksRest, MakesFrontOf, MakesOf, Migrates, MigratesBy, NotReadFirst, ReadsFirst, ReadsThen, migrated_line}
use Rattle.explorer.specs.Opened.{FailsUnread, IsUnchanged}
use Rattle.explorer.specs.Stores.{IsSized, OnlyHost, UsesDisk}
use Rattle.explorer.specs.World.{World, world}
use Rattle.explorer.proofs.StoreLemmas.{rose, uses}

-- ---- what is stored

-- batches without a label can be stored
pub all_storable : (journal : List Batch) → All IsBare journal → All IsStorable journal
all_storable journal bare = All-weaker IsBare IsStorable (λ batch is. is.storable) journal bare

-- a new store has room for them where their file is not too long
pub has_room : (gate : ℕ) (journal : List Batch) → gate ≡ length (store_of []) → length (store_of journal) ≤ gate_limit
    → gate + size_of_records journal ≤ gate_limit
has_room gate journal place room =
    let records = flat_map record_bytes (map payload_of journal) in
    let whole : length (store_of journal) ≡ length (header store_format) + length records = length-append (header store_format) records in
    let none : length (store_of []) ≡ length (header store_format) + 0 = length-append (header store_format) [] in
    omega (arith, place, room, whole, none)

-- ---- the disk of the old store

module _ {D : Type 0} (disk : D → DiskState) (left_since : D → ℕ → List ℕ → Type 0) (old new : D) (quiet : IsQuiet disk left_since old new) where
  kept : (disk new).content ≡ (disk old).content
  kept = ap (λ (s : DiskState). s.content) quiet.rest

  pub reads_first : (journal : List Batch) → IfSome (disk old).content (HasFirstJournal journal) → IsWithinFirst journal → (disk new).faults ≡ (disk old).faults
      → ReadsFirst journal (disk old) (disk new)
  reads_first journal read within no_fault = record { read = read; within = within; kept = kept; no_fault = no_fault }

  same_count : (disk new).faults ≤ (disk old).faults → (disk new).faults ≡ (disk old).faults
  same_count most = let least = quiet.never_falls.least in omega (arith, least, most)

  as_found : (found : OpenFault) → IsNotOpenedFirst disk found old new → (disk new).faults ≤ (disk old).faults
      → NotReadFirst found (disk old) (disk new)
  as_found (opening.Log fault) is most = record { wrong = is; kept = kept; no_fault = same_count most }
  as_found (opening.DiskFault first last) is most =
      let P : ℕ → Type 0 = λ n. Rises n (disk new).faults in
      let Q : ℕ → Type 0 = λ n. Rises first n in
      record { kept = kept; rises = subst P is.before_is (subst Q is.after_is is.rises) }
  as_found opening.OutOfMemory is most = record { kept = kept; no_fault = same_count most }

  pub not_read : (found told : OpenFault) → IsNotOpenedFirst disk found old new
      → FirstCause (disk old).faults (disk new).faults found told → NotReadFirst told (disk old) (disk new)
  not_read found told is (inl (more, cause)) =
      let P : OpenFault → Type 0 = λ f. NotReadFirst f (disk old) (disk new) in
      subst P (sym cause) (record { kept = kept; rises = record { rose = inl more; never_falls = quiet.never_falls } })
  not_read found told is (inr (most, same)) =
      let P : OpenFault → Type 0 = λ f. NotReadFirst f (disk old) (disk new) in
      subst P (sym same) (as_found found is most)

-- ---- the disk of the new store

no_counts : (before after : ℕ) → ◌≡◌ {A = Option (ℕ × ℕ)} None (Some (before, after)) → ⊥
no_counts before after is = cc

module _ {D : Type 0} (disk : D → DiskState) (left_since : D → ℕ → List ℕ → Type 0)
    (told_left : (it : D) (file : List ℕ) → (disk it).content ≡ Some file → MayLeave disk left_since it file)
    (counts_now : (it : D) (t : ℕ) (image : List ℕ) → t ≤ (disk it).moment → MayLeave disk left_since it image → left_since it t image)
    (journal : List Batch) (made new : Log D) where
  abbrev Fills : DiskState → Ending → Type 0
  Fills handed ending = IsMadeBy journal handed (disk new.disk) ending

  -- all batches were stored
  pub filled : IsManifestOf disk left_since [] made → StoresAll disk left_since journal made new
      → (handed : DiskState) → Begins handed (disk made.disk) → MakesOf journal handed (disk new.disk)
  filled begun stores handed begins =
      let holds = stores.holds [] begun in
      record {
        was_empty = begins.was_empty;
        told = λ is. stores.adds.told (begins.told is);
        has = IfSome-from (HasJournal journal) (disk new.disk).content (λ bytes tells. holds.images bytes (told_left new.disk bytes tells));
        no_fault = stores.adds.no_fault ∙ begins.no_fault;
      }

  module _ (leaves : LeavesOnly disk left_since made.disk new.disk (HasFrontOf [] journal)) (handed : DiskState) (begins : Begins handed (disk made.disk)) where
    front : StaysTold (disk made.disk) (disk new.disk) → MakesFrontOf journal handed (disk new.disk)
    front told = record {
      was_empty = begins.was_empty;
      told = λ is. told (begins.told is);
      has = IfSome-from (HasFrontOf [] journal) (disk new.disk).content
          (λ bytes tells. now_has disk left_since made.disk new.disk (HasFrontOf [] journal) (counts_now new.disk) leaves bytes (told_left new.disk bytes tells));
    }

    -- one was not stored
    pub stopped : IsManifestOf disk left_since [] made → (fault : AppendFault) → StopsAt disk left_since journal fault made new → Fills handed (Stopped (fault_of_append fault))
    stopped begun (append.Closed before after) stops =
        let open_yet : stops.middle.fault ≡ None = ap (λ (l : Log D). l.fault) stops.stored.adds.rest ∙ begun.sound in
        let shut : stops.middle.fault ≡ Some (before, after) = stops.fails.was in
        absurd (no_counts before after (sym open_yet ∙ shut))
    stopped begun append.OutOfMemory stops =
        let same : (disk new.disk) ≡ (disk stops.middle.disk) = ap (λ (l : Log D). disk l.disk) stops.fails.same in
        record {
          front = front (λ is. subst (λ (s : DiskState). IsSome s.content) (sym same) (stops.stored.adds.told is));
          no_fault = ap (λ (s : DiskState). s.faults) same ∙ stops.stored.adds.no_fault ∙ begins.no_fault;
        }
    stopped begun (append.DiskFault before after) stops =
        let from : before ≡ handed.faults = stops.fails.counts.before_is ∙ stops.stored.adds.no_fault ∙ begins.no_fault in
        let P : ℕ → Type 0 = λ n. Rises n (disk new.disk).faults in
        let Q : ℕ → Type 0 = λ n. Rises before n in
        inr (record {
          front = front (λ is. stops.fails.told (stops.stored.adds.told is));
          rises = subst P from (subst Q stops.fails.counts.after_is stops.fails.counts.rises);
        })

-- ---- what a crash leaves of the new store

module _ {D : Type 0} (disk : D → DiskState) (left_since : D → ℕ → List ℕ → Type 0) (journal : List Batch) where
  pub begun : (before : D) (made : Log D) → IsCreated disk left_since batch_format before made → (disk made.disk).faults ≡ (disk before).faults
      → Begins (disk before) (disk made.disk)
  begun before made created no_fault = record { was_empty = created.was_empty; told = created.told; no_fault = no_fault }

  -- a store was made
  pub safe_by : (handed made returned : D) → Makes (disk handed) (disk made) → LeavesOnly disk left_since handed made (IsTornOf disk left_since handed 0 13)
      → LeavesOnly disk left_since made returned (HasFrontOf [] journal) → (ending : Ending) → IsMadeBy journal (disk handed) (disk returned) ending
      → IsSafe disk left_since journal handed returned ending
  safe_by handed made returned makes meanwhile since = of_ending
    where
      safe : IsMadeSafely disk left_since journal handed returned
      safe = record { made = made; makes = makes; meanwhile = meanwhile; since = since }

      of_ending : (e : Ending) → IsMadeBy journal (disk handed) (disk returned) e → IsSafe disk left_since journal handed returned e
      of_ending Done by = safe
      of_ending (Stopped (faults.NotEmpty size)) by = absurd (by.some (by.size_is ∙ makes.was_empty))
      of_ending (Stopped faults.DiskFault) by = inr safe
      of_ending (Stopped faults.Usage) by = safe
      of_ending (Stopped (faults.BadParameter name)) by = safe
      of_ending (Stopped faults.BadLabel) by = safe
      of_ending (Stopped faults.SpillFault) by = safe
      of_ending (Stopped (faults.SpillDamaged part)) by = safe
      of_ending (Stopped faults.OpeningsTooLong) by = safe
      of_ending (Stopped (faults.BadOpenings row cause)) by = safe
      of_ending (Stopped faults.ReadFault) by = safe
      of_ending (Stopped faults.WriteFault) by = safe
      of_ending (Stopped faults.NotAStore) by = safe
      of_ending (Stopped (faults.OtherFormat number)) by = safe
      of_ending (Stopped (faults.Damaged gate)) by = safe
      of_ending (Stopped (faults.Full games bytes)) by = safe
      of_ending (Stopped faults.OutOfMemory) by = safe
      of_ending (Stopped (faults.CannotOpen name)) by = safe
      of_ending (Stopped faults.CannotAccept) by = safe
      of_ending (Stopped faults.TooMuchInput) by = safe

  -- none was made
  pub not_begun : (handed returned : D) → ((disk handed).size ≢ 0 → IsQuiet disk left_since handed returned)
      → LeavesOnly disk left_since handed returned (IsTornOf disk left_since handed 0 13) → (fault : CreateFault) → IsNotMade fault (disk handed) (disk returned)
      → IsMadeBy journal (disk handed) (disk returned) (Stopped (fault_of_creation fault)) × IsSafe disk left_since journal handed returned (Stopped (fault_of_creation fault))
  not_begun handed returned quiet since (creation.NotEmpty size) not = (not, quiet (λ none. not.some (not.size_is ∙ none)))
  not_begun handed returned quiet since (creation.DiskFault before after) not = (inl not, inl (record { faults = not; quiet = quiet; since = since }))

-- ---- the host

-- the disk of the old store came back without a fault
pub same_faults : (old : List ℕ) (journal : List Batch) (before between : HostState) → UsesDisk old (ReadsFirst journal) before between
    → between.disk_faults ≡ before.disk_faults
same_faults old journal before between reads =
    reads.takes.counts.same (reads.does.no_fault ∙ reads.hands.faultless) ∙ ap (λ (h : HostState). h.disk_faults) reads.hands.rest

module _ (old new : List ℕ) (before after : World) (only : OnlyHost before after) where
  -- the old store is not read
  pub unread : (cause : OpenFault) → UsesDisk old (NotReadFirst cause) before.host after.host → MigratesBy old new before after (Stopped (fault_of_opening cause))
  unread (opening.Log log.NotALog) uses = (uses, only)
  unread (opening.Log (log.OtherFormat number)) uses = (uses, only)
  unread (opening.Log (log.Damaged gate)) uses = (uses, only)
  unread (opening.DiskFault first last) uses =
      (inl uses, rose old uses.handed uses.returned before.host uses.middle after.host uses.hands uses.takes uses.does.rises, only)
  unread opening.OutOfMemory uses = (inl uses, only)

  pub not_had_or_read : (fault : Fault) → CannotHave old fault before.host after.host ⊎ CannotRead old fault before.host after.host
      → MigratesBy old new before after (Stopped fault)
  not_had_or_read fault (inl cannot) =
      let P : Fault → Type 0 = λ f. MigratesBy old new before after (Stopped f) in
      subst P (sym cannot.fault_is) (inl (cannot.text_is, cannot.refuses), only)
  not_had_or_read fault (inr cannot) =
      let P : Fault → Type 0 = λ f. MigratesBy old new before after (Stopped f) in
      subst P (sym cannot.fault_is) (unread cannot.cause cannot.uses)

  module _ (journal : List Batch) (between : HostState) (reads : UsesDisk old (ReadsFirst journal) before.host between) where
    then_so : (Then : List Batch → HostState → HostState → Type 0) → Then journal between after.host → ReadsThen old Then before.host after.host
    then_so Then next = record { journal = journal; between = between; reads = reads; next = next }

    either_rises : (handed returned : DiskState) → FailsToMake journal handed returned → Rises handed.faults returned.faults
    either_rises handed returned (inl not) = not.rises
    either_rises handed returned (inr breaks) = breaks.rises

    by_disk : (fault : Fault) → UsesDisk new (λ handed returned. IsMadeBy journal handed returned (Stopped fault)) between after.host
        → MigratesBy old new before after (Stopped fault)
    by_disk (faults.NotEmpty size) uses = (then_so (λ _. UsesDisk new (IsNotEmpty size)) uses, only)
    by_disk faults.DiskFault uses =
        let count = rose new uses.handed uses.returned between uses.middle after.host uses.hands uses.takes (either_rises uses.handed uses.returned uses.does) in
        let P : ℕ → Type 0 = λ n. Rises n after.host.disk_faults in
        (inr (then_so (λ j. UsesDisk new (FailsToMake j)) uses), subst P (same_faults old journal before.host between reads) count, only)
    by_disk faults.OutOfMemory uses = (inr (then_so (λ j. UsesDisk new (LacksRest j)) uses), only)
    by_disk faults.Usage uses = absurd uses.does
    by_disk (faults.BadParameter name) uses = absurd uses.does
    by_disk faults.BadLabel uses = absurd uses.does
    by_disk faults.SpillFault uses = absurd uses.does
    by_disk (faults.SpillDamaged part) uses = absurd uses.does
    by_disk faults.OpeningsTooLong uses = absurd uses.does
    by_disk (faults.BadOpenings row cause) uses = absurd uses.does
    by_disk faults.ReadFault uses = absurd uses.does
    by_disk faults.WriteFault uses = absurd uses.does
    by_disk faults.NotAStore uses = absurd uses.does
    by_disk (faults.OtherFormat number) uses = absurd uses.does
    by_disk (faults.Damaged gate) uses = absurd uses.does
    by_disk (faults.Full games bytes) uses = absurd uses.does
    by_disk (faults.CannotOpen name) uses = absurd uses.does
    by_disk faults.CannotAccept uses = absurd uses.does
    by_disk faults.TooMuchInput uses = absurd uses.does

    -- the new store is not made
    pub unmade : (fault : Fault) → IsMadeUnder new journal between after.host (Stopped fault) → MigratesBy old new before after (Stopped fault)
    unmade fault (inl (other, is, cannot)) =
        let P : Ending → Type 0 = λ e. MigratesBy old new before after e in
        subst P (sym (is ∙ ap Stopped cannot.fault_is)) (inr (cannot.text_is, then_so (λ _. RefusesDisk new) cannot.refuses), only)
    unmade fault (inr uses) = by_disk fault uses

not_stopped : (fault : Fault) → Done ≡ Stopped fault → ⊥
not_stopped fault is = cc

-- the new store is made
pub migrated : (Wrote : List ℕ → Type 0) (old new : List ℕ) (before after : World) (journal : List Batch) (between : HostState)
    → UsesDisk old (ReadsFirst journal) before.host between → IsMadeUnder new journal between after.host Done → Wrote (migrated_line (length journal))
    → after ≡ record before { output = after.output; host = after.host } → Migrates Wrote old new before after
migrated Wrote old new before after journal between reads (inl (fault, is, cannot)) wrote rest = absurd (not_stopped fault is)
migrated Wrote old new before after journal between reads (inr uses) wrote rest = record {
  stores = record { journal = journal; between = between; reads = reads; next = uses };
  wrote = wrote;
  rest = rest;
}
