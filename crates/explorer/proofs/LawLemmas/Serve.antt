-- Runs of `serve` over a told store refuse it alike, or serve the same doors, where memory is there and no call fails.
use Rattle.std.proofs.Common.{◌≡◌, ◌⊎◌, inl, inr, ℕ, ◌<◌, List, [], ◌∷◌, ◌++◌, length, map, Option, None, Some, refl, sym, ap, ◌∙◌, arith}
use Rattle.std.specs.Prelude.{◌≢◌, string_bytes}
use Rattle.std.specs.List.{AllZip}
use Rattle.std.proofs.lemmas.List.{length-map}
use Rattle.std.proofs.lemmas.Slice.Zip.{AllZip-long}
use Rattle.import_run.proofs.LawLemmas.{no_rise}
use Rattle.plain_laws.specs.Options.{IfSome-at}
use Rattle.outside.specs.Stream.{Rises, Stream}
use Rattle.host.specs.Hosts.{DiskBack, DiskOut, DiskRefused, DoorBack, DoorsOut, DoorsRefused, FileBack, FileOut, FileRefused, HostCall, HostState, PortBack, PortOut, PortRefused}
use Rattle.explorer_model.specs.declared.archive.Batch.{Batch}
use Rattle.explorer_model.specs.Journal.{IsSound}
use Rattle.explorer_model.specs.declared.store.LogFault.{LogFault}
use Rattle.explorer_model.specs.declared.store.LogFault.TheVariants as log
use Rattle.record_log.specs.declared.fault.OpenFault.TheVariants as opening
use Rattle.manifest.specs.Manifest.{HasJournal}
use Rattle.ingest_desk.specs.Openings.{IsWrong}
use Rattle.ingest_desk.proofs.PickingLemmas.{list_same}
use Rattle.explorer.specs.declared.fault.Fault.{Fault}
use Rattle.explorer.specs.declared.fault.Fault.TheVariants as faults
use Rattle.explorer.specs.Faults.{fault_of_opening}
use Rattle.explorer.specs.Laws.{GoesWell, IsSameCall, IsToldStore, RefusedAlike, ServedAlike, ServesDoors, with_workers}
use Rattle.explorer.specs.Lines.{Ending, Done, Stopped, status_of}
use Rattle.explorer.specs.Serve.{HasNoStore, IsRefused, IsWorkedTo, Serves, ServesBy, listening_line}
use Rattle.explorer.specs.Serve.Served.{DoorRun, FileRun, IsImported, IsServedFrom, IsWorked, Service, file_at, files_back, files_out, serve_calls}
use Rattle.explorer.specs.World.{World}
use Rattle.explorer.proofs.LawLemmas.OneEnding.{wrote_stream}
use Rattle.explorer.proofs.LawLemmas.Question.{OneOpening}

-- ---- what a run comes to

abbrev refusal : LogFault → Ending
refusal fault = Stopped (fault_of_opening (opening.Log fault))

-- the told bytes are no store
record IsRefusedRun (service : Service) (before after : World) (ending : Ending) : Type 0 where
  fault : LogFault
  is : ending ≡ refusal fault
  none : HasNoStore service fault before after

refused_by : (service : Service) (before after : World) (ending : Ending) → status_of ending ≡ 7
    → ServesBy service before after ending → IsRefusedRun service before after ending
refused_by service before after (Stopped faults.NotAStore) seven by =
    record { fault = log.NotALog; is = refl; none = by }
refused_by service before after (Stopped (faults.OtherFormat number)) seven by =
    record { fault = log.OtherFormat number; is = refl; none = by }
refused_by service before after (Stopped (faults.Damaged gate)) seven by =
    record { fault = log.Damaged gate; is = refl; none = by }
refused_by service before after Done seven by = absurd (omega (arith, seven))
refused_by service before after (Stopped faults.Usage) seven by = absurd by
refused_by service before after (Stopped (faults.BadParameter name)) seven by = absurd by
refused_by service before after (Stopped faults.BadLabel) seven by = absurd by
refused_by service before after (Stopped faults.SpillFault) seven by = absurd by
refused_by service before after (Stopped (faults.SpillDamaged part)) seven by = absurd by
refused_by service before after (Stopped faults.OpeningsTooLong) seven by = absurd by
refused_by service before after (Stopped (faults.BadOpenings row cause)) seven by = absurd by
refused_by service before after (Stopped faults.ReadFault) seven by = absurd (omega (arith, seven))
refused_by service before after (Stopped faults.WriteFault) seven by = absurd (omega (arith, seven))
refused_by service before after (Stopped faults.DiskFault) seven by = absurd (omega (arith, seven))
refused_by service before after (Stopped (faults.NotEmpty size)) seven by = absurd by
refused_by service before after (Stopped (faults.Full games bytes)) seven by = absurd (omega (arith, seven))
refused_by service before after (Stopped faults.OutOfMemory) seven by = absurd (omega (arith, seven))
refused_by service before after (Stopped (faults.CannotOpen name)) seven by = absurd (omega (arith, seven))
refused_by service before after (Stopped faults.CannotAccept) seven by = absurd (omega (arith, seven))
refused_by service before after (Stopped faults.TooMuchInput) seven by = absurd (omega (arith, seven))

-- a run that is refused writes nothing
pub refused_errors : (service : Service) (before after : World) (ending : Ending) → status_of ending ≡ 7
    → Serves service before after ending → after.errors ≡ before.errors
refused_errors service before after ending seven serves =
    ap (λ (w : World). w.errors) (refused_by service before after ending seven serves.by).none.silent

-- doors were served over the journal of the told bytes
record HasServed (service : Service) (image : List ℕ) (before after : World) : Type 0 where
  journal : List Batch
  read : HasJournal journal image
  sound : IsSound journal
  serves : ServesDoors service journal before after

abbrev Comes : Service → List ℕ → World → World → Ending → Type 0
Comes service image before after ending =
    (status_of ending ≡ 7) ⊎ HasServed service image before after

rises : (service : Service) (name : List ℕ) (before after : HostState) → IsRefused service name before after
    → Rises before.own_faults after.own_faults
rises service name before after (inl disk) = disk.1.rises
rises service name before after (inr (inl file)) = file.rises
rises service name before after (inr (inr doors)) = doors.1.rises

module _ (service : Service) (image : List ℕ) (before after : World)
    (told : IsToldStore service.store image before) (well : GoesWell before after) where
  works : (fault : Option Fault) → IsWorkedTo service fault before after
      → HasServed service image before after
  works fault to = record {
    journal = to.worked.opening;
    read = IfSome-at (HasJournal to.worked.opening) (before.host.disks service.store) image told.disk to.worked.told;
    sound = to.worked.sound;
    serves = record {
      worked = to.worked;
      opening_is = refl;
      goes_on = to.goes_on;
      listens = to.listens;
    };
  }

  comes : (ending : Ending) → status_of ending ≢ 9 → ServesBy service before after ending
      → Comes service image before after ending
  comes Done fed by = inr (works None by.0.served.to)
  comes (Stopped faults.WriteFault) fed by = inr (works None by.0.served.to)
  comes (Stopped faults.ReadFault) fed by = inr (works (Some faults.ReadFault) by.0.to)
  comes (Stopped (faults.Full games bytes)) fed by = inr (works (Some (faults.Full games bytes)) by.to)
  comes (Stopped faults.TooMuchInput) fed by = inr (works (Some faults.TooMuchInput) by.to)
  comes (Stopped faults.CannotAccept) fed by = inr (works (Some faults.CannotAccept) by.0.to)
  comes (Stopped faults.NotAStore) fed by = inl refl
  comes (Stopped (faults.OtherFormat number)) fed by = inl refl
  comes (Stopped (faults.Damaged gate)) fed by = inl refl
  comes (Stopped faults.DiskFault) fed by =
      absurd (no_rise before.host.disk_faults after.host.disk_faults well.faults told.faults by.0)
  comes (Stopped (faults.CannotOpen name)) fed by =
      absurd (no_rise before.host.own_faults after.host.own_faults well.refusals told.refusals
      (rises service (string_bytes name) before.host after.host by.0))
  comes (Stopped faults.OutOfMemory) fed by = absurd (fed refl)
  comes (Stopped faults.Usage) fed by = absurd by
  comes (Stopped (faults.BadParameter name)) fed by = absurd by
  comes (Stopped faults.BadLabel) fed by = absurd by
  comes (Stopped faults.SpillFault) fed by = absurd by
  comes (Stopped (faults.SpillDamaged part)) fed by = absurd by
  comes (Stopped faults.OpeningsTooLong) fed by = absurd by
  comes (Stopped (faults.BadOpenings row cause)) fed by = absurd by
  comes (Stopped (faults.NotEmpty size)) fed by = absurd by

-- ---- the calls of the host

same_call : (call : HostCall) → IsSameCall call call
same_call (DiskOut name) = refl
same_call (DiskRefused name) = refl
same_call (DiskBack name) = refl
same_call (FileOut name) = refl
same_call (FileRefused name) = refl
same_call (FileBack name file) = refl
same_call (DoorsOut address readers connections) = refl
same_call (DoorsRefused address readers connections) = refl
same_call (DoorBack door) = tt
same_call (PortOut name) = refl
same_call (PortRefused name) = refl
same_call (PortBack name) = refl

same_calls : (calls : List HostCall) → AllZip IsSameCall calls calls
same_calls [] = tt
same_calls (call ∷ calls) = (same_call call, same_calls calls)

zip_append : (xs ys others rest : List HostCall) → AllZip IsSameCall xs ys → AllZip IsSameCall others rest
    → AllZip IsSameCall (xs ++ others) (ys ++ rest)
zip_append [] [] others rest first later = later
zip_append [] (y ∷ ys) others rest first later = absurd first
zip_append (x ∷ xs) [] others rest first later = absurd first
zip_append (x ∷ xs) (y ∷ ys) others rest first later = (first.0, zip_append xs ys others rest first.1 later)

same_files : (names : List (List ℕ)) (files others : List Stream) → length files ≡ length names
    → length others ≡ length names → AllZip IsSameCall (files_back names files) (files_back names others)
same_files [] files others long long' = tt
same_files (name ∷ names) [] others long long' = absurd (omega (arith, long))
same_files (name ∷ names) (file ∷ files) [] long long' = absurd (omega (arith, long'))
same_files (name ∷ names) (file ∷ files) (other ∷ others) long long' =
    (refl, same_files names files others (omega (arith, long)) (omega (arith, long')))

same_doors : (doors others : List DoorRun) → length doors ≡ length others
    → AllZip IsSameCall (map (λ (run : DoorRun). DoorBack run.connections) doors) (map (λ (run : DoorRun). DoorBack run.connections) others)
same_doors [] [] long = tt
same_doors [] (other ∷ others) long = absurd (omega (arith, long))
same_doors (door ∷ doors) [] long = absurd (omega (arith, long))
same_doors (door ∷ doors) (other ∷ others) long = (tt, same_doors doors others (omega (arith, long)))

-- as many files come back as are named
files_long : (service : Service) (before after : HostState) (worked : IsWorked service before after)
    → length (map (λ (run : FileRun). run.file) worked.files) ≡ length service.files
files_long service before after worked =
    let long = AllZip-long IsImported (map (file_at before) service.files) worked.files worked.imported in
    length-map worked.files (λ (run : FileRun). run.file) ∙ long ∙ length-map service.files (file_at before)

doors_long : (service : Service) (before after : HostState) (worked : IsWorked service before after)
    → length worked.doors ≡ service.readers
doors_long service before after worked =
    AllZip-long (IsServedFrom service.book worked.opening) worked.handed worked.doors worked.served ∙ worked.are_fresh.number

-- ---- two runs

module _ (service : Service) (workers : ℕ) (image : List ℕ) (before after other : World)
    (ending ending' : Ending) (once : OneOpening) (told : IsToldStore service.store image before) where
  abbrev again : Service
  again = with_workers workers service

  wrong : (fault : LogFault) (now : World) (of : Service) → of.store ≡ service.store → HasNoStore of fault before now
      → IsWrong fault image
  wrong fault now of same none =
      IfSome-at (IsWrong fault) (before.host.disks of.store) image (ap (λ (n : List ℕ). before.host.disks n) same ∙ told.disk) none.wrong

  pub both_refused : status_of ending ≡ 7 → status_of ending' ≡ 7 → Serves service before after ending
      → Serves (with_workers workers service) before other ending' → (ending ≡ ending') × RefusedAlike service.store after other
  both_refused seven seven' serves serves' =
      let x = refused_by service before after ending seven serves.by in
      let y = refused_by again before other ending' seven' serves'.by in
      let faults = once.refused image x.fault y.fault (wrong x.fault after service refl x.none)
      (wrong y.fault other again refl y.none) in (
        x.is ∙ ap refusal faults ∙ sym y.is,
        record {
          streams = record {
            input = ap (λ (w : World). w.input) y.none.silent ∙ sym (ap (λ (w : World). w.input) x.none.silent);
            output = ap (λ (w : World). w.output) y.none.silent ∙ sym (ap (λ (w : World). w.output) x.none.silent);
            errors = ap (λ (w : World). w.errors) y.none.silent ∙ sym (ap (λ (w : World). w.errors) x.none.silent);
          };
          disk = y.none.given_up.kept ∙ sym x.none.given_up.kept;
          calls = y.none.given_up.called ∙ sym x.none.given_up.called;
          faults = y.none.disk ∙ sym x.none.disk;
        },
      )

  pub refused_too : GoesWell before other → status_of ending' ≢ 9 → status_of ending ≡ 7
      → Serves service before after ending → Serves (with_workers workers service) before other ending'
      → status_of ending' ≡ 7
  refused_too well' fed' seven serves serves' =
      by_second (comes again image before other told well' ending' fed' serves'.by)
    where
      by_second : Comes again image before other ending' → status_of ending' ≡ 7
      by_second (inl seven') = seven'
      by_second (inr y) =
          let x = refused_by service before after ending seven serves.by in
          absurd (once.either image y.journal x.fault y.read y.sound (wrong x.fault after service refl x.none))

  module _ (x : HasServed service image before after) (y : HasServed again image before other)
      (well : GoesWell before after) (well' : GoesWell before other) where
    same_handed : y.serves.worked.handed ≡ x.serves.worked.handed
    same_handed =
        let first = x.serves.worked.are_fresh in
        let second = y.serves.worked.are_fresh in
        list_same y.serves.worked.handed x.serves.worked.handed (second.number ∙ sym first.number)
        (λ k below. let less : k < service.readers = omega (arith, below, second.number) in second.each k less ∙ sym (first.each k less))

    same_asked : AllZip IsSameCall (serve_calls service x.serves.worked.files x.serves.worked.doors)
        (serve_calls again y.serves.worked.files y.serves.worked.doors)
    same_asked =
        let a = x.serves.worked in
        let b = y.serves.worked in
        let tail = DoorsOut service.address service.readers service.connections
        ∷ (files_out service.files ++ DiskOut service.store ∷ []) in
        let doors = same_doors a.doors b.doors (doors_long service before.host after.host a ∙ sym (doors_long again before.host other.host b)) in
        let files = same_files service.files (map (λ (run : FileRun). run.file) a.files) (map (λ (run : FileRun). run.file) b.files)
        (files_long service before.host after.host a) (files_long again before.host other.host b) in (
          refl,
          zip_append (files_back service.files (map (λ (run : FileRun). run.file) a.files)) (files_back service.files (map (λ (run : FileRun). run.file) b.files))
              (map (λ (run : DoorRun). DoorBack run.connections) a.doors ++ tail) (map (λ (run : DoorRun). DoorBack run.connections) b.doors ++ tail) files
              (zip_append (map (λ (run : DoorRun). DoorBack run.connections) a.doors) (map (λ (run : DoorRun). DoorBack run.connections) b.doors) tail tail doors (same_calls tail)),
        )

    both_alike : ServedAlike service again x.journal before after other
    both_alike =
        let journals = once.opened image y.journal x.journal y.read x.read in
        let line = listening_line service.address in
        record {
          first = x.serves;
          second = record {
            worked = y.serves.worked;
            opening_is = y.serves.opening_is ∙ journals;
            goes_on = y.serves.goes_on;
            listens = y.serves.listens;
          };
          doors = same_handed;
          calls = same_asked;
          input = y.serves.listens.input ∙ sym x.serves.listens.input;
          output =
              wrote_stream line before.output other.output told.output told.writes well'.writes y.serves.listens.output
              ∙ sym (wrote_stream line before.output after.output told.output told.writes well.writes x.serves.listens.output);
        }

  abbrev BothServed : Type 0
  BothServed = (opening : List Batch) × HasJournal opening image
      × ServedAlike service (with_workers workers service) opening before after other

  pub both_served : GoesWell before after → GoesWell before other → status_of ending ≢ 9
      → status_of ending' ≢ 9 → status_of ending ≢ 7 → Serves service before after ending
      → Serves (with_workers workers service) before other ending' → (opening : List Batch) × HasJournal opening image
      × ServedAlike service (with_workers workers service) opening before after other
  both_served well well' fed fed' differs serves serves' =
      by_first (comes service image before after told well ending fed serves.by)
    where
      by_second : HasServed service image before after → Comes again image before other ending' → BothServed
      by_second x (inl seven') =
          let y = refused_by again before other ending' seven' serves'.by in
          absurd (once.either image x.journal y.fault x.read x.sound (wrong y.fault other again refl y.none))
      by_second x (inr y) = (x.journal, x.read, both_alike x y well well')

      by_first : Comes service image before after ending → BothServed
      by_first (inl seven) = absurd (differs seven)
      by_first (inr x) = by_second x (comes again image before other told well' ending' fed' serves'.by)
