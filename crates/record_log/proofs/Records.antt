-- What stands at a gate.
use Rattle.std.proofs.Common.{◌≡◌, ℕ, ◌+◌, ◌^◌, ◌<◌, ◌≤◌, Bool, if◌then◌else◌, List, [], ◌∷◌, ◌++◌, length, take, drop, flat_map, Some, None, Err, sym, ap, ◌∙◌, arith, append_assoc, length-append, length-drop, take-append-drop}
use Rattle.std.proofs.lemmas.List.{drop-drop}
use Rattle.std.proofs.lemmas.List.Elements.{recursion_from_All}
use Rattle.std.specs.Int.{w32, to_le_bytes, IsInRange}
use Rattle.std.specs.Result.{result_map_both}
use Rattle.plain_laws.specs.Options.{IfSome-at, IfSome-from}
use Rattle.explorer_model.specs.StoreFile.{Reading, Record, header, record_bytes, front_of, length_behind, and_record, records_from, records_of, records_at, gate_limit, CanStand}
use Rattle.explorer_model.specs.declared.store.LogFault.{LogFault}
use Rattle.explorer_model.specs.declared.store.LogFault.TheVariants.{Damaged}
use Rattle.explorer_model.proofs.StoreReading.{records-behind, header-read}
use Rattle.record_log.specs.Log.{IsShutBehind, reading_of}
use Rattle.record_log.specs.Reading.{IsStop, IsNumberAt, IsBadCount, IsDamaged, StandsAt, BeginsWith, EndsWith}
use Rattle.record_log.specs.declared.format.Format.{Format}
use Rattle.outside.specs.Stream.{NeverFalls}
use Rattle.outside.proofs.StreamLemmas.{rises-later}
use Rattle.disk_model.specs.Disk.{DiskState}
use Rattle.record_log.specs.declared.stop.ReadStop.{ReadStop}
use Rattle.record_log.specs.declared.stop.ReadStop.TheVariants as stops
use Rattle.record_log.proofs.Appending.{shut-records}

module _ (file : List ℕ) (gate byte : ℕ) (read : take 1 (drop gate file) ≡ byte ∷ []) where
  -- a gate and what stands behind it
  at_gate : drop gate file ≡ byte ∷ drop (gate + 1) file
  at_gate = sym (take-append-drop 1 (drop gate file)) ∙ (λ i. read i ++ drop-drop 1 gate file i)

  module _ (is : byte ≡ 1) where
    pub open_gate : drop gate file ≡ 1 ∷ drop (gate + 1) file
    open_gate = at_gate ∙ ap (λ (b : ℕ). b ∷ drop (gate + 1) file) is

    pub damaged : (most : ℕ) (fault : LogFault) → IsBadCount most gate fault file → IsDamaged most gate fault file
    unfolding records_from
    damaged most fault bad =
        let bytes = drop (gate + 1) file in
        let count = length_behind bytes in
        let found = and_record gate (take count (drop 4 bytes)) (records_from most (4 + count) (gate + 1) bytes) in
        let fault_of : LogFault → Reading (List Record) = λ f. Err f in
        ap (records_from most 0 gate) open_gate
        ∙ ap (λ (whole : Bool). if whole then found else Err (Damaged gate)) bad.1 ∙ ap fault_of (sym bad.0)

    pub stands_some : (count : ℕ) (payload : List ℕ) → IsNumberAt (gate + 1) count file
        → payload ≡ take count (drop (gate + 5) file) → length payload ≡ count → StandsAt gate (Some payload) file
    stands_some count payload number bytes long =
        let next : (gate + 1) + 4 ≡ gate + 5 = omega arith in
        let behind : drop (gate + 1) file ≡ to_le_bytes w32 count ++ drop (gate + 5) file =
        sym (take-append-drop 4 (drop (gate + 1) file))
        ∙ (λ i. number.bytes i ++ (drop-drop 4 (gate + 1) file ∙ ap (λ (n : ℕ). drop n file) next) i) in
        let rest : drop (gate + 5) file ≡ payload ++ drop (gate + 5 + count) file =
        sym (take-append-drop count (drop (gate + 5) file)) ∙ (λ i. sym bytes i ++ drop-drop count (gate + 5) file i) in
        open_gate
        ∙ ap (λ (l : List ℕ). 1 ∷ l)
        (behind ∙ ap (λ (l : List ℕ). to_le_bytes w32 count ++ l) rest
        ∙ sym (append_assoc (to_le_bytes w32 count) payload (drop (gate + 5 + count) file)))
        ∙ (λ i. 1 ∷ ((to_le_bytes w32 (sym long i) ++ payload) ++ drop (gate + 5 + sym long i) file))

-- the bytes behind a header begin with some byte
header-before : (most number : ℕ) (bytes : List ℕ) → number < 2 ^ 32 → 0 < length bytes
    → records_of most number (header number ++ bytes) ≡ records_from most 0 12 bytes
header-before most number [] fits some = absurd (omega arith)
header-before most number (b ∷ bytes) fits some = header-read most number b bytes fits

-- ---- one record after another

module _ (format : Format) (payloads : List (List ℕ)) (gate : ℕ) (file : List ℕ) (begins : BeginsWith format payloads gate file) where
  pub ends_there : CanStand format.most format.number payloads → StandsAt gate None file → EndsWith format payloads file
  ends_there can stands =
      let shut : IsShutBehind (front_of format.number payloads) file = record {
        gate = stands.0;
        rest = stands.1;
        shut = stands.2;
        bytes = begins ∙ ap (λ (l : List ℕ). front_of format.number payloads ++ l) stands.3;
      } in
      record { shut = shut; records = shut-records format payloads file can shut }

  pub damaged_there : (fault : LogFault) → CanStand format.most format.number payloads
      → gate ≡ length (front_of format.number payloads) → gate < length file
      → IsDamaged format.most gate fault file → reading_of format file ≡ Err fault
  damaged_there fault can place inside bad =
      let others = flat_map record_bytes payloads in
      let bytes = drop gate file in
      let some : 0 < length bytes = omega (arith, length-drop gate file) in
      let some_more : 0 < length (others ++ bytes) = omega (arith, some, length-append others bytes) in
      let at : 12 + length others ≡ gate = omega (arith, place) in
      let low : 12 + length others ≤ gate_limit = omega (arith, can.places) in
      let read : Reading (List Record) → Reading (List Record) =
      λ r. result_map_both (λ (records : List Record). records_at 12 payloads ++ records) (λ (f : LogFault). f) r in
      ap (reading_of format) (begins ∙ append_assoc (header format.number) others bytes)
      ∙ header-before format.most format.number (others ++ bytes) can.number some_more
      ∙ records-behind format.most 12 payloads bytes can.lengths_fit
      (recursion_from_All (λ (p : List ℕ). IsInRange 1 format.most (length p)) payloads can.lengths) some low
      ∙ ap (λ (n : ℕ). read (records_from format.most 0 n bytes)) at ∙ ap read bad

-- a stop behind calls that wrote nothing
pub stop_behind : (IsOf IsOf' : LogFault → List ℕ → Type 0) (stop : ReadStop) (old middle new : DiskState)
    → middle.content ≡ old.content → NeverFalls old.faults middle.faults
    → ((fault : LogFault) (file : List ℕ) → old.content ≡ Some file → IsOf fault file → IsOf' fault file)
    → IsStop IsOf stop middle new → IsStop IsOf' stop old new
stop_behind IsOf IsOf' stops.Disk old middle new same never to stop = rises-later old.faults middle.faults new.faults never stop
stop_behind IsOf IsOf' stops.Memory old middle new same never to stop = tt
stop_behind IsOf IsOf' (stops.Log fault) old middle new same never to stop =
    IfSome-from (IsOf' fault) old.content
    (λ file is. to fault file is (IfSome-at (IsOf fault) middle.content file (same ∙ is) stop))
