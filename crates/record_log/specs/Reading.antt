-- Bridge: what reads of a log's file come to.
use Rattle.std.specs.Prelude.{◌≡◌, ◌≢◌, ◌≤◌, ◌<◌, ◌+◌, ℕ, List, ◌∷◌, ◌++◌, length, take, drop, Option, Some, None, IfSome, Err, false}
use Rattle.std.specs.Int.{w32, to_le_bytes, from_le_bytes, IsInRange}
use Rattle.outside.specs.Stream.{Rises}
use Rattle.disk_model.specs.Disk.{DiskState}
use Rattle.explorer_model.specs.StoreFile.{record_bytes, front_of, records_from, is_whole, gate_limit, CanStand}
use Rattle.explorer_model.specs.declared.store.LogFault.{LogFault}
use Rattle.explorer_model.specs.declared.store.LogFault.TheVariants.{Damaged}
use Rattle.record_log.specs.Log.{IsShutBehind, HasPayloads}
use Rattle.record_log.specs.declared.format.Format.{Format}
use Rattle.record_log.specs.declared.stop.ReadStop.{ReadStop}
use Rattle.record_log.specs.declared.stop.ReadStop.TheVariants as stops

-- each stop of a reading, and what it says: of the disk, or of the file by this relation
abbrev pub IsStop : (LogFault → List ℕ → Type 0) → ReadStop → DiskState → DiskState → Type 0
IsStop IsOf stops.Disk old new = Rises old.faults new.faults
IsStop IsOf stops.Memory old new = Unit {0}
IsStop IsOf (stops.Log fault) old new = IfSome old.content (IsOf fault)

-- a number stands in the four bytes at a place
pub record IsNumberAt (at number : ℕ) (file : List ℕ) : Type 0 where
  pub bytes : take 4 (drop at file) ≡ to_le_bytes w32 number
  pub is : number ≡ from_le_bytes w32 (take 4 (drop at file))

-- the file is damaged at an open gate
abbrev pub IsDamaged : ℕ → ℕ → LogFault → List ℕ → Type 0
IsDamaged most gate fault file = records_from most 0 gate (drop gate file) ≡ Err fault

-- what stands at a gate: no record, or this one
abbrev pub StandsAt : ℕ → Option (List ℕ) → List ℕ → Type 0
StandsAt gate None file =
    (byte : ℕ) × (rest : List ℕ) × (byte ≢ 1) × (drop gate file ≡ byte ∷ rest)
StandsAt gate (Some payload) file =
    drop gate file ≡ record_bytes payload ++ drop (gate + 5 + length payload) file

-- a payload whose length is allowed, and behind which a gate stands in the file
pub record Fits (most gate size : ℕ) (payload : List ℕ) : Type 0 where
  pub allowed : IsInRange 1 most (length payload)
  pub inside : gate + 5 + length payload < size
  pub low : gate + 5 + length payload ≤ gate_limit

-- the payloads up to a gate
pub record IsUpTo (format : Format) (size gate : ℕ) (payloads : List (List ℕ)) : Type 0 where
  pub can_stand : CanStand format.most format.number payloads
  pub place : gate ≡ length (front_of format.number payloads)
  pub inside : gate < size

-- a file begins with these payloads
abbrev pub BeginsWith : Format → List (List ℕ) → ℕ → List ℕ → Type 0
BeginsWith format payloads gate file = file ≡ front_of format.number payloads ++ drop gate file

-- the bytes behind an open gate are no whole record
abbrev pub IsBadCount : ℕ → ℕ → LogFault → List ℕ → Type 0
IsBadCount most gate fault file =
    (fault ≡ Damaged gate) × (is_whole most gate (drop (gate + 1) file) ≡ false)

-- a file has these payloads, and ends them with a gate that is not open
pub record EndsWith (format : Format) (payloads : List (List ℕ)) (file : List ℕ) : Type 0 where
  pub shut : IsShutBehind (front_of format.number payloads) file
  pub records : HasPayloads format payloads file
