-- Statement: a log on a disk: what its images hold, and what its calls do to it.
use Rattle.std.specs.Prelude.{◌≡◌, ◌≢◌, ◌⊎◌, ◌+◌, ℕ, List, [], ◌∷◌, ◌++◌, length, Option, Some, None, IfSome, Ok, Err}
use Rattle.std.specs.Int.{w32, to_le_bytes}
use Rattle.outside.specs.Stream.{Rises}
use Rattle.disk_model.specs.Disk.{DiskState, Stays, StaysTold, Torn, written, MayLeave}
use Rattle.explorer_model.specs.StoreFile.{Reading, Record, header, record_bytes, front_of, records_of, records_at, CanStand}
use Rattle.record_log.specs.declared.format.Format.{Format}
use Rattle.record_log.specs.declared.fault.AppendFault.{AppendFault}
use Rattle.record_log.specs.declared.fault.AppendFault.TheVariants as append
use Rattle.record_log.specs.declared.fault.CreateFault.{CreateFault}
use Rattle.record_log.specs.declared.fault.CreateFault.TheVariants as create
use Rattle.record_log.specs.declared.fault.OpenFault.{OpenFault}
use Rattle.record_log.specs.declared.fault.OpenFault.TheVariants as opening

-- a log over a disk
pub record Log (D : Type 0) : Type 0 where
  pub disk : D
  pub format : Format
  pub gate : ℕ  -- where its closed gate stands
  pub fault : Option (ℕ × ℕ)  -- the disk's counts of faults round the append that failed

-- ---- one image

-- these bytes, and behind them a gate that is not open
pub record IsShutBehind (front image : List ℕ) : Type 0 where
  pub gate : ℕ
  pub rest : List ℕ
  pub shut : gate ≢ 1
  pub bytes : image ≡ front ++ gate ∷ rest

-- the same, with a record between them or without it
abbrev pub IsShutWithOrWithout : List ℕ → List ℕ → List ℕ → Type 0
IsShutWithOrWithout front payload image =
    IsShutBehind front image ⊎ IsShutBehind (front ++ record_bytes payload) image

-- what is read of a file in a format
abbrev pub reading_of : Format → List ℕ → Reading (List Record)
reading_of format file = records_of format.most format.number file

-- the records of an image are these payloads
abbrev pub HasPayloads : Format → List (List ℕ) → List ℕ → Type 0
HasPayloads format payloads image = reading_of format image ≡ Ok (records_at 12 payloads)

-- they are these, with one more or without it
abbrev pub IsWithOrWithout : Format → List (List ℕ) → List ℕ → List ℕ → Type 0
IsWithOrWithout format payloads payload image =
    HasPayloads format payloads image ⊎ HasPayloads format (payloads ++ payload ∷ []) image

-- ---- a log

-- each image that a crash may leave now has P
abbrev pub EachImage : {D : Type 0} → (D → DiskState) → (D → ℕ → List ℕ → Type 0) → D
    → (List ℕ → Type 0) → Type 0
EachImage disk left_since it P = (image : List ℕ) → MayLeave disk left_since it image → P image

-- a log that holds these payloads: every image does, and ends them with a gate that is not open
pub record IsLogOf {D : Type 0} (disk : D → DiskState) (left_since : D → ℕ → List ℕ → Type 0)
    (payloads : List (List ℕ)) (log : Log D) : Type 0 where
  pub sound : log.fault ≡ None
  pub can_stand : CanStand log.format.most log.format.number payloads
  pub place : log.gate ≡ length (front_of log.format.number payloads)
  pub shut : EachImage disk left_since log.disk (IsShutBehind (front_of log.format.number payloads))
  pub records : EachImage disk left_since log.disk (HasPayloads log.format payloads)

-- the disk's counts of faults before some calls and after them, of which one failed
pub record IsFault (before after : ℕ) (old new : DiskState) : Type 0 where
  pub before_is : before ≡ old.faults
  pub after_is : after ≡ new.faults
  pub rises : Rises before after

-- ---- append

-- a payload of so many bytes was added, and no call of the disk failed
pub record Adds {D : Type 0} (disk : D → DiskState) (count : ℕ) (old new : Log D) : Type 0 where
  pub sound : old.fault ≡ None
  pub no_fault : (disk new.disk).faults ≡ (disk old.disk).faults
  pub told : StaysTold (disk old.disk) (disk new.disk)
  pub rest : new ≡ record old { disk = new.disk; gate = old.gate + 5 + count }

-- nothing was written
pub record Refuses {D : Type 0} (fault : Option (ℕ × ℕ)) (old new : Log D) : Type 0 where
  pub was : old.fault ≡ fault
  pub same : new ≡ old

-- the disk failed, and the log is closed
pub record Breaks {D : Type 0} (disk : D → DiskState) (before after : ℕ)
    (old new : Log D) : Type 0 where
  pub sound : old.fault ≡ None
  pub counts : IsFault before after (disk old.disk) (disk new.disk)
  pub told : StaysTold (disk old.disk) (disk new.disk)
  pub rest : new ≡ record old { disk = new.disk; fault = Some (before, after) }

-- each fault of an append, and what it says of the log
abbrev pub IsNotAdded : {D : Type 0} → (D → DiskState) → AppendFault → Log D → Log D → Type 0
IsNotAdded disk (append.Closed before after) old new = Refuses (Some (before, after)) old new
IsNotAdded disk append.OutOfMemory old new = Refuses None old new
IsNotAdded disk (append.DiskFault before after) old new = Breaks disk before after old new

-- ---- create and open

-- the file of a log without a payload
abbrev pub empty_file : ℕ → List ℕ
empty_file number = header number ++ 0 ∷ []

-- a new log on a disk that was empty; a crash leaves its thirteen bytes
pub record IsCreated {D : Type 0} (disk : D → DiskState) (left_since : D → ℕ → List ℕ → Type 0)
    (format : Format) (before : D) (log : Log D) : Type 0 where
  pub was_empty : (disk before).size ≡ 0
  pub is_format : log.format ≡ format
  pub told : StaysTold (disk before) (disk log.disk)
  pub file : EachImage disk left_since log.disk (λ image. image ≡ empty_file format.number)
  pub holds_none : IsLogOf disk left_since [] log

-- the file of a log without a payload was written to an empty disk and synced
pub record IsWrittenEmpty {D : Type 0} (disk : D → DiskState)
    (left_since : D → ℕ → List ℕ → Type 0) (number : ℕ) (old new : D) : Type 0 where
  pub was_empty : (disk old).size ≡ 0
  pub size : (disk new).size ≡ 13
  pub no_fault : (disk new).faults ≡ (disk old).faults
  pub file : EachImage disk left_since new (λ image. image ≡ empty_file number)

-- a disk is not empty, and stays as it is
abbrev pub IsFilled : ℕ → DiskState → DiskState → Type 0
IsFilled size old new = (size ≢ 0) × (size ≡ old.size) × Stays old new

-- a call of the disk failed, and what stood there stands there still
pub record FailsToCreate (before after : ℕ) (old new : DiskState) : Type 0 where
  pub counts : IsFault before after old new
  pub told : StaysTold old new
  pub kept : old.size ≢ 0 → new.content ≡ old.content

-- each fault of a creation, and what it says of the disk
abbrev pub IsNotCreated : {D : Type 0} → (D → DiskState) → CreateFault → D → D → Type 0
IsNotCreated disk (create.NotEmpty size) old new = IsFilled size (disk old) (disk new)
IsNotCreated disk (create.DiskFault before after) old new =
    FailsToCreate before after (disk old) (disk new)

-- a log that was opened with these payloads, which are what is read of the disk where it tells
pub record IsOpened {D : Type 0} (disk : D → DiskState) (left_since : D → ℕ → List ℕ → Type 0)
    (format : Format) (payloads : List (List ℕ)) (before : D) (log : Log D) : Type 0 where
  pub is_format : log.format ≡ format
  pub read : IfSome (disk before).content (HasPayloads format payloads)
  pub holds : IsLogOf disk left_since payloads log

-- each fault of an opening, and what it says of the disk
abbrev pub IsNotOpened : {D : Type 0} → (D → DiskState) → Format → OpenFault → D → D → Type 0
IsNotOpened disk format (opening.Log fault) old new =
    IfSome (disk old).content (λ file. reading_of format file ≡ Err fault)
IsNotOpened disk format (opening.DiskFault before after) old new =
    IsFault before after (disk old) (disk new)
IsNotOpened disk format opening.OutOfMemory old new = Unit {0}

-- ---- a write that is synced

-- what a crash during it may leave
abbrev pub IsTornOf : {D : Type 0} → (D → DiskState) → (D → ℕ → List ℕ → Type 0) → D
    → ℕ → ℕ → List ℕ → Type 0
IsTornOf disk left_since old at n image =
    (before : List ℕ) × MayLeave disk left_since old before × Torn at n before image

-- what a crash after it may leave
abbrev pub IsWrittenOf : DiskState → ℕ → List ℕ → List ℕ → Type 0
IsWrittenOf old at piece image =
    (file : List ℕ) × (old.content ≡ Some file) × (image ≡ written at piece file)

-- what stands behind a gate that is to be opened: the length, the payload and the next gate
abbrev pub behind_gate : List ℕ → List ℕ
behind_gate payload = to_le_bytes w32 (length payload) ++ payload ++ 0 ∷ []
