-- Statement: what a scratch file has come to, and what its calls do to it.
use Rattle.std.specs.Prelude.{◌≡◌, ◌≤◌, ◌+◌, ◌*◌, ℕ, List, [], ◌++◌, length, take, drop, replicate, Option, Some, None, IfSome}
use Rattle.std.specs.Option.{option_map}
use Rattle.outside.specs.Memory.{FailurePlan}
use Rattle.outside.specs.Stream.{Rises}

-- A scratch file at one moment. The bytes are told (Some) or not (None).
pub record Scratch : Type 0 where
  pub appended : Option (List ℕ)  -- the bytes that were appended
  pub size : ℕ  -- how many they are, also where they are not told
  pub faults : ℕ  -- how many calls have failed

-- the file with a piece behind its bytes
abbrev pub with_piece : List ℕ → Scratch → Scratch
with_piece piece old = record old {
  appended = option_map (λ told. told ++ piece) old.appended;
  size = old.size + length piece;
}

-- an append put the whole piece behind the bytes before
abbrev pub AppendsPiece : List ℕ → Scratch → Scratch → Type 0
AppendsPiece piece old new = new ≡ with_piece piece old

-- an append failed, and put some front of the piece there
pub record FailsToAppend (piece : List ℕ) (old new : Scratch) : Type 0 where
  pub count : ℕ
  pub within : count ≤ length piece
  pub rises : Rises old.faults new.faults
  pub rest : new ≡ record (with_piece (take count piece) old) { faults = new.faults }

-- a read filled a buffer with the bytes at a place
pub record GivesBack (at : ℕ) (buffer : List ℕ) (old new : Scratch) : Type 0 where
  pub bytes : IfSome old.appended (λ told. buffer ≡ take (length buffer) (drop at told))
  pub rest : new ≡ old

-- a read failed, and changes nothing else
pub record FailsToGiveBack (old new : Scratch) : Type 0 where
  pub rises : Rises old.faults new.faults
  pub rest : new ≡ record old { faults = new.faults }

-- ---- the scratch file in memory

-- what it holds: bytes, or how many there would be
pub data Held : Type 0 where
  Bytes : List ℕ → Held
  Blank : ℕ → Held

abbrev pub told_of : Held → Option (List ℕ)
told_of (Bytes bytes) = Some bytes
told_of (Blank size) = None

abbrev pub size_of : Held → ℕ
size_of (Bytes bytes) = length bytes
size_of (Blank size) = size

-- what is held once a piece stands behind it
abbrev pub held_with : Held → List ℕ → Held
held_with (Bytes bytes) piece = Bytes (bytes ++ piece)
held_with (Blank size) piece = Blank (size + length piece)

-- what is held once its bytes are dropped
abbrev pub cleared : Held → Held
cleared (Bytes bytes) = Bytes []
cleared (Blank size) = Blank 0

-- the bytes at a place: zeros where none are kept
abbrev pub held_at : Held → ℕ → ℕ → List ℕ
held_at (Bytes bytes) at count = take count (drop at bytes)
held_at (Blank size) at count = replicate count 0

-- a scratch file in memory: what it holds, the most bytes that it may hold, and which calls fail
pub record MemoryPort : Type 0 where
  pub held : Held
  pub room : ℕ
  pub plan : FailurePlan
  pub faults : ℕ

abbrev pub scratch_of : MemoryPort → Scratch
scratch_of it = record {
  appended = told_of it.held;
  size = size_of it.held;
  faults = it.faults;
}
