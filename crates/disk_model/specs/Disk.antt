-- Statement: what a disk has come to, what its calls do to it, and what a crash may leave of it.
use Rattle.std.specs.Prelude.{◌≡◌, ◌⊎◌, ◌≤◌, ◌+◌, ℕ, max, List, ◌++◌, length, take, drop, Option, Some, None, IfSome, IsSome}
use Rattle.std.specs.Option.{option_map}
use Rattle.outside.specs.Stream.{Rises, NeverFalls}

-- A disk at one moment. Its content is told (Some) or not (None), and stays so.
pub record DiskState : Type 0 where
  pub content : Option (List ℕ)  -- what reads give
  pub size : ℕ  -- in bytes, also where the content is not told
  pub moment : ℕ  -- a number that does not fall
  pub faults : ℕ  -- how many calls have failed

-- ---- one call

-- a call was done, and only time went on
abbrev pub Stays : DiskState → DiskState → Type 0
Stays old new = new ≡ record old { moment = new.moment }

-- a disk that told its content tells it still
abbrev pub StaysTold : DiskState → DiskState → Type 0
StaysTold old new = IsSome old.content → IsSome new.content

-- a call failed, and changes nothing else
pub record Fails (old new : DiskState) : Type 0 where
  pub rises : Rises old.faults new.faults
  pub rest : new ≡ record old { moment = new.moment; faults = new.faults }

-- a read filled a buffer with the bytes at a place
pub record Reads (at : ℕ) (buffer : List ℕ) (old new : DiskState) : Type 0 where
  pub bytes : IfSome old.content (λ file. buffer ≡ take (length buffer) (drop at file))
  pub rest : Stays old new

-- a file with a piece written at a place
abbrev pub written : ℕ → List ℕ → List ℕ → List ℕ
written at piece file = take at file ++ piece ++ drop (at + length piece) file

-- a piece was written
pub record Writes (at : ℕ) (piece : List ℕ) (old new : DiskState) : Type 0 where
  pub content : new.content ≡ option_map (written at piece) old.content
  pub size : new.size ≡ max old.size (at + length piece)
  pub rest : new ≡ record old { content = new.content; size = new.size; moment = new.moment }

-- What is left of a file by a write of n bytes that is cut short: any bytes in its range and past
-- the old end, the same elsewhere.
pub record Torn (at n : ℕ) (old new : List ℕ) : Type 0 where
  pub before : take at new ≡ take at old
  pub after : drop (at + n) new ≡ drop (at + n) old
  pub no_shorter : length old ≤ length new
  pub no_longer : length new ≤ max (length old) (at + n)

-- two contents are told and in this relation, or neither is told
abbrev pub AlsoTold : (List ℕ → List ℕ → Type 0) → Option (List ℕ) → Option (List ℕ) → Type 0
AlsoTold R (Some old) (Some new) = R old new
AlsoTold R None None = Unit {0}
AlsoTold R _ _ = ⊥

-- a write of n bytes failed, with whatever part of it done
pub record FailsToWrite (at n : ℕ) (old new : DiskState) : Type 0 where
  pub content : AlsoTold (Torn at n) old.content new.content
  pub no_smaller : old.size ≤ new.size
  pub no_larger : new.size ≤ max old.size (at + n)
  pub rises : Rises old.faults new.faults

-- ---- crashes

-- What a crash at the disk's own moment may leave. Of each disk, left_since tells what a crash at
-- some moment from a given one on may have left.
abbrev pub MayLeave : {D : Type 0} → (D → DiskState) → (D → ℕ → List ℕ → Type 0) → D
    → List ℕ → Type 0
MayLeave disk left_since it image = left_since it (disk it).moment image

-- an image that a call leaves as it is
abbrev pub Same : List ℕ → List ℕ → Type 0
Same before image = image ≡ before

-- Time goes on from old to new, in a call that does this to the images: each that a crash may
-- leave now is one from before it, after that step.
pub record Elapses {D : Type 0} (disk : D → DiskState) (left_since : D → ℕ → List ℕ → Type 0)
    (Step : List ℕ → List ℕ → Type 0) (old new : D) : Type 0 where
  pub later : (disk old).moment ≤ (disk new).moment
  pub now : (image : List ℕ) → MayLeave disk left_since new image
      → (before : List ℕ) × MayLeave disk left_since old before × Step before image
  pub nothing_else : (t : ℕ) (image : List ℕ) → t ≤ (disk old).moment → left_since new t image
      → left_since old t image ⊎ MayLeave disk left_since new image
  pub keeps : (t : ℕ) (image : List ℕ) → t ≤ (disk old).moment → left_since old t image
      → left_since new t image

-- a crash now leaves what reads give
abbrev pub IsDurable : {D : Type 0} → (D → DiskState) → (D → ℕ → List ℕ → Type 0) → D → Type 0
IsDurable disk left_since it =
    (image : List ℕ) → MayLeave disk left_since it image → (disk it).content ≡ Some image

-- ---- one call after another

-- a crash at any moment since old leaves an image that has P
pub record LeavesOnly {D : Type 0} (disk : D → DiskState) (left_since : D → ℕ → List ℕ → Type 0)
    (old new : D) (P : List ℕ → Type 0) : Type 0 where
  pub later : (disk old).moment ≤ (disk new).moment
  pub each : (image : List ℕ) → left_since new (disk old).moment image → P image
  -- for a run that began earlier
  pub before : (t : ℕ) (image : List ℕ) → t ≤ (disk old).moment → left_since new t image
      → left_since old t image ⊎ P image

-- calls that wrote nothing, whether or not some failed
pub record IsQuiet {D : Type 0} (disk : D → DiskState) (left_since : D → ℕ → List ℕ → Type 0)
    (old new : D) : Type 0 where
  pub never_falls : NeverFalls (disk old).faults (disk new).faults
  pub rest : disk new ≡ record (disk old) { moment = (disk new).moment; faults = (disk new).faults }
  pub now : (image : List ℕ) → MayLeave disk left_since new image
      → MayLeave disk left_since old image
  pub moments : LeavesOnly disk left_since old new (MayLeave disk left_since old)
