-- Statement: the disk in memory: the record of its calls, and what follows from it.
use Rattle.std.specs.Prelude.{◌≡◌, ◌⊎◌, ◌≤◌, ◌<◌, ◌+◌, ◌-◌, ◌/◌, ◌%◌, ℕ, nat_eq, nat_le, Bool, true, false, ◌&&◌, if◌then◌else◌, List, [], ◌∷◌, length, map, take, Some, IsTrue}
use Rattle.std.specs.Int.{bit_at}
use Rattle.std.specs.List.{enumerate_from}
use Rattle.outside.specs.Memory.{FailurePlan, fails_next}
use Rattle.disk_model.specs.Disk.{DiskState, written, Torn, MayLeave}
use Rattle.disk_model.specs.declared.call.DiskCall.{DiskCall}
use Rattle.disk_model.specs.declared.call.DiskCall.TheVariants.{Wrote, Synced}

-- a disk in memory
pub record MemoryDisk : Type 0 where
  pub calls : List DiskCall  -- its writes, and a sync after the last of some; the newest first
  pub room : ℕ  -- how many bytes it may hold
  pub plan : FailurePlan
  pub faults : ℕ
  pub short_of_memory : Bool  -- whether its newest call found no memory for its record

-- a file after a write that was done, or was not; one that leaves a gap is none
abbrev pub after_write : ℕ → List ℕ → Bool → List ℕ → List ℕ
after_write at piece done file =
    if done && nat_le at (length file) then written at piece file else file

-- what reads give after these calls
unfoldable pub content_of : List DiskCall → List ℕ
content_of [] = []
content_of (Wrote at piece done ∷ calls) = after_write at piece.items done (content_of calls)
content_of (Synced ∷ calls) = content_of calls

-- what a crash may leave after these calls
unfoldable pub IsImage : List DiskCall → List ℕ → Type 0
IsImage [] image = image ≡ []
IsImage (Wrote at piece done ∷ calls) image =
    (before : List ℕ) × IsImage calls before × Torn at (length piece.items) before image
IsImage (Synced ∷ calls) image = image ≡ content_of calls

-- what a crash may have left once t of these calls were made, or later
unfoldable pub WasImage : List DiskCall → ℕ → List ℕ → Type 0
WasImage [] t image = image ≡ []
WasImage (call ∷ calls) t image =
    IsImage (call ∷ calls) image ⊎ ((t ≤ length calls) × WasImage calls t image)

-- ---- what a crash leaves by its number

-- The bytes of a piece that a crash tears: bit `index % 3` of the number says which of them are
-- others, and the bits above the lowest what they are.
abbrev pub torn_bytes : ℕ → List ℕ → List ℕ
torn_bytes number piece =
    map (λ x. if nat_eq (bit_at number (x.0 % 3)) 1 then number / 2 % 256 else x.1)
    (enumerate_from 0 piece)

-- how many of so many bytes past the old end a crash keeps: all, half or none
abbrev pub kept_by : ℕ → ℕ → ℕ
kept_by cut grown = if nat_eq cut 0 then grown else if nat_eq cut 1 then grown / 2 else 0

-- what is left of a piece of which so many bytes stand before the old end
abbrev pub torn_piece : ℕ → ℕ → List ℕ → List ℕ
torn_piece number inside piece =
    take (inside + kept_by (number / 512 % 4) (length piece - inside)) (torn_bytes number piece)

-- a file with a write that a crash tears
abbrev pub torn_write : ℕ → ℕ → List ℕ → List ℕ → List ℕ
torn_write number at piece file =
    after_write at (torn_piece number (length file - at) piece) true file

-- The file that a crash leaves by its number: the number tears the newest write that is not synced,
-- and what stands above its lowest eleven bits the writes before it. The number 0 tears none.
unfoldable pub left_by : ℕ → List DiskCall → List ℕ
left_by number [] = []
left_by number (Synced ∷ calls) = content_of calls
left_by number (Wrote at piece done ∷ calls) =
    torn_write number at piece.items
    (if nat_eq (number / 2048) 0 then content_of calls else left_by (number / 2048) calls)

-- a call that writes no byte past the room
abbrev pub FitsIn : ℕ → DiskCall → Type 0
FitsIn room (Wrote at piece done) = at + length piece.items ≤ room
FitsIn room Synced = Unit {0}

-- whether the newest call is a sync
abbrev pub is_synced : List DiskCall → Bool
is_synced (Synced ∷ calls) = true
is_synced _ = false

abbrev pub state_of : MemoryDisk → DiskState
state_of it = record {
  content = Some (content_of it.calls);
  size = length (content_of it.calls);
  moment = length it.calls;
  faults = it.faults;
}

abbrev pub left_since : MemoryDisk → ℕ → List ℕ → Type 0
left_since it t image = WasImage it.calls t image

-- the calls with a sync after them, of which two in a row are one
abbrev pub with_sync : List DiskCall → List DiskCall
with_sync calls = if is_synced calls then calls else Synced ∷ calls

-- why a write of n bytes fails: the plan says so, it goes past the room, or its record finds no
-- memory
abbrev pub HasWriteFault : ℕ → ℕ → MemoryDisk → MemoryDisk → Type 0
HasWriteFault at n old new =
    IsTrue (fails_next old.plan) ⊎ (old.room < at + n) ⊎ IsTrue new.short_of_memory

-- what a crash leaves of a disk: one of its images, all of it synced; no call is to fail
pub record IsLeft (old new : MemoryDisk) : Type 0 where
  pub left : MayLeave state_of left_since old (content_of new.calls)
  pub synced : is_synced new.calls ≡ true
  pub rest : new ≡ record old {
    calls = new.calls;
    plan = record { failing = []; calls = 0 };
    faults = 0;
    short_of_memory = false;
  }
