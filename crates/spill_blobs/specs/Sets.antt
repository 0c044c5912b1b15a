-- Statement: sets of segments whose rows stand in a scratch file.
use Rattle.std.specs.Prelude.{◌≡◌, ◌≤◌, ◌+◌, ◌*◌, ⊤, ℕ, List, [], ◌∷◌, length, take, slice_get, Vec, Option, None, Some, IfSome, Result}
use Rattle.std.specs.Global.{Global}
use Rattle.std.specs.List.{AllByRecursion, flat_map}
use Rattle.explorer_model.specs.declared.archive.Batch.{Batch}
use Rattle.explorer_model.specs.declared.chess.Position.{Position}
use Rattle.explorer_model.specs.declared.fault.Stop.{Stop}
use Rattle.explorer_model.specs.declared.fault.Stop.TheVariants.{Fault, OutOfMemory}
use Rattle.explorer_model.specs.Timeline.{IsPrefix}
use Rattle.outside.specs.Ports.{Scratch, FailsToAppend}
use Rattle.segment_blocks.specs.Segment.{CountedSpan, IsSegment, segment_limit}
use Rattle.spill_blobs.specs.Judging.{Judges, blocks_at}
use Rattle.spill_blobs.specs.Parts.{Spilled, part_bytes}
use Rattle.spill_blobs.specs.RowBlocks.{block_size}
use Rattle.spill_blobs.specs.declared.port_fault.PortFault.{PortFault}
use Rattle.spill_blobs.specs.declared.port_fault.PortFault.TheVariants.{WriteFault}
use Rattle.tally_rows.specs.declared.row.Row.{Row}

-- ---- what sets are

-- the batches of all segments, in order
abbrev pub journal_of : List CountedSpan → List Batch
journal_of set = flat_map (λ segment. segment.span.batches) set

-- how many games they have
abbrev pub games_in : List CountedSpan → ℕ
games_in [] = 0
games_in (segment ∷ set) = length segment.classes + games_in set

-- each segment begins where the one before ends, the first at this batch
abbrev pub FollowFrom : ℕ → List CountedSpan → Type 0
FollowFrom first [] = ⊤
FollowFrom first (segment ∷ set) =
    (segment.span.first ≡ first) × FollowFrom (first + length segment.span.batches) set

-- segments that stand one after another from the first batch on, with few games together
pub record IsSet (set : List CountedSpan) : Type 0 where
  pub each : AllByRecursion IsSegment set
  pub follow : FollowFrom 0 set
  pub few : games_in set ≤ segment_limit

-- ---- what stands in the file

-- the bytes of all segments' rows
abbrev pub set_bytes : List CountedSpan → List ℕ
set_bytes set = flat_map part_bytes set

-- exactly the set's bytes were appended, as far as the file tells them
pub record HasJust (scratch : Scratch) (bytes : List ℕ) : Type 0 where
  pub told : IfSome scratch.appended (λ told. told ≡ bytes)
  pub size : scratch.size ≡ length bytes

-- each part begins where the one before ends
abbrev pub AreLaid : ℕ → List Spilled → ℕ → Type 0
AreLaid at [] end = end ≡ at
AreLaid at (part ∷ parts) end =
    (part.start ≡ at) × (length (part_bytes part.segment) ≡ block_size * part.count)
    × AreLaid (at + block_size * part.count) parts end

-- the file tells its bytes, which begin with those of the set
abbrev pub HoldsIn : List CountedSpan → Option (List ℕ) → Type 0
HoldsIn set None = ⊥
HoldsIn set (Some bytes) = IsPrefix (set_bytes set) bytes

abbrev pub Holds : List CountedSpan → Scratch → Type 0
Holds set scratch = HoldsIn set scratch.appended

-- ---- a segment more

-- why a segment is not added: an append failed, or memory was refused
abbrev pub IsNotAdded : Stop PortFault → List ℕ → Scratch → Scratch → Type 0
IsNotAdded (Fault (WriteFault before after)) piece old new =
    (before ≡ old.faults) × (after ≡ new.faults) × FailsToAppend piece old new
IsNotAdded (Fault _) piece old new = ⊥
IsNotAdded OutOfMemory piece old new = new ≡ old

-- ---- the rows of a key

-- what is answered of part n of the set over bytes that are told, whatever they are
abbrev pub JudgesPart : Position → List ℕ → ℕ → List CountedSpan → List ℕ
    → Result (Vec Row Global) (Stop PortFault) → Type 0
JudgesPart at key n set told result =
    IfSome (slice_get set n) (λ segment.
    Judges at key n (length segment.classes)
    (blocks_at key (length (set_bytes (take n set))) segment told) result)
