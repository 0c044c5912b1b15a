-- Statement: what is answered of the rows of a position in a part.
use Rattle.std.specs.Prelude.{◌≡◌, ◌⊎◌, ◌+◌, ◌-◌, ◌*◌, ⊤, ℕ, List, length, filter, Vec, Some, None, Result, Ok, Err}
use Rattle.std.specs.Global.{Global}
use Rattle.explorer_model.specs.declared.chess.Position.{Position}
use Rattle.explorer_model.specs.declared.fault.Stop.{Stop}
use Rattle.explorer_model.specs.declared.fault.Stop.TheVariants.{Fault, OutOfMemory}
use Rattle.outside.specs.Ports.{Scratch}
use Rattle.outside.specs.Stream.{Rises}
use Rattle.segment_blocks.specs.Segment.{CountedSpan}
use Rattle.segment_blocks.specs.Walk.{has_key}
use Rattle.spill_blobs.specs.Marks.{place_in}
use Rattle.spill_blobs.specs.Parts.{Spilled}
use Rattle.spill_blobs.specs.RowBlocks.{block_size}
use Rattle.spill_blobs.specs.SoundRows.{AreSound}
use Rattle.spill_blobs.specs.Walks.{WalksTo, blocks_from, lesser_limit}
use Rattle.spill_blobs.specs.declared.port_fault.PortFault.{PortFault}
use Rattle.spill_blobs.specs.declared.port_fault.PortFault.TheVariants.{ReadFault, Damaged, WriteFault}
use Rattle.spill_blobs.specs.declared.walk_fault.WalkFault.{WalkFault}
use Rattle.spill_blobs.specs.declared.walk_fault.WalkFault.TheVariants as walks
use Rattle.tally_rows.specs.declared.row.Row.{Row}

-- the blocks of a segment, whose bytes begin at a place, from where a walk to the key begins
abbrev pub blocks_at : List ℕ → ℕ → CountedSpan → List ℕ → List (List ℕ)
blocks_at key start segment told =
    blocks_from told (start + block_size * place_in key segment.rows)
    (length segment.rows - place_in key segment.rows)

abbrev pub part_blocks : List ℕ → Spilled → List ℕ → List (List ℕ)
part_blocks key part told = blocks_at key part.start part.segment told

-- what is answered over blocks that are told, whatever they are
abbrev pub Judges : Position → List ℕ → ℕ → ℕ → List (List ℕ)
    → Result (Vec Row Global) (Stop PortFault) → Type 0
Judges at key n games blocks (Ok rows) =
    WalksTo key blocks lesser_limit (Some rows.items) × AreSound at games rows.items
Judges at key n games blocks (Err (Fault (Damaged part))) =
    (part ≡ n) × (WalksTo key blocks lesser_limit None
    ⊎ ((rows : List Row) × WalksTo key blocks lesser_limit (Some rows)
    × (¬ AreSound at games rows)))
Judges at key n games blocks (Err (Fault (WriteFault before after))) = ⊥
Judges at key n games blocks (Err (Fault (ReadFault before after))) = ⊤
Judges at key n games blocks (Err OutOfMemory) = ⊤

-- what reading does to the file: a read failed, or all is as before
abbrev pub ReadsPart : Result (Vec Row Global) (Stop PortFault) → Scratch → Scratch → Type 0
ReadsPart (Err (Fault (ReadFault before after))) old new =
    (before ≡ old.faults) × (after ≡ new.faults) × Rises old.faults new.faults
    × (new ≡ record old { faults = new.faults })
ReadsPart (Err (Fault (WriteFault before after))) old new = ⊥
ReadsPart _ old new = new ≡ old

-- a part that is damaged is the one that is read
abbrev pub NamesPart : ℕ → Result (Vec Row Global) (Stop PortFault) → Type 0
NamesPart n (Err (Fault (Damaged part))) = part ≡ n
NamesPart n _ = ⊤

-- the rows of the key; they are never damaged
abbrev pub GivesRowsOf : List ℕ → CountedSpan → Result (Vec Row Global) (Stop PortFault) → Type 0
GivesRowsOf key segment (Ok rows) = rows.items ≡ filter (has_key key) segment.rows
GivesRowsOf key segment (Err (Fault (Damaged part))) = ⊥
GivesRowsOf key segment (Err (Fault (WriteFault before after))) = ⊥
GivesRowsOf key segment (Err _) = ⊤

-- ---- in parts

-- what is answered of the rows that a walk found
abbrev pub IsJudged : Position → ℕ → ℕ → List Row → Result (Vec Row Global) (Stop PortFault)
    → Type 0
IsJudged at n games rows (Ok found) = (found.items ≡ rows) × AreSound at games rows
IsJudged at n games rows (Err (Fault (Damaged part))) = (part ≡ n) × (¬ AreSound at games rows)
IsJudged at n games rows (Err (Fault _)) = ⊥
IsJudged at n games rows (Err OutOfMemory) = ⊤

-- the fault of a walk over part n
abbrev pub IsStopOf : WalkFault → ℕ → Stop PortFault → Type 0
IsStopOf (walks.ReadFault before after) n stop = stop ≡ Fault (ReadFault before after)
IsStopOf walks.Damaged n stop = stop ≡ Fault (Damaged n)
IsStopOf walks.OutOfMemory n stop = stop ≡ OutOfMemory
