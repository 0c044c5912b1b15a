-- Statement: rows of a position as they are read of the parts of a set.
use Rattle.std.specs.Prelude.{◌≡◌, ◌<◌, ◌+◌, ⊤, ℕ, Bool, List, [], ◌∷◌, map, filter, length, Vec, Option, Ok, Err, IfSome}
use Rattle.std.specs.Global.{Global}
use Rattle.std.specs.List.{flat_map}
use Rattle.explorer_model.specs.declared.chess.Position.{Position}
use Rattle.explorer_model.specs.declared.fault.Stop.{Stop}
use Rattle.explorer_model.specs.declared.fault.Stop.TheVariants.{Fault}
use Rattle.lookup.specs.declared.part_rows.PartRows.{PartRows}
use Rattle.row_sums.specs.Hits.{NumberedRow}
use Rattle.segment_blocks.specs.Segment.{CountedSpan}
use Rattle.segment_blocks.specs.Walk.{has_key}
use Rattle.spill_blobs.specs.Sets.{JudgesPart}
use Rattle.spill_blobs.specs.SoundRows as sound
use Rattle.spill_blobs.specs.Walks.{lesser_limit}
use Rattle.spill_blobs.specs.declared.port_fault.PortFault.{PortFault}
use Rattle.spill_blobs.specs.declared.port_fault.PortFault.TheVariants.{Damaged}
use Rattle.tally_rows.specs.declared.row.Row.{Row}
use Rattle.tally_rows.specs.declared.row_key.RowKey.{RowKey}
use Rattle.tally_rows.specs.Row.{row_key_of}

-- ---- the rows that were read

-- for each segment rows that its games can have, and the number of its first game
abbrev pub AreRead : Position → ℕ → List CountedSpan → List PartRows → Type 0
AreRead at first [] [] = ⊤
AreRead at first [] (part ∷ parts) = ⊥
AreRead at first (segment ∷ set) [] = ⊥
AreRead at first (segment ∷ set) (part ∷ parts) =
    (part.first ≡ first) × sound.AreSound at (length segment.classes) part.rows.items
    × AreRead at (first + length segment.classes) set parts

-- they are the segment's rows of the key
abbrev pub AreOfKey : List ℕ → CountedSpan → PartRows → Type 0
AreOfKey key segment part = part.rows.items ≡ filter (has_key key) segment.rows

-- the rows of a part that are picked, with the number of the part's first game
abbrev pub hits_of_part : (RowKey → Bool) → PartRows → List NumberedRow
hits_of_part pick part =
    map (λ row. record { row = row; first = part.first })
    (filter (λ row. pick (row_key_of row)) part.rows.items)

-- those of all parts
abbrev pub hits_in : (RowKey → Bool) → List PartRows → List NumberedRow
hits_in pick parts = flat_map (hits_of_part pick) parts

-- ---- why reading stops

-- over bytes that are told, whatever they are, each of the first n parts has rows
abbrev pub AreJudged : Position → List ℕ → List CountedSpan → List ℕ → ℕ → Type 0
AreJudged at key set told n =
    (part : ℕ) → part < n
    → (rows : Vec Row Global) × JudgesPart at key part set told (Ok rows)

-- where the bytes are told: a part is damaged, and each one before it has rows
abbrev pub StopsAt : Position → List ℕ → List CountedSpan → Option (List ℕ) → Stop PortFault
    → Type 0
StopsAt at key set appended (Fault (Damaged n)) =
    IfSome appended (λ told. (n < length set) × AreJudged at key set told n
    × JudgesPart at key n set told (Err (Fault (Damaged n))))
StopsAt at key set appended _ = ⊤

-- no part is damaged
abbrev pub IsUndamaged : Stop PortFault → Type 0
IsUndamaged (Fault (Damaged part)) = ⊥
IsUndamaged _ = ⊤

-- a part that is damaged is one of so many
abbrev pub IsPartOf : ℕ → Stop PortFault → Type 0
IsPartOf count (Fault (Damaged part)) = part < count
IsPartOf count _ = ⊤

-- ---- what it costs

-- where the index of a segment has fewer than 2 to the power of `digits` keys: the steps to where a
-- walk begins, the rows before the key, those of the key, and one that ends the walk
abbrev pub read_steps : List ℕ → (CountedSpan → ℕ) → CountedSpan → ℕ
read_steps key digits segment =
    lesser_limit + digits segment + length (filter (has_key key) segment.rows) + 1

-- the most that a part can take
abbrev pub most_steps : (CountedSpan → ℕ) → CountedSpan → ℕ
most_steps digits segment = digits segment + length segment.rows
