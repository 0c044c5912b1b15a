-- Statement: segments whose rows stand in a scratch file.
use Rattle.std.specs.Prelude.{◌≡◌, ◌<◌, ◌^◌, ◌*◌, ◌+◌, ℕ, List, length, take, drop, Option, None, Some}
use Rattle.std.specs.List.{AllByRecursion, flat_map}
use Rattle.outside.specs.Ports.{Scratch}
use Rattle.best_lists.specs.Ranking.{before_by_rating, before_by_month}
use Rattle.tally_rows.specs.declared.row.Row.{Row}
use Rattle.segment_blocks.specs.Kept.{KeptSpan, kept_of}
use Rattle.segment_blocks.specs.Segment.{CountedSpan, IsSegment}
use Rattle.spill_blobs.specs.Marks.{marks}
use Rattle.spill_blobs.specs.RowBlocks.{CanBeWritten, IsKeyOfValid, IsList, IsRowAt, block_size, row_bytes}

-- where a segment's rows stand, how many they are, the keys by which walks begin, and what is kept
pub record Spilled : Type 0 where
  pub start : ℕ
  pub count : ℕ
  pub keys : List (List ℕ)
  pub kept : KeptSpan
  pub segment : CountedSpan

-- the key is that of a valid position, and the move can be written
abbrev pub IsPlayed : Row → Type 0
IsPlayed row = IsKeyOfValid row.key × CanBeWritten row.next

-- the numbers have room, and the lists are lists
pub record HasRoom (row : Row) : Type 0 where
  pub key : length row.key ≡ 34
  pub year : row.month.year < 2 ^ 16
  pub group : row.group.value < 2 ^ 16
  pub white : row.white < 2 ^ 32
  pub draws : row.draws < 2 ^ 32
  pub black : row.black < 2 ^ 32
  pub ratings : row.ratings < 2 ^ 64
  pub top : IsList before_by_rating row.top
  pub recent : IsList before_by_month row.recent

-- each row is that of its bytes
abbrev pub AreWritten : List Row → Type 0
AreWritten rows = AllByRecursion (λ row. IsRowAt (row_bytes row) row) rows

pub record IsSpilled (part : Spilled) : Type 0 where
  pub is_segment : IsSegment part.segment
  pub written : AreWritten part.segment.rows
  pub count : part.count ≡ length part.segment.rows
  pub low : part.start + block_size * part.count < 2 ^ 64
  pub index : part.keys ≡ marks part.segment.rows
  pub kept : part.kept ≡ kept_of part.segment

-- the bytes of a segment's rows
abbrev pub part_bytes : CountedSpan → List ℕ
part_bytes segment = flat_map row_bytes segment.rows

-- the file tells its bytes, and those of the segment stand at their place
abbrev pub Stands : Spilled → Option (List ℕ) → Type 0
Stands part None = ⊥
Stands part (Some bytes) =
    take (block_size * part.count) (drop part.start bytes) ≡ part_bytes part.segment

abbrev pub StandsIn : Spilled → Scratch → Type 0
StandsIn part scratch = Stands part scratch.appended
