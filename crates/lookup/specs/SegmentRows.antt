-- Bridge: what it costs to walk over the rows of a position.
use Rattle.std.specs.Prelude.{ℕ, ◌+◌, List, filter, length}
use Rattle.segment_blocks.specs.Block.{block_limit}
use Rattle.segment_blocks.specs.Segment.{CountedSpan}
use Rattle.segment_blocks.specs.Walk.{has_key}

-- where a segment has fewer than 2 to the power of `digits` blocks: the steps to its first row of
-- the key, one for each row of the key, and one that finds no more
abbrev pub row_steps : List ℕ → (CountedSpan → ℕ) → CountedSpan → ℕ
row_steps key digits segment =
    block_limit + digits segment + length (filter (has_key key) segment.rows) + 1
