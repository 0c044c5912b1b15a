-- Bridge: what is true of each block.
use Rattle.std.specs.Prelude.{◌≡◌, ℕ, ◌≤◌, ◌<◌, List, length}
use Rattle.segment_blocks.specs.Encoded.{Encoded, rows_of, key_first, key_after}
use Rattle.segment_blocks.specs.Prefix.{TellShared}

-- the most rows of a block
abbrev pub block_limit : ℕ
block_limit = 128

pub record IsBlock (first last : List ℕ) (encoded : Encoded) : Type 0 where
  pub some : 0 < length (rows_of encoded first)
  pub few : length (rows_of encoded first) ≤ block_limit
  pub starts : key_first first (rows_of encoded first) ≡ first
  pub ends : key_after first (rows_of encoded first) ≡ last
  pub told : TellShared first encoded.marks (rows_of encoded first)
