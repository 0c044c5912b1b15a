-- Bridge: bytes in memory that are read.
use Rattle.std.specs.Prelude.{ℕ, List}

-- the bytes that are left, and how many were given
pub record BytesLeft : Type 0 where
  pub left : List ℕ
  pub given : ℕ
