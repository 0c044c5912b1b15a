-- Bridge: keys of positions, the squares that they are made of, and how they are hashed: by one write
-- of all their bytes.
use Rattle.std.specs.Prelude.{◌≡◌, ℕ, List, [], ◌∷◌, IsTrue, bytes_eq, length}
use Rattle.std.specs.Cmp.{IsPartialEquivalence, partial_equiv_from_equiv}
use Rattle.std.specs.Cmp.Lexicographic.{nat_list_eq_equiv}
use Rattle.explorer_model.specs.declared.chess.Position.{Position}
use Rattle.explorer_model.specs.Keys.{packed}
use Rattle.std.proofs.Common.{ap}
use Rattle.std.proofs.lemmas.Slice.Eq.{bytes_eq-Decides}

-- the packed squares of a board
pub record ArePacked (p : Position) (squares : List ℕ) : Type 0 where
  pub packed_squares : squares ≡ packed p.squares
  pub whole : length p.squares ≡ 64

-- what a hasher is given of the bytes
abbrev pub as_one : List ℕ → List (List ℕ)
as_one bytes = bytes ∷ []

pub equal_bytes : IsPartialEquivalence bytes_eq
equal_bytes = partial_equiv_from_equiv nat_list_eq_equiv

-- equal keys are hashed alike
pub alike : (key other : List ℕ) → IsTrue (bytes_eq key other) → as_one key ≡ as_one other
alike key other equal = ap as_one ((bytes_eq-Decides key other).0 equal)
