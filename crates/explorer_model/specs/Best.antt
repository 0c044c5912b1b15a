-- Statement: the best of a list, by an order that says which of two values is better.
use Rattle.std.specs.Prelude.{◌≡◌, ℕ, zero, suc, Bool, true, false, List, [], ◌∷◌, ◌++◌, if◌then◌else◌}
use Rattle.std.specs.List.{AllPairs}

-- A strict total order: of two different values exactly one stands before the other.
pub record IsStrictTotalOrder {X : Type 0} (before : X → X → Bool) : Type 0 where
  pub irreflexive : (x : X) → before x x ≡ false
  pub transitive : (x y z : X) → before x y ≡ true → before y z ≡ true → before x z ≡ true
  pub total : (x y : X) → before x y ≡ false → before y x ≡ false → x ≡ y

module _ {X : Type 0} (before : X → X → Bool) where
  -- the better of two, the first where neither is
  abbrev pub better : X → X → X
  better x y = if before y x then y else x

  -- the one of two that `better` leaves
  abbrev pub worse : X → X → X
  worse x y = if before y x then x else y

  -- the best of x and ys
  unfoldable pub best_one : X → List X → X
  best_one x [] = x
  best_one x (y ∷ ys) = best_one (better x y) ys

  -- x and ys without their best one
  unfoldable pub others : X → List X → List X
  others x [] = []
  others x (y ∷ ys) = worse x y ∷ others (better x y) ys

  -- the best n of a list, best first: the best one, then the best of the others
  unfoldable pub best : ℕ → List X → List X
  best zero xs = []
  best (suc n) [] = []
  best (suc n) (x ∷ xs) = best_one x xs ∷ best n (others x xs)

  -- no value stands behind one that it is before
  abbrev pub IsBestFirst : List X → Type 0
  IsBestFirst xs = AllPairs (λ x y. before y x ≡ false) xs

-- Two lists that are best first, taken apart: the best of both, and what is left of each.
pub record SplitsBest {X : Type 0} (before : X → X → Bool) (left right : List X) (first : X)
    (left_rest right_rest : List X) : Type 0 where
  pub best_of_both : (n : ℕ) → best before (suc n) (left ++ right) ≡ first
      ∷ best before n (left_rest ++ right_rest)
  pub left_in_order : IsBestFirst before left_rest
  pub right_in_order : IsBestFirst before right_rest
