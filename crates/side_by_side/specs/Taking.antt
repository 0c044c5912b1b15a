-- Statement: indices that leaves take one after another, each with what a call gives for it.
use Rattle.std.specs.Prelude.{ℕ, List, [], ◌∷◌, Option, Some, None, Result, Ok, Err, Vec, slice_set, slice_index_or, IfOk, IfSome}
use Rattle.std.specs.List.{All}
use Rattle.std.specs.declared.alloc.AllocError.{AllocError}
use Rattle.std.specs.declared.alloc.Global.{Global}
use denote.Param.Members.{Shared}
use Rattle.std.specs.Fn.{FnReturns}

-- what a leaf answers: each index that it took, with what was given for it
abbrev pub Leaf : Type 0 → Type 0
Leaf X = Result (Vec (ℕ × X) Global) AllocError

-- what a leaf took; nothing where it was refused memory
abbrev pub taken_by : {X : Type 0} → Leaf X → List (ℕ × X)
taken_by (Ok taken) = taken.items
taken_by (Err refused) = []

-- the slots, once each of what was taken stands at its index
abbrev pub put_all : {X : Type 0} → List (Option X) → List (ℕ × X) → List (Option X)
put_all slots [] = slots
put_all slots (one ∷ taken) = put_all (slice_set slots one.0 (Some one.1)) taken

module _ {F X : Type 0} (g : Shared F (ℕ × Unit {0}) X) (f : F) where
  -- a call of f with the index may give this
  abbrev pub IsGiven : ℕ × X → Type 0
  IsGiven one = FnReturns g f (one.0, tt) one.1

  -- and so with each index that a leaf took
  abbrev pub TakesGiven : Leaf X → Type 0
  TakesGiven leaf = IfOk leaf (λ taken. All IsGiven taken.items)

  -- and with that of a slot, where something stands in it
  abbrev pub AreGiven : List (Option X) → Type 0
  AreGiven slots = (i : ℕ) → IfSome (slice_index_or slots i None) (λ x. IsGiven (i, x))
