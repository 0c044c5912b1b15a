-- What rows add up to at five parts.
use Rattle.std.proofs.Common.{◌≡◌, ℕ, ◌+◌, true, false, cond, ◌⊎◌, List, [], ◌∷◌, ◌++◌, map, inl, inr, refl, sym, ap, subst, ◌∙◌, append-nil, arith}
use Rattle.std.specs.declared.cmp.Ordering.TheVariants.{Less}
use Rattle.std.specs.List.{AllByRecursion}
use Rattle.std.specs.List.Sorted.{IsStrictlySortedBy}
use Rattle.std.proofs.lemmas.List.Sums.{sum_by-cons}
use Rattle.best_lists.specs.declared.entry.Entry.{Entry}
use Rattle.tally_rows.specs.declared.row_key.RowKey.{RowKey}
use Rattle.tally_rows.specs.declared.row.Row.{Row}
use Rattle.tally_rows.specs.RowKey.{row_order, same_row_key}
use Rattle.tally_rows.specs.Row.{row_key_of}
use Rattle.tally_rows.specs.Adding.{sum_at, listed_at}
use Rattle.tally_rows.proofs.Members.{IsIn, IsIn-map, recursion-IsIn, recursion-from_IsIn}
use Rattle.tally_rows.proofs.RowOrder.{same_row_key-is, same_row_key-self, same_row_key-Less, same_row_key-comm}

-- no row has the parts
abbrev pub NoneAt : RowKey → List Row → Type 0
NoneAt row_key rows = AllByRecursion (λ row. same_row_key row_key (row_key_of row) ≡ false) rows

pub sum_at-cons : (f : Row → ℕ) (c : RowKey) (x : Row) (xs : List Row)
    → sum_at f c (x ∷ xs) ≡ cond (same_row_key c (row_key_of x)) (f x) 0 + sum_at f c xs
sum_at-cons f c x xs = sum_by-cons (λ row. cond (same_row_key c (row_key_of row)) (f row) 0) x xs

pub sum_at-none : (f : Row → ℕ) (c : RowKey) (rows : List Row) → NoneAt c rows → sum_at f c rows ≡ 0
sum_at-none f c [] h = refl
sum_at-none f c (x ∷ xs) h = sum_at-cons f c x xs ∙ ap (λ b. cond b (f x) 0 + sum_at f c xs) h.0 ∙ omega (arith, sum_at-none f c xs h.1)

pub listed_at-none : (f : Row → List Entry) (c : RowKey) (rows : List Row) → NoneAt c rows → listed_at f c rows ≡ []
listed_at-none f c [] h = refl
listed_at-none f c (x ∷ xs) h = ap (λ b. cond b (f x) [] ++ listed_at f c xs) h.0 ∙ listed_at-none f c xs h.1

-- behind a row, in strictly sorted rows, none has its parts
NoneAt-behind : (x : Row) (xs : List Row) → IsStrictlySortedBy row_order (map row_key_of (x ∷ xs)) → NoneAt (row_key_of x) xs
unfolding IsStrictlySortedBy
NoneAt-behind x xs h =
    recursion-from_IsIn (λ row. same_row_key (row_key_of x) (row_key_of row) ≡ false) xs
    (λ row m. same_row_key-Less (row_key_of x) (row_key_of row)
    (recursion-IsIn (λ p. row_order (row_key_of x) p ≡ Less) (map row_key_of xs) h.0 (row_key_of row) (IsIn-map row_key_of xs row m)))

-- in strictly sorted rows only a row itself has its parts
pub sum_at-own : (f : Row → ℕ) (rows : List Row) → IsStrictlySortedBy row_order (map row_key_of rows)
    → (row : Row) → IsIn row rows → sum_at f (row_key_of row) rows ≡ f row
unfolding IsStrictlySortedBy
sum_at-own f [] h row m = absurd m
sum_at-own f (x ∷ xs) h row (inl e) =
    let at_x : sum_at f (row_key_of x) (x ∷ xs) ≡ f x =
    sum_at-cons f (row_key_of x) x xs ∙ ap (λ b. cond b (f x) 0 + sum_at f (row_key_of x) xs) (same_row_key-self (row_key_of x))
    ∙ omega (arith, sum_at-none f (row_key_of x) xs (NoneAt-behind x xs h)) in
    subst (λ r. sum_at f (row_key_of r) (x ∷ xs) ≡ f r) (sym e) at_x
sum_at-own f (x ∷ xs) h row (inr m) =
    let before : same_row_key (row_key_of row) (row_key_of x) ≡ false =
    same_row_key-comm (row_key_of row) (row_key_of x) ∙ recursion-IsIn (λ r. same_row_key (row_key_of x) (row_key_of r) ≡ false) xs (NoneAt-behind x xs h) row m in
    sum_at-cons f (row_key_of row) x xs ∙ ap (λ b. cond b (f x) 0 + sum_at f (row_key_of row) xs) before
    ∙ omega (arith, sum_at-own f xs h.1 row m)

pub listed_at-own : (f : Row → List Entry) (rows : List Row) → IsStrictlySortedBy row_order (map row_key_of rows)
    → (row : Row) → IsIn row rows → listed_at f (row_key_of row) rows ≡ f row
unfolding IsStrictlySortedBy
listed_at-own f [] h row m = absurd m
listed_at-own f (x ∷ xs) h row (inl e) =
    let at_x : listed_at f (row_key_of x) (x ∷ xs) ≡ f x =
    ap (λ b. cond b (f x) [] ++ listed_at f (row_key_of x) xs) (same_row_key-self (row_key_of x))
    ∙ ap (λ l. f x ++ l) (listed_at-none f (row_key_of x) xs (NoneAt-behind x xs h)) ∙ append-nil (f x) in
    subst (λ r. listed_at f (row_key_of r) (x ∷ xs) ≡ f r) (sym e) at_x
listed_at-own f (x ∷ xs) h row (inr m) =
    let before : same_row_key (row_key_of row) (row_key_of x) ≡ false =
    same_row_key-comm (row_key_of row) (row_key_of x) ∙ recursion-IsIn (λ r. same_row_key (row_key_of x) (row_key_of r) ≡ false) xs (NoneAt-behind x xs h) row m in
    ap (λ b. cond b (f x) [] ++ listed_at f (row_key_of row) xs) before ∙ listed_at-own f xs h.1 row m

-- whether a row has the parts
pub row_or_none : (c : RowKey) (rows : List Row) → IsIn c (map row_key_of rows) ⊎ NoneAt c rows
row_or_none c [] = inr tt
row_or_none c (x ∷ xs) =
    elim (same_row_key c (row_key_of x)) as (λ b. same_row_key c (row_key_of x) ≡ b → IsIn c (map row_key_of (x ∷ xs)) ⊎ NoneAt c (x ∷ xs)) [
      | true ↦ λ e. inl (inl (same_row_key-is c (row_key_of x) e))
      | false ↦ λ e. elim (row_or_none c xs) [ inl m ↦ inl (inr m) | inr n ↦ inr (e, n) ]
    ] refl
