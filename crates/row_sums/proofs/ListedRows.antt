-- Rows that list the games of entries.
use Rattle.std.proofs.Common.{◌≡◌, ℕ, ◌+◌, ◌==◌, Bool, true, false, ◌||◌, cond, ◌⊎◌, inl, inr, List, [], ◌∷◌, ◌++◌, filter, map, Some, refl, sym, ap, ◌∙◌, arith}
use Rattle.std.specs.List.{All, Contains, find, flat_map, list_any}
use Rattle.std.proofs.lemmas.Bool.Decides.{nat_tests}
use Rattle.std.proofs.lemmas.Bool.{or_right}
use Rattle.best_lists.proofs.BestLaws.{All-best}
use Rattle.best_lists.specs.Entry.{moved_by}
use Rattle.best_lists.specs.declared.entry.Entry.{Entry}
use Rattle.explorer_model.specs.Best.{best}
use Rattle.row_sums.specs.Hits.{NumberedRow}
use Rattle.row_sums.specs.Listing.{lists_number}
use Rattle.row_sums.specs.Sums.{entries_where}
use Rattle.tally_rows.specs.declared.row.Row.{Row}
use Rattle.tally_rows.proofs.Members.{IsIn, All-from_IsIn, Contains-IsIn, Found-map}

pub in-either : {X : Type 0} (xs ys : List X) (x : X) → IsIn x (xs ++ ys) → IsIn x xs ⊎ IsIn x ys
in-either [] ys x m = inr m
in-either (y ∷ xs) ys x (inl e) = inl (inl e)
in-either (y ∷ xs) ys x (inr m) = elim (in-either xs ys x m) [ inl l ↦ inl (inr l) | inr r ↦ inr r ]

pub record IsKept {X : Type 0} (p : X → Bool) (x : X) (xs : List X) : Type 0 where
  pub is_in : IsIn x xs
  pub passes : p x ≡ true

kept-by : {X : Type 0} (p : X → Bool) (x y : X) (ys : List X) (b : Bool) → p y ≡ b → (IsIn x (filter p ys) → IsKept p x ys)
    → IsIn x (cond b (y ∷ filter p ys) (filter p ys)) → IsKept p x (y ∷ ys)
kept-by p x y ys true e later (inl is) = record { is_in = inl is; passes = ap p is ∙ e }
kept-by p x y ys true e later (inr m) = (let k = later m in record { is_in = inr k.is_in; passes = k.passes })
kept-by p x y ys false e later m = (let k = later m in record { is_in = inr k.is_in; passes = k.passes })

pub kept : {X : Type 0} (p : X → Bool) (xs : List X) (x : X) → IsIn x (filter p xs) → IsKept p x xs
kept p [] x m = absurd m
kept p (y ∷ ys) x m = kept-by p x y ys (p y) refl (kept p ys x) m

-- ---- the first row that lists a number

pub record IsFirst {X : Type 0} (p : X → Bool) (xs : List X) : Type 0 where
  pub value : X
  pub is : find p xs ≡ Some value
  pub is_in : IsIn value xs
  pub passes : p value ≡ true

first-by : {X : Type 0} (p : X → Bool) (y : X) (ys : List X) (b : Bool) → p y ≡ b → (list_any p ys ≡ true → IsFirst p ys)
    → (b || list_any p ys) ≡ true → IsFirst p (y ∷ ys)
first-by p y ys true e later some =
    record { value = y; is = ap (λ b. cond b (Some y) (find p ys)) e; is_in = inl refl; passes = e }
first-by p y ys false e later some =
    let rest = later some in
    record { value = rest.value; is = ap (λ b. cond b (Some y) (find p ys)) e ∙ rest.is; is_in = inr rest.is_in; passes = rest.passes }

pub find-first : {X : Type 0} (p : X → Bool) (xs : List X) → list_any p xs ≡ true → IsFirst p xs
find-first p [] some = cc
find-first p (y ∷ ys) some = first-by p y ys (p y) refl (find-first p ys) some

pub any-IsIn : {X : Type 0} (p : X → Bool) (xs : List X) (x : X) → IsIn x xs → p x ≡ true → list_any p xs ≡ true
any-IsIn p [] x m e = absurd m
any-IsIn p (y ∷ ys) x (inl is) e = ap (λ b. b || list_any p ys) (ap p (sym is) ∙ e)
any-IsIn p (y ∷ ys) x (inr m) e = or_right (p y) (list_any p ys) (any-IsIn p ys x m e)

-- an entry of the rows is listed by one of them
moved-lists : (list : Row → List Entry) (hit : NumberedRow) (entry : Entry) → IsIn entry (map (moved_by hit.first) (list hit.row))
    → lists_number list entry.number hit ≡ true
moved-lists list hit entry m =
    let found = Found-map (moved_by hit.first) (list hit.row) entry m in
    let same : found.value.number + hit.first ≡ entry.number = ap (λ e. e.number) found.holds in
    any-IsIn (λ e. e.number + hit.first == entry.number) (list hit.row) found.value found.is_in (grind (arith, nat_tests))

part-lists : (list : Row → List Entry) (hit : NumberedRow) (entry : Entry) (b : Bool) → IsIn entry (cond b (map (moved_by hit.first) (list hit.row)) [])
    → lists_number list entry.number hit ≡ true
part-lists list hit entry true m = moved-lists list hit entry m
part-lists list hit entry false m = absurd m

pub stands-listed : (list : Row → List Entry) (test : Row → Bool) (hits : List NumberedRow) (entry : Entry) → IsIn entry (entries_where hits test list)
    → list_any (lists_number list entry.number) hits ≡ true
unfolding entries_where
stands-listed list test [] entry m = absurd m
stands-listed list test (hit ∷ hits) entry m =
    elim (in-either (cond (test hit.row) (map (moved_by hit.first) (list hit.row)) [])
    (flat_map (λ h. cond (test h.row) (map (moved_by h.first) (list h.row)) []) hits) entry m) [
      | inl here ↦ ap (λ b. b || list_any (lists_number list entry.number) hits) (part-lists list hit entry (test hit.row) here)
      | inr later ↦ or_right (lists_number list entry.number hit) (list_any (lists_number list entry.number) hits) (stands-listed list test hits entry later)
    ]

-- the best of entries stand among them
pub best-stand : (before : Entry → Entry → Bool) (n : ℕ) (entries : List Entry) → All (λ entry. Contains entries entry) (best before n entries)
best-stand before n entries =
    All-best before (λ entry. Contains entries entry) n entries
    (All-from_IsIn (λ entry. Contains entries entry) entries (λ entry m. Contains-IsIn entries entry m))
