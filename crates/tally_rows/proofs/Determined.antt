-- Tallied rows are determined by the games.
use Rattle.std.proofs.Common.{◌≡◌, ℕ, Bool, true, ◌&&◌, cond, List, [], ◌∷◌, map, inl, inr, refl, sym, ap, subst, ◌∙◌}
use Rattle.std.specs.declared.cmp.Ordering.TheVariants.{Less, Equal}
use Rattle.std.specs.Cmp.{tied_itself}
use Rattle.std.specs.List.{Any, AllByRecursion, count_by, sum_by}
use Rattle.std.specs.List.Sorted.{IsStrictlySortedBy}
use Rattle.std.proofs.lemmas.List.Elements.{recursion_from_All}
use Rattle.explorer_model.specs.Best.{best}
use Rattle.best_lists.specs.Ranking.{before_by_rating, before_by_month}
use Rattle.explorer_model.specs.declared.archive.Outcome.{Outcome}
use Rattle.tally_rows.specs.declared.row_key.RowKey.{RowKey}
use Rattle.tally_rows.specs.declared.row.Row.{Row}
use Rattle.tally_rows.specs.RowKey.{row_order, row_order-total}
use Rattle.tally_rows.specs.Row.{row_key_of, is_white, is_draw, is_black}
use Rattle.tally_rows.specs.Tallied.{entries, has_move, mover_rating, rating_sum, track_month, IsTally, Tallied}
use Rattle.tally_rows.specs.Track.{Track, has}
use Rattle.tally_rows.specs.Within.{TalliedWithin}
use Rattle.tally_rows.proofs.Members.{IsIn, All-IsIn, recursion-IsIn, Found-map, IsIn-from_Contains}

-- the row of games is determined by its parts
counts_of : List Track → (Outcome → Bool) → RowKey → ℕ
counts_of tracks test row_key = count_by (λ t. has row_key t && test t.classes.outcome) tracks

row-is : (tracks : List Track) (a b : Row) → IsTally tracks a → IsTally tracks b → row_key_of a ≡ row_key_of b → a ≡ b
unfolding counts_of
row-is tracks a b h k e =
    let white : a.white ≡ b.white = h.white ∙ ap (counts_of tracks is_white) e ∙ sym k.white in
    let draws : a.draws ≡ b.draws = h.draws ∙ ap (counts_of tracks is_draw) e ∙ sym k.draws in
    let black : a.black ≡ b.black = h.black ∙ ap (counts_of tracks is_black) e ∙ sym k.black in
    let ratings : a.ratings ≡ b.ratings =
    h.ratings ∙ ap (λ p. sum_by (λ t. cond (has_move p t) (mover_rating p.key t.classes) 0) tracks) e ∙ sym k.ratings in
    let top : a.top ≡ b.top = h.top ∙ ap (λ p. best before_by_rating 4 (entries rating_sum (has_move p) 0 tracks)) e ∙ sym k.top in
    let recent : a.recent ≡ b.recent = h.recent ∙ ap (λ p. best before_by_month 4 (entries track_month (has_move p) 0 tracks)) e ∙ sym k.recent in
    λ i. record {
      key = (e i).key;
      next = (e i).next;
      month = (e i).month;
      speed = (e i).speed;
      group = (e i).group;
      white = white i;
      draws = draws i;
      black = black i;
      ratings = ratings i;
      top = top i;
      recent = recent i;
    }

not_itself : (p : RowKey) → row_order p p ≡ Less → ⊥
not_itself p e = let same : row_order p p ≡ Equal = tied_itself row_order-total p in cc

-- what stands behind the first in strictly sorted rows is greater
behind : (x : Row) (xs : List Row) → IsStrictlySortedBy row_order (map row_key_of (x ∷ xs)) → (p : RowKey) → IsIn p (map row_key_of xs) → row_order (row_key_of x) p ≡ Less
unfolding IsStrictlySortedBy
behind x xs h p m = recursion-IsIn (λ q. row_order (row_key_of x) q ≡ Less) (map row_key_of xs) h.0 p m

later : (x : Row) (xs : List Row) → IsStrictlySortedBy row_order (map row_key_of (x ∷ xs)) → IsStrictlySortedBy row_order (map row_key_of xs)
unfolding IsStrictlySortedBy
later x xs h = h.1

-- the parts of each row of the first list stand in the second
abbrev Among : List Row → List Row → Type 0
Among xs ys = (p : RowKey) → IsIn p (map row_key_of xs) → IsIn p (map row_key_of ys)

-- the first rows of two lists with the same parts have the same parts
first-is : (x : Row) (xs : List Row) (y : Row) (ys : List Row) → IsStrictlySortedBy row_order (map row_key_of (x ∷ xs))
    → IsStrictlySortedBy row_order (map row_key_of (y ∷ ys)) → Among (x ∷ xs) (y ∷ ys) → Among (y ∷ ys) (x ∷ xs) → row_key_of x ≡ row_key_of y
first-is x xs y ys h k to from =
    elim (to (row_key_of x) (inl refl)) [
      | inl e ↦ e
      | inr m ↦ elim (from (row_key_of y) (inl refl)) [
        | inl e ↦ sym e
        | inr n ↦
            let above = behind y ys k (row_key_of x) m in
            let below = behind x xs h (row_key_of y) n in
            absurd (not_itself (row_key_of x) (row_order-total.trans (row_key_of x) (row_key_of y) (row_key_of x) below above))
      ]
    ]

-- without the first rows they still have the same parts
rest-among : (x : Row) (xs : List Row) (y : Row) (ys : List Row) → IsStrictlySortedBy row_order (map row_key_of (x ∷ xs))
    → row_key_of x ≡ row_key_of y → Among (x ∷ xs) (y ∷ ys) → Among xs ys
rest-among x xs y ys h e to p m =
    elim (to p (inr m)) [
      | inl d ↦ absurd (not_itself p (subst (λ q. row_order q p ≡ Less) (e ∙ sym d) (behind x xs h p m)))
      | inr n ↦ n
    ]

rows-are : (tracks : List Track) (xs ys : List Row) → AllByRecursion (IsTally tracks) xs → AllByRecursion (IsTally tracks) ys
    → IsStrictlySortedBy row_order (map row_key_of xs) → IsStrictlySortedBy row_order (map row_key_of ys) → Among xs ys → Among ys xs → xs ≡ ys
rows-are tracks [] [] a b h k to from = refl
rows-are tracks [] (y ∷ ys) a b h k to from = absurd (from (row_key_of y) (inl refl))
rows-are tracks (x ∷ xs) [] a b h k to from = absurd (to (row_key_of x) (inl refl))
rows-are tracks (x ∷ xs) (y ∷ ys) a b h k to from =
    let e = first-is x xs y ys h k to from in
    λ i. row-is tracks x y a.0 b.0 e i ∷ rows-are tracks xs ys a.1 b.1 (later x xs h) (later y ys k)
    (rest-among x xs y ys h e to) (rest-among y ys x xs k (sym e) from) i

among : (tracks : List Track) (xs ys : List Row) → Tallied tracks xs → Tallied tracks ys → Among xs ys
among tracks xs ys h k p m =
    let row = Found-map row_key_of xs p m in
    let any : Any (λ t. has p t ≡ true) tracks =
    subst (λ q. Any (λ t. has q t ≡ true) tracks) row.holds (All-IsIn (λ r. Any (λ t. has (row_key_of r) t ≡ true) tracks) xs h.some row.value row.is_in) in
    IsIn-from_Contains (map row_key_of ys) p (k.every p any)

pub Tallied-determined : (tracks : List Track) (xs ys : List Row) → Tallied tracks xs → Tallied tracks ys → xs ≡ ys
Tallied-determined tracks xs ys h k =
    rows-are tracks xs ys (recursion_from_All (IsTally tracks) xs h.each) (recursion_from_All (IsTally tracks) ys k.each) h.ordered k.ordered
    (among tracks xs ys h k) (among tracks ys xs k h)

-- ---- the rows whose keys pass a test

among-within : (test : List ℕ → Bool) (tracks : List Track) (xs ys : List Row) → TalliedWithin test tracks xs → TalliedWithin test tracks ys → Among xs ys
among-within test tracks xs ys h k p m =
    let row = Found-map row_key_of xs p m in
    let any : Any (λ t. has p t ≡ true) tracks =
    subst (λ q. Any (λ t. has q t ≡ true) tracks) row.holds (All-IsIn (λ r. Any (λ t. has (row_key_of r) t ≡ true) tracks) xs h.some row.value row.is_in) in
    let passes : test p.key ≡ true =
    subst (λ (q : RowKey). test q.key ≡ true) row.holds (All-IsIn (λ r. test r.key ≡ true) xs h.within row.value row.is_in) in
    IsIn-from_Contains (map row_key_of ys) p (k.every p passes any)

pub TalliedWithin-determined : (test : List ℕ → Bool) (tracks : List Track) (xs ys : List Row)
    → TalliedWithin test tracks xs → TalliedWithin test tracks ys → xs ≡ ys
TalliedWithin-determined test tracks xs ys h k =
    rows-are tracks xs ys (recursion_from_All (IsTally tracks) xs h.each) (recursion_from_All (IsTally tracks) ys k.each) h.ordered k.ordered
    (among-within test tracks xs ys h k) (among-within test tracks ys xs k h)
