-- Rows that add up to what games have at five parts.
use Rattle.std.proofs.Common.{◌≡◌, ℕ, ◌+◌, Bool, true, false, ◌&&◌, cond, List, [], ◌∷◌, map, inl, inr, refl, sym, ap, subst, ◌∙◌, is_some, arith}
use Rattle.std.specs.List.{All, Any, Contains, AllByRecursion, sum_by, count_by}
use Rattle.std.specs.List.Sorted.{IsStrictlySortedBy}
use Rattle.std.proofs.lemmas.List.Sums.{sum_by-cons}
use Rattle.explorer_model.specs.Best.{best}
use Rattle.best_lists.specs.Ranking.{before_by_rating, before_by_month, by_rating_is_order, by_month_is_order}
use Rattle.best_lists.proofs.BestLaws.{best-best}
use Rattle.explorer_model.specs.declared.archive.Outcome.{Outcome}
use Rattle.explorer_model.specs.declared.archive.Outcome.TheVariants as outcomes
use Rattle.tally_rows.specs.declared.row_key.RowKey.{RowKey}
use Rattle.tally_rows.specs.declared.row.Row.{Row}
use Rattle.tally_rows.specs.RowKey.{row_order, same_row_key}
use Rattle.tally_rows.specs.Track.{Track, has}
use Rattle.tally_rows.specs.Row.{row_key_of, is_white, is_draw, is_black}
use Rattle.tally_rows.specs.Tallied.{entries, has_move, mover_rating, rating_sum, track_month, IsTally, Tallied}
use Rattle.tally_rows.specs.Adding.{sum_at, listed_at, SameAt, IsSound}
use Rattle.tally_rows.specs.Within.{IsKey, TalliedWithin}
use Rattle.tally_rows.proofs.Members.{IsIn, All-from_IsIn, All-IsIn, recursion-from_IsIn, recursion-IsIn, Any-IsIn, Found-from_Any, IsIn-from_Contains, Contains-IsIn, Found-map, count-positive, Found-from_count}
use Rattle.tally_rows.proofs.RowOrder.{same_row_key-self}
use Rattle.tally_rows.proofs.At.{NoneAt, sum_at-none, listed_at-none, sum_at-own, listed_at-own, row_or_none}
use Rattle.tally_rows.proofs.EntryLists.{entries-none}

-- at these parts the rows have what the games have
pub record AddsUp (tracks : List Track) (rows : List Row) (row_key : RowKey) : Type 0 where
  pub white : sum_at (λ row. row.white) row_key rows ≡ count_by (λ t. has row_key t && is_white t.classes.outcome) tracks
  pub draws : sum_at (λ row. row.draws) row_key rows ≡ count_by (λ t. has row_key t && is_draw t.classes.outcome) tracks
  pub black : sum_at (λ row. row.black) row_key rows ≡ count_by (λ t. has row_key t && is_black t.classes.outcome) tracks
  pub ratings : sum_at (λ row. row.ratings) row_key rows ≡ sum_by (λ t. cond (has_move row_key t) (mover_rating row_key.key t.classes) 0) tracks
  pub top : best before_by_rating 4 (listed_at (λ row. row.top) row_key rows) ≡ best before_by_rating 4 (entries rating_sum (has_move row_key) 0 tracks)
  pub recent : best before_by_month 4 (listed_at (λ row. row.recent) row_key rows) ≡ best before_by_month 4 (entries track_month (has_move row_key) 0 tracks)

-- rows that have the same add up to the same
pub AddsUp-same : (tracks : List Track) (xs ys : List Row) (c : RowKey) → SameAt xs ys c → AddsUp tracks xs c → AddsUp tracks ys c
AddsUp-same tracks xs ys c s a = record {
  white = sym s.white ∙ a.white;
  draws = sym s.draws ∙ a.draws;
  black = sym s.black ∙ a.black;
  ratings = sym s.ratings ∙ a.ratings;
  top = sym s.top ∙ a.top;
  recent = sym s.recent ∙ a.recent;
}

-- each game has one outcome
pub count-outcomes : (p : Track → Bool) (ts : List Track)
    → count_by (λ t. p t && is_white t.classes.outcome) ts + count_by (λ t. p t && is_draw t.classes.outcome) ts
    + count_by (λ t. p t && is_black t.classes.outcome) ts ≡ count_by p ts
count-outcomes p [] = refl
count-outcomes p (t ∷ ts) =
    omega (
      arith,
      one (p t) t.classes.outcome,
      count-outcomes p ts,
      sum_by-cons (λ s. cond (p s && is_white s.classes.outcome) 1 0) t ts,
      sum_by-cons (λ s. cond (p s && is_draw s.classes.outcome) 1 0) t ts,
      sum_by-cons (λ s. cond (p s && is_black s.classes.outcome) 1 0) t ts,
      sum_by-cons (λ s. cond (p s) 1 0) t ts,
    )
  where
    one : (b : Bool) (outcome : Outcome)
        → cond {A = ℕ} (b && is_white outcome) 1 0 + cond {A = ℕ} (b && is_draw outcome) 1 0 + cond {A = ℕ} (b && is_black outcome) 1 0 ≡ cond {A = ℕ} b 1 0
    one true outcomes.White = refl
    one true outcomes.Draw = refl
    one true outcomes.Black = refl
    one false outcome = refl

-- where the rows add up at each key that passes, have such keys alone, are strictly sorted, and each counts some game, they are tallied there
module _ (test : List ℕ → Bool) (tracks : List Track) (rows : List Row) (adds : (c : RowKey) → test c.key ≡ true → AddsUp tracks rows c)
    (sound : All IsSound rows) (within : All (λ row. test row.key ≡ true) rows) (ordered : IsStrictlySortedBy row_order (map row_key_of rows)) where
  each_within : (row : Row) → IsIn row rows → IsTally tracks row
  each_within row m =
      let at_row = adds (row_key_of row) (All-IsIn (λ r. test r.key ≡ true) rows within row m) in
      let fine = All-IsIn IsSound rows sound row m in
      record {
        white = sym (sum_at-own (λ r. r.white) rows ordered row m) ∙ at_row.white;
        draws = sym (sum_at-own (λ r. r.draws) rows ordered row m) ∙ at_row.draws;
        black = sym (sum_at-own (λ r. r.black) rows ordered row m) ∙ at_row.black;
        ratings = sym (sum_at-own (λ r. r.ratings) rows ordered row m) ∙ at_row.ratings;
        top = sym fine.top ∙ ap (best before_by_rating 4) (sym (listed_at-own (λ r. r.top) rows ordered row m)) ∙ at_row.top;
        recent = sym fine.recent ∙ ap (best before_by_month 4) (sym (listed_at-own (λ r. r.recent) rows ordered row m)) ∙ at_row.recent;
      }

  some_within : (row : Row) → IsIn row rows → Any (λ t. has (row_key_of row) t ≡ true) tracks
  some_within row m =
      let counts = each_within row m in
      let fine = All-IsIn IsSound rows sound row m in
      let found = Found-from_count (has (row_key_of row)) tracks
      (omega (arith, count-outcomes (has (row_key_of row)) tracks, counts.white, counts.draws, counts.black, fine.some)) in
      Any-IsIn (λ t. has (row_key_of row) t ≡ true) tracks found.value found.is_in found.holds

  every_within : (c : RowKey) → test c.key ≡ true → Any (λ t. has c t ≡ true) tracks → Contains (map row_key_of rows) c
  every_within c passes h =
      let found = Found-from_Any (λ t. has c t ≡ true) tracks h in
      let positive = count-positive (has c) tracks found.value found.is_in found.holds in
      let at_c = adds c passes in
      elim (row_or_none c rows) [
        | inl m ↦ Contains-IsIn (map row_key_of rows) c m
        | inr none ↦ absurd (omega (
          arith,
          positive,
          count-outcomes (has c) tracks,
          at_c.white,
          at_c.draws,
          at_c.black,
          sum_at-none (λ r. r.white) c rows none,
          sum_at-none (λ r. r.draws) c rows none,
          sum_at-none (λ r. r.black) c rows none,
        ))
      ]

  pub tallied_within_from : All (λ row. IsKey row.key) rows → TalliedWithin test tracks rows
  tallied_within_from keys = record {
    each = All-from_IsIn (IsTally tracks) rows each_within;
    some = All-from_IsIn (λ row. Any (λ t. has (row_key_of row) t ≡ true) tracks) rows some_within;
    every = every_within;
    within = within;
    keys = keys;
    ordered = ordered;
  }

all_true : (rows : List Row) → All (λ row. true ≡ true) rows
all_true rows = All-from_IsIn (λ row. true ≡ true) rows (λ row m. refl)

-- where the rows add up, are strictly sorted, and each counts some game, they are tallied
pub tallied_from : (tracks : List Track) (rows : List Row) → ((c : RowKey) → AddsUp tracks rows c) → All IsSound rows
    → IsStrictlySortedBy row_order (map row_key_of rows) → Tallied tracks rows
tallied_from tracks rows adds sound ordered =
    let all : (c : RowKey) → true ≡ true → AddsUp tracks rows c = λ c passes. adds c in
    record {
      each = All-from_IsIn (IsTally tracks) rows (each_within (λ key. true) tracks rows all sound (all_true rows) ordered);
      some = All-from_IsIn (λ row. Any (λ t. has (row_key_of row) t ≡ true) tracks) rows
          (some_within (λ key. true) tracks rows all sound (all_true rows) ordered);
      every = λ c. every_within (λ key. true) tracks rows all sound (all_true rows) ordered c refl;
      ordered = ordered;
    }

-- tallied rows count some game each
pub IsSound-tallied : (tracks : List Track) (rows : List Row) → Tallied tracks rows → All IsSound rows
IsSound-tallied tracks rows h = All-from_IsIn IsSound rows sound
  where
    sound : (row : Row) → IsIn row rows → IsSound row
    sound row m =
        let counts = All-IsIn (IsTally tracks) rows h.each row m in
        let found = Found-from_Any (λ t. has (row_key_of row) t ≡ true) tracks (All-IsIn (λ r. Any (λ t. has (row_key_of r) t ≡ true) tracks) rows h.some row m) in
        let positive = count-positive (has (row_key_of row)) tracks found.value found.is_in found.holds in
        record {
          some = omega (arith, positive, count-outcomes (has (row_key_of row)) tracks, counts.white, counts.draws, counts.black);
          top = ap (best before_by_rating 4) counts.top ∙ best-best by_rating_is_order 4 (entries rating_sum (has_move (row_key_of row)) 0 tracks) ∙ sym counts.top;
          recent = ap (best before_by_month 4) counts.recent ∙ best-best by_month_is_order 4 (entries track_month (has_move (row_key_of row)) 0 tracks) ∙ sym counts.recent;
        }

-- no game has the parts
NoTrack : RowKey → List Track → Type 0
NoTrack c tracks = AllByRecursion (λ t. has c t ≡ false) tracks

NoTrack-NoneAt : (tracks : List Track) (rows : List Row) (c : RowKey) → Tallied tracks rows → NoneAt c rows
    → AllByRecursion (λ t. has c t ≡ false) tracks
NoTrack-NoneAt tracks rows c h none = recursion-from_IsIn (λ t. has c t ≡ false) tracks (λ t m. lacks t m (has c t) refl)
  where
    lacks : (t : Track) → IsIn t tracks → (b : Bool) → has c t ≡ b → has c t ≡ false
    lacks t m false e = e
    lacks t m true e =
        let there = IsIn-from_Contains (map row_key_of rows) c (h.every c (Any-IsIn (λ s. has c s ≡ true) tracks t m e)) in
        let row = Found-map row_key_of rows c there in
        let clash : same_row_key c (row_key_of row.value) ≡ false = recursion-IsIn (λ r. same_row_key c (row_key_of r) ≡ false) rows none row.value row.is_in in
        let self : same_row_key c (row_key_of row.value) ≡ true = ap (same_row_key c) row.holds ∙ same_row_key-self c in
        cc

-- tallied rows add up at each parts
pub AddsUp-tallied : (tracks : List Track) (rows : List Row) → Tallied tracks rows → (c : RowKey) → AddsUp tracks rows c
AddsUp-tallied tracks rows h c =
    elim (row_or_none c rows) [
      | inl m ↦
          let found = Found-map row_key_of rows c m in
          subst (AddsUp tracks rows) found.holds (at_row found.value found.is_in)
      | inr none ↦ at_none none (NoTrack-NoneAt tracks rows c h none)
    ]
  where
    at_row : (row : Row) → IsIn row rows → AddsUp tracks rows (row_key_of row)
    at_row row m =
        let counts = All-IsIn (IsTally tracks) rows h.each row m in
        record {
          white = sum_at-own (λ r. r.white) rows h.ordered row m ∙ counts.white;
          draws = sum_at-own (λ r. r.draws) rows h.ordered row m ∙ counts.draws;
          black = sum_at-own (λ r. r.black) rows h.ordered row m ∙ counts.black;
          ratings = sum_at-own (λ r. r.ratings) rows h.ordered row m ∙ counts.ratings;
          top = ap (best before_by_rating 4) (listed_at-own (λ r. r.top) rows h.ordered row m ∙ counts.top)
              ∙ best-best by_rating_is_order 4 (entries rating_sum (has_move (row_key_of row)) 0 tracks);
          recent = ap (best before_by_month 4) (listed_at-own (λ r. r.recent) rows h.ordered row m ∙ counts.recent)
              ∙ best-best by_month_is_order 4 (entries track_month (has_move (row_key_of row)) 0 tracks);
        }

    nothing : (test : Track → Bool) (f : Track → ℕ) (ts : List Track) → AllByRecursion (λ t. test t ≡ false) ts
        → sum_by (λ t. cond (test t) (f t) 0) ts ≡ 0
    nothing test f [] k = refl
    nothing test f (t ∷ ts) k =
        sum_by-cons (λ s. cond (test s) (f s) 0) t ts ∙ ap (λ b. cond b (f t) 0 + sum_by (λ s. cond (test s) (f s) 0) ts) k.0
        ∙ omega (arith, nothing test f ts k.1)

    with_test : (test : Track → Bool) (ts : List Track) → AllByRecursion (λ t. has c t ≡ false) ts → AllByRecursion (λ t. (has c t && test t) ≡ false) ts
    with_test test [] k = tt
    with_test test (t ∷ ts) k = (ap (λ b. b && test t) k.0, with_test test ts k.1)

    and_false : (b : Bool) → (b && false) ≡ false
    and_false true = refl
    and_false false = refl

    no_move : (ts : List Track) → AllByRecursion (λ t. has c t ≡ false) ts → AllByRecursion (λ t. has_move c t ≡ false) ts
    no_move [] k = tt
    no_move (t ∷ ts) k = (ap (λ b. is_some c.next && b) k.0 ∙ and_false (is_some c.next), no_move ts k.1)

    at_none : NoneAt c rows → AllByRecursion (λ t. has c t ≡ false) tracks → AddsUp tracks rows c
    at_none none lacking = record {
      white = sum_at-none (λ r. r.white) c rows none
          ∙ sym (nothing (λ t. has c t && is_white t.classes.outcome) (λ t. 1) tracks (with_test (λ t. is_white t.classes.outcome) tracks lacking));
      draws = sum_at-none (λ r. r.draws) c rows none
          ∙ sym (nothing (λ t. has c t && is_draw t.classes.outcome) (λ t. 1) tracks (with_test (λ t. is_draw t.classes.outcome) tracks lacking));
      black = sum_at-none (λ r. r.black) c rows none
          ∙ sym (nothing (λ t. has c t && is_black t.classes.outcome) (λ t. 1) tracks (with_test (λ t. is_black t.classes.outcome) tracks lacking));
      ratings = sum_at-none (λ r. r.ratings) c rows none
          ∙ sym (nothing (has_move c) (λ t. mover_rating c.key t.classes) tracks (no_move tracks lacking));
      top = ap (best before_by_rating 4) (listed_at-none (λ r. r.top) c rows none ∙ sym (entries-none rating_sum (has_move c) 0 tracks (no_move tracks lacking)));
      recent = ap (best before_by_month 4) (listed_at-none (λ r. r.recent) c rows none ∙ sym (entries-none track_month (has_move c) 0 tracks (no_move tracks lacking)));
    }
