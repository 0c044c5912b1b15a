use Rattle.std.proofs.Common.{◌≡◌, ◌<◌, ◌^◌, ℕ, Bool, true, false, cond, Option, None, Some, is_some, List, ◌∷◌, [], refl, sym, ap, ◌∙◌, Result, Ok, Err, OkIff, subst, true≢false, arith}
use Rattle.std.specs.Result.{result_ok}
use Rattle.best_lists.specs.declared.entry.Entry.{Entry}
use Rattle.explorer_model.specs.declared.archive.Outcome.{Outcome}
use Rattle.explorer_model.specs.Counting.{month_number}
use Rattle.tally_rows.specs.declared.row.Row.{Row}
use Rattle.tally_rows.specs.declared.single.Single.{Single}
use Rattle.tally_rows.specs.Row.{row_of, row_key_of, is_white, is_draw, is_black}
use Rattle.segment_blocks.proofs.single_game.single_in.Goals as goal

-- a row with the parts of a single, and the counts and the lists of its row
same_row : (row : Row) (s : Single) → s.row_key ≡ row_key_of row → (row_of s).white ≡ row.white → (row_of s).draws ≡ row.draws → (row_of s).black ≡ row.black
    → (row_of s).ratings ≡ row.ratings → (row_of s).top ≡ row.top → (row_of s).recent ≡ row.recent → row_of s ≡ row
unfolding row_of
same_row row s parts white draws black ratings top recent =
    λ i. record {
      key = (parts i).key;
      next = (parts i).next;
      month = (parts i).month;
      speed = (parts i).speed;
      group = (parts i).group;
      white = white i;
      draws = draws i;
      black = black i;
      ratings = ratings i;
      top = top i;
      recent = recent i;
    }

pub returns-then-has_counts_of-clause-game : goal.returns-then-has_counts_of-clause-game
returns-then-has_counts_of-clause-game c =
    let h = c.if-has_counts_of.ensures in
    let r = sym c.of.ensures.row in
    sym (same_row c.args.row.now _ c.row_key.ensures
    (ap (λ (x : Row). x.white) r ∙ h.white refl) (ap (λ (x : Row). x.draws) r ∙ h.draws refl) (ap (λ (x : Row). x.black) r ∙ h.black refl)
    (ap (λ (x : Row). x.ratings) r ∙ h.ratings refl) (ap (λ (x : Row). x.top) r ∙ h.top refl) (ap (λ (x : Row). x.recent) r ∙ h.recent refl))

-- ---- the row of a game is read again

fits-cond : (b : Bool) (n : ℕ) → n < 2 ^ 16 → cond b n 0 < 2 ^ 16
fits-cond true n h = h
fits-cond false n h = omega arith

rating-again : (b : Bool) (n : ℕ) → cond b (cond b n 0) 0 ≡ cond b n 0
rating-again true n = refl
rating-again false n = refl

abbrev IsFirst : Entry → List Entry → Type 0
IsFirst e entries = (entry : Entry) (more : List Entry) → entries ≡ entry ∷ more → e ≡ entry

top-again : (b : Bool) (e f : Entry) → IsFirst e (cond b (f ∷ []) []) → cond b (e ∷ []) [] ≡ cond b (f ∷ []) []
top-again true e f first = ap (λ x. x ∷ []) (first f [] refl)
top-again false e f first = refl

ranked : ℕ → Entry → Entry
ranked rank e = record { rank = rank; number = e.number }

recent-again : (b : Bool) (rank : ℕ) (e f : Entry) → IsFirst e (cond b (f ∷ []) [])
    → cond b (ranked rank e ∷ []) [] ≡ cond b (ranked rank f ∷ []) []
recent-again true rank e f first = ap (λ (x : Entry). ranked rank x ∷ []) (first f [] refl)
recent-again false rank e f first = refl

read_again : (game s : Single) → s.row_key ≡ game.row_key → s.outcome ≡ game.outcome → s.rating ≡ (row_of game).ratings
    → IsFirst (record { rank = s.sum; number = s.number }) (row_of game).top → row_of s ≡ row_of game
unfolding row_of ranked
read_again game s parts outcome rating first =
    let b = is_some game.row_key.next in
    let e : Entry = record { rank = s.sum; number = s.number } in
    let f : Entry = record { rank = game.sum; number = game.number } in
    same_row (row_of game) s parts (ap (λ o. cond (is_white o) 1 0) outcome) (ap (λ o. cond (is_draw o) 1 0) outcome) (ap (λ o. cond (is_black o) 1 0) outcome)
    ((λ i. cond (is_some (parts i).next) (rating i) 0) ∙ rating-again b game.rating)
    ((λ i. cond (is_some (parts i).next) (e ∷ []) []) ∙ top-again b e f first)
    ((λ i. cond (is_some (parts i).next) (ranked (month_number (parts i).month) e ∷ []) []) ∙ recent-again b (month_number game.row_key.month) e f first)

rating-fits : (game : Single) → game.rating < 2 ^ 16 → (row_of game).ratings < 2 ^ 16
unfolding row_of
rating-fits game small = fits-cond (is_some game.row_key.next) game.rating small

or_else : Outcome → Option Outcome → Outcome
or_else other None = other
or_else other (Some outcome) = outcome

pub returns-in_err-outcome-clause-some : goal.returns-in_err-outcome-clause-some
unfolding row_of
returns-in_err-outcome-clause-some c game small is =
    absurd (true≢false (ap is_some (sym (c.outcome_in.ensures game.outcome (ap (λ (x : Row). x.white) is) (ap (λ (x : Row). x.draws) is) (ap (λ (x : Row). x.black) is)) ∙ c.in_err-outcome.was)))

-- ---- a number that fits is read

number_or : ℕ → Option ℕ → ℕ
number_or other None = other
number_or other (Some n) = n

module _ {E : Type 0} (P : Type 0) (v : ℕ) where
  is_read : (r : Result ℕ E) (n : ℕ) → OkIff r P v → Some n ≡ result_ok r → n ≡ v
  unfolding number_or
  is_read (Ok x) n h e = ap (number_or v) e ∙ h.1
  is_read (Err x) n h e = absurd (true≢false (ap is_some e))

  is_some_read : (r : Result ℕ E) → OkIff r P v → P → None ≡ result_ok r → ⊥
  is_some_read (Ok x) h p e = true≢false (ap is_some (sym e))
  is_some_read (Err x) h p e = h p

pub returns-in_err-rating-clause-some : goal.returns-in_err-rating-clause-some
returns-in_err-rating-clause-some c game small is =
    let ratings = ap (λ (x : Row). x.ratings) is in
    let fits : c.args.row.now.ratings < 65536 = subst (λ n. n < 65536) (sym ratings) (rating-fits game small) in
    absurd (is_some_read (c.args.row.now.ratings < 65536) c.args.row.now.ratings c.try_from.result c.try_from.ensures fits c.in_err-rating.ensures.value)

pub returns-else-has_counts_of-clause-some : goal.returns-else-has_counts_of-clause-some
unfolding row_of or_else
returns-else-has_counts_of-clause-some c game small is =
    let row = c.args.row.now in
    let told = c.outcome_in.ensures game.outcome (ap (λ (x : Row). x.white) is) (ap (λ (x : Row). x.draws) is) (ap (λ (x : Row). x.black) is) in
    let outcome : c.in_ok-outcome.outcome ≡ game.outcome = ap (or_else game.outcome) (sym c.in_ok-outcome.was ∙ told) in
    let rating : c.in_ok-rating.rating ≡ (row_of game).ratings =
    is_read (row.ratings < 65536) row.ratings c.try_from.result c.in_ok-rating.rating c.try_from.ensures c.in_ok-rating.ensures.value ∙ ap (λ (x : Row). x.ratings) is in
    let pair = c.listed_in-sum.result in
    let e : Entry = record { rank = pair.0; number = pair.1 } in
    let first : IsFirst e (row_of game).top =
    (λ entry more top. let told : pair ≡ (entry.rank, entry.number) = c.listed_in-sum.ensures entry more (c.entries.ensures.entries ∙ ap (λ (x : Row). x.top) is ∙ top) in
    ap (λ (p : ℕ × ℕ). record { rank = p.0; number = p.1 }) told) in
    let same : c.of.result ≡ row = c.of.ensures.row ∙ read_again game _ (c.row_key.ensures ∙ ap row_key_of is) outcome rating first ∙ sym is in
    sym c.if-has_counts_of.false ∙ c.has_counts_of.ensures.all same
