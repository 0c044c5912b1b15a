-- What rows of single games add up to.
use Rattle.std.proofs.Common.{◌≡◌, ℕ, ◌+◌, ◌≤◌, Bool, true, false, cond, ◌&&◌, ◌||◌, ◌==◌, nat_lt, List, [], ◌∷◌, ◌++◌, map, take, Option, Some, None, refl, sym, ap, ◌∙◌, add-zero}
use Rattle.std.specs.Prelude.{filter_map}
use Rattle.std.specs.List.{cons_option, enumerate_from, sum_by}
use Rattle.std.specs.Option.{option_to_list}
use Rattle.std.proofs.lemmas.List.{map-append}
use Rattle.std.specs.Ordering.{nat_cmp, is_lt}
use Rattle.std.specs.Cmp.Lexicographic.{slice_cmp}
use Rattle.std.proofs.lemmas.List.Elements.{filter_map-append}
use Rattle.std.proofs.lemmas.List.Sums.{sum_by-append, sum_by-cons}
use Rattle.explorer_model.specs.declared.archive.Classes.{Classes}
use Rattle.explorer_model.specs.declared.archive.Outcome.{Outcome}
use Rattle.explorer_model.specs.declared.archive.Outcome.TheVariants as outcomes
use Rattle.explorer_model.specs.declared.chess.Move.{Move}
use Rattle.explorer_model.specs.Best.{best}
use Rattle.explorer_model.specs.Counting.{counts, count_of, distinct, first_moves, game_with_move, game_with_move_by, games_with_move, is_move, is_outcome, is_same_move, month_number, moves_played, NumberedGame, rating_sum, total, totals_of, visits}
use Rattle.explorer_model.specs.Counting as model
use Rattle.explorer_model.specs.Uci.{uci_text}
use Rattle.explorer_model.specs.Visits.{GameAt}
use Rattle.best_lists.specs.Entry.{moved_by}
use Rattle.best_lists.specs.Ranking.{before_by_month, by_month_is_order}
use Rattle.best_lists.proofs.BestLaws.{best-map, take-best}
use Rattle.std.proofs.lemmas.List.Concat.{flat_map-append}
use Rattle.row_sums.specs.Hits.{NumberedRow}
use Rattle.row_sums.specs.Sums.{any_row, before_by_total, entries_where, moves_in, plays, ratings_where, recent_where, sum_where, totals_where}
use Rattle.tally_rows.specs.declared.row.Row.{Row}
use Rattle.tally_rows.specs.Row.{is_black, is_draw, is_white, row_of}
use Rattle.player_lookup.specs.Kept.{entry_of, row_kept, rows_by, rows_kept}

one-cond : (t i : Bool) → cond t (cond {A = ℕ} i 1 0) 0 + 0 ≡ cond {A = ℕ} ((true && t) && i) 1 0
one-cond true true = refl
one-cond true false = refl
one-cond false true = refl
one-cond false false = refl

one-sum : (t : Bool) (n : ℕ) → cond t n 0 + 0 ≡ cond (true && t) n 0
one-sum true n = add-zero n
one-sum false n = refl

pub filter_map-cons : {X Y : Type 0} (h : X → Option Y) (x : X) (xs : List X) → filter_map h (x ∷ xs) ≡ option_to_list (h x) ++ filter_map h xs
filter_map-cons h x xs = by (h x)
  where
    by : (o : Option _) → cons_option o (filter_map h xs) ≡ option_to_list o ++ filter_map h xs
    by None = refl
    by (Some y) = refl

white-same : (o : Outcome) → is_white o ≡ is_outcome outcomes.White o
white-same outcomes.White = refl
white-same outcomes.Draw = refl
white-same outcomes.Black = refl

draw-same : (o : Outcome) → is_draw o ≡ is_outcome outcomes.Draw o
draw-same outcomes.White = refl
draw-same outcomes.Draw = refl
draw-same outcomes.Black = refl

black-same : (o : Outcome) → is_black o ≡ is_outcome outcomes.Black o
black-same outcomes.White = refl
black-same outcomes.Draw = refl
black-same outcomes.Black = refl

module _ (wanted : Classes → Bool) (rated : Classes → ℕ) (key : List ℕ) where
  -- a sum over the rows, of which each counts for its game
  module _ (test : Option Move → Bool) (count : Row → ℕ) (worth : GameAt → ℕ)
      (one : (b : Bool) (number : ℕ) (classes : Classes) (visit : Option (Option Move)) → wanted classes ≡ b
      → sum_where (rows_by rated key b number classes visit) (λ row. test row.next) count ≡ worth (record { classes = classes; visit = visit })) where
    sum-kept : (number : ℕ) (games : List GameAt) → sum_where (rows_kept rated key wanted number games) (λ row. test row.next) count ≡ sum_by worth games
    unfolding sum_where rows_kept
    sum-kept number [] = refl
    sum-kept number (game ∷ games) =
        let f = λ (hit : NumberedRow). cond (test hit.row.next) (count hit.row) 0 in
        let b = wanted game.classes in
        sum_by-append f (rows_by rated key b number game.classes game.visit) (rows_kept rated key wanted (number + 1) games)
        ∙ (λ k. one b number game.classes game.visit refl k + sum-kept (number + 1) games k)
        ∙ sym (sum_by-cons worth game games)

  -- one game of an outcome
  module _ (test : Option Move → Bool) (outcome : Outcome) (is : Outcome → Bool) (count : Row → ℕ)
      (same : (o : Outcome) → is o ≡ is_outcome outcome o)
      (counted : (number : ℕ) (classes : Classes) (next : Option Move) → count (row_kept rated key number classes next).row ≡ cond (is classes.outcome) 1 0) where
    one-outcome : (b : Bool) (number : ℕ) (classes : Classes) (visit : Option (Option Move)) → wanted classes ≡ b
        → sum_where (rows_by rated key b number classes visit) (λ row. test row.next) count
        ≡ cond (counts test wanted (record { classes = classes; visit = visit }) && is_outcome outcome classes.outcome) 1 0
    unfolding sum_where row_of
    one-outcome true number classes None e = ap (λ b. cond {A = ℕ} ((b && false) && is_outcome outcome classes.outcome) 1 0) (sym e)
    one-outcome true number classes (Some next) e =
        let t = test next in
        let i = is_outcome outcome classes.outcome in
        sum_by-cons (λ (hit : NumberedRow). cond (test hit.row.next) (count hit.row) 0) (row_kept rated key number classes next) []
        ∙ ap (λ n. cond t n 0 + 0) (counted number classes next ∙ ap (λ b. cond {A = ℕ} b 1 0) (same classes.outcome))
        ∙ one-cond t i
        ∙ ap (λ b. cond {A = ℕ} ((b && t) && i) 1 0) (sym e)
    one-outcome false number classes visit e =
        ap (λ b. cond {A = ℕ} ((b && visits test visit) && is_outcome outcome classes.outcome) 1 0) (sym e)

    outcome-kept : (number : ℕ) (games : List GameAt) → sum_where (rows_kept rated key wanted number games) (λ row. test row.next) count
        ≡ count_of outcome (counts test wanted) games
    outcome-kept number games =
        sum-kept test count (λ game. cond (counts test wanted game && is_outcome outcome game.classes.outcome) 1 0) one-outcome number games

  white-one : (number : ℕ) (classes : Classes) (next : Option Move) → (row_kept rated key number classes next).row.white ≡ cond (is_white classes.outcome) 1 0
  unfolding row_of
  white-one number classes next = refl

  draw-one : (number : ℕ) (classes : Classes) (next : Option Move) → (row_kept rated key number classes next).row.draws ≡ cond (is_draw classes.outcome) 1 0
  unfolding row_of
  draw-one number classes next = refl

  black-one : (number : ℕ) (classes : Classes) (next : Option Move) → (row_kept rated key number classes next).row.black ≡ cond (is_black classes.outcome) 1 0
  unfolding row_of
  black-one number classes next = refl

  pub totals-kept : (test : Option Move → Bool) (number : ℕ) (games : List GameAt)
      → totals_where (rows_kept rated key wanted number games) (λ row. test row.next) ≡ totals_of (counts test wanted) games
  totals-kept test number games = (λ k. record {
    white = outcome-kept test outcomes.White is_white (λ row. row.white) white-same white-one number games k;
    draws = outcome-kept test outcomes.Draw is_draw (λ row. row.draws) draw-same draw-one number games k;
    black = outcome-kept test outcomes.Black is_black (λ row. row.black) black-same black-one number games k;
  })

  -- ---- ratings

  one-rating : (m : Move) (b : Bool) (number : ℕ) (classes : Classes) (visit : Option (Option Move)) → wanted classes ≡ b
      → sum_where (rows_by rated key b number classes visit) (plays m) (λ row. row.ratings)
      ≡ cond (counts (is_move m) wanted (record { classes = classes; visit = visit })) (rated classes) 0
  unfolding sum_where row_of
  one-rating m true number classes None e = ap (λ b. cond {A = ℕ} (b && false) (rated classes) 0) (sym e)
  one-rating m true number classes (Some None) e =
      sum_by-cons (λ (hit : NumberedRow). cond (is_move m hit.row.next) hit.row.ratings 0) (row_kept rated key number classes None) []
      ∙ ap (λ b. cond {A = ℕ} (b && false) (rated classes) 0) (sym e)
  one-rating m true number classes (Some (Some next)) e =
      let t = is_same_move m next in
      sum_by-cons (λ (hit : NumberedRow). cond (is_move m hit.row.next) hit.row.ratings 0) (row_kept rated key number classes (Some next)) []
      ∙ one-sum t (rated classes)
      ∙ ap (λ b. cond {A = ℕ} (b && t) (rated classes) 0) (sym e)
  one-rating m false number classes visit e =
      ap (λ b. cond {A = ℕ} (b && visits (is_move m) visit) (rated classes) 0) (sym e)

  pub ratings-kept : (m : Move) (number : ℕ) (games : List GameAt)
      → ratings_where (rows_kept rated key wanted number games) (plays m) ≡ rating_sum rated (counts (is_move m) wanted) games
  ratings-kept m number games =
      sum-kept (is_move m) (λ row. row.ratings) (λ game. cond (counts (is_move m) wanted game) (rated game.classes) 0) (one-rating m) number games

  -- ---- moves

  one-move : (b : Bool) (number : ℕ) (classes : Classes) (visit : Option (Option Move))
      → filter_map (λ hit. hit.row.next) (rows_by rated key b number classes visit)
      ≡ map (λ s. s.next) (option_to_list (game_with_move_by b number classes visit))
  unfolding row_of
  one-move true number classes None = refl
  one-move true number classes (Some None) = refl
  one-move true number classes (Some (Some next)) = refl
  one-move false number classes visit = refl

  pub moves-kept : (number : ℕ) (games : List GameAt)
      → filter_map (λ hit. hit.row.next) (rows_kept rated key wanted number games)
      ≡ map (λ s. s.next) (filter_map (game_with_move wanted) (enumerate_from number games))
  unfolding rows_kept
  moves-kept number [] = refl
  moves-kept number (game ∷ games) =
      let b = wanted game.classes in
      let head = game_with_move_by b number game.classes game.visit in
      filter_map-append (λ (hit : NumberedRow). hit.row.next) (rows_by rated key b number game.classes game.visit) (rows_kept rated key wanted (number + 1) games)
      ∙ (λ k. one-move b number game.classes game.visit k ++ moves-kept (number + 1) games k)
      ∙ sym (map-append (λ (s : NumberedGame). s.next) (option_to_list head) (filter_map (game_with_move wanted) (enumerate_from (number + 1) games)))
      ∙ ap (map (λ s. s.next)) (sym (filter_map-cons (game_with_move wanted) (number, game) (enumerate_from (number + 1) games)))

  -- ---- the order of moves

  module _ (games : List GameAt) where
    pub moves-same : moves_in (rows_kept rated key wanted 0 games) ≡ moves_played wanted games
    unfolding moves_in moves_played games_with_move
    moves-same = ap (distinct is_same_move) (moves-kept 0 games)

    pub before-same : before_by_total (rows_kept rated key wanted 0 games) ≡ model.before_by_total wanted games
    before-same = (λ k a b.
        let of_a = total (totals-kept (is_move a) 0 games k) in
        let of_b = total (totals-kept (is_move b) 0 games k) in
        nat_lt of_b of_a || ((of_a == of_b) && is_lt (slice_cmp nat_cmp (uci_text a) (uci_text b))))

    pub first-same : (most : ℕ) → best (before_by_total (rows_kept rated key wanted 0 games)) most (moves_in (rows_kept rated key wanted 0 games)) ≡ first_moves most wanted games
    first-same most = (λ k. best (before-same k) most (moves-same k))

-- ---- the latest games

module _ (wanted : Classes → Bool) (rated : Classes → ℕ) (key : List ℕ) where
  one-entry : (b : Bool) (number : ℕ) (classes : Classes) (visit : Option (Option Move))
      → entries_where (rows_by rated key b number classes visit) any_row (λ row. row.recent)
      ≡ map entry_of (option_to_list (game_with_move_by b number classes visit))
  unfolding entries_where row_of
  one-entry true number classes None = refl
  one-entry true number classes (Some None) = refl
  one-entry true number classes (Some (Some next)) = ap (λ n. record { rank = month_number classes.month; number = n } ∷ []) (add-zero number)
  one-entry false number classes visit = refl

  pub entries-kept : (number : ℕ) (games : List GameAt)
      → entries_where (rows_kept rated key wanted number games) any_row (λ row. row.recent)
      ≡ map entry_of (filter_map (game_with_move wanted) (enumerate_from number games))
  unfolding entries_where rows_kept
  entries-kept number [] = refl
  entries-kept number (game ∷ games) =
      let b = wanted game.classes in
      let head = game_with_move_by b number game.classes game.visit in
      flat_map-append (λ (hit : NumberedRow). cond (any_row hit.row) (map (moved_by hit.first) hit.row.recent) [])
      (rows_by rated key b number game.classes game.visit) (rows_kept rated key wanted (number + 1) games)
      ∙ (λ k. one-entry b number game.classes game.visit k ++ entries-kept (number + 1) games k)
      ∙ sym (map-append entry_of (option_to_list head) (filter_map (game_with_move wanted) (enumerate_from (number + 1) games)))
      ∙ ap (map entry_of) (sym (filter_map-cons (game_with_move wanted) (number, game) (enumerate_from (number + 1) games)))

  pub recent-kept : (most : ℕ) (games : List GameAt) → most ≤ 4
      → take most (recent_where (rows_kept rated key wanted 0 games) any_row)
      ≡ map entry_of (best model.before_by_month most (games_with_move wanted games))
  unfolding games_with_move
  recent-kept most games few =
      let all = entries_where (rows_kept rated key wanted 0 games) any_row (λ row. row.recent) in
      let going = filter_map (game_with_move wanted) (enumerate_from 0 games) in
      take-best by_month_is_order most 4 all few
      ∙ ap (best before_by_month most) (entries-kept 0 games)
      ∙ best-map entry_of model.before_by_month before_by_month (λ a b. refl) most going
