-- What all games of a cover say of a position is what its rows give.
use Rattle.std.proofs.Common.{◌≡◌, ℕ, ◌+◌, ◌<◌, Bool, true, false, not, ◌&&◌, ◌||◌, ◌==◌, nat_lt, cond, if◌then◌else◌, Option, None, Some, List, [], ◌∷◌, map, length, refl, sym, ap, subst, ◌∙◌, arith}
use Rattle.std.specs.Prelude.{bytes_eq}
use Rattle.std.specs.List.{All, Any, AllZip, AllByRecursion, sum_by, count_by, filter, filter_map, cons_option, list_any, enumerate_from}
use Rattle.std.proofs.lemmas.Bool.Decides.{nat_tests}
use Rattle.std.proofs.lemmas.List.Elements.{recursion_from_All, All-append, All-filter, All-cons, All-nil, All-head, All-tail, All-map}
use Rattle.std.proofs.lemmas.List.{take_all, length-map}
use Rattle.explorer_model.specs.SoundClasses.{IsMonth}
use Rattle.explorer_model.specs.Best.{best, IsStrictTotalOrder}
use Rattle.best_lists.specs.Ranking as entry_order
use Rattle.best_lists.proofs.BestLaws.{best-map, best_is, All-best}
use Rattle.best_lists.proofs.Ranked.{ranked, length-ranked}
use Rattle.best_lists.proofs.Same.{best-same, ranked-same}
use Rattle.explorer_model.specs.declared.answer.Totals.{Totals}
use Rattle.explorer_model.specs.declared.archive.Classes.{Classes}
use Rattle.explorer_model.specs.declared.archive.Month.{Month}
use Rattle.explorer_model.specs.declared.archive.Outcome.{Outcome}
use Rattle.explorer_model.specs.declared.archive.Outcome.TheVariants as outcomes
use Rattle.explorer_model.specs.declared.chess.Color.TheVariants.{White, Black}
use Rattle.explorer_model.specs.declared.chess.Move.{Move}
use Rattle.explorer_model.specs.declared.query.Filter.{Filter}
use Rattle.explorer_model.specs.Counting.{passes, counts, any_next, is_move, is_same_move, is_same_month, is_in_month, is_outcome, count_of, totals_of, total, rating_of, rating_sum, NumberedGame, game_with_move, game_with_move_by, games_with_move, ratings_of, month_number, first_moves, moves_played, months_counted, before_in_time, month_line, visits, distinct}
use Rattle.explorer_model.specs.Visits.{GameAt}
use Rattle.tally_rows.specs.declared.row_key.RowKey.{RowKey}
use Rattle.tally_rows.specs.declared.row.Row.{Row}
use Rattle.tally_rows.specs.Adding.{IsSound}
use Rattle.tally_rows.specs.Cover.{game_at, turn_of, passes_row_key, meets, meets_in, rows_totals, rows_ratings, rows_before, rows_moves, rows_months, Recounts}
use Rattle.tally_rows.specs.Recount.{all_of, is_counted, picks, GivesPicked}
use Rattle.tally_rows.specs.Row.{row_key_of, is_white, is_draw, is_black}
use Rattle.tally_rows.specs.Tallied.{is_black_to_move, mover_rating, Tallied}
use Rattle.tally_rows.specs.Track.{Track, visit, has}
use Rattle.tally_rows.proofs.AddsUp.{IsSound-tallied, count-outcomes}
use Rattle.tally_rows.proofs.Covers.{GivesPicked-cover}
use Rattle.tally_rows.proofs.Members.{IsIn, All-from_IsIn, All-IsIn, Found-from_Any, IsIn-append_left, IsIn-append_right}
use Rattle.tally_rows.proofs.Moves.{is_same_move-is, is_same_move-self, number_first, text_before, text_before-order, ties-is}
use Rattle.tally_rows.proofs.Visits.{has-row_keys_at, row_keys_at-AreOf}
use Rattle.tally_rows.proofs.GamesWithMove.{counted-meets, counted-month, counted-meets_in, listed-is_move, games-listed, only-listed}
use Rattle.tally_rows.proofs.Somewhere.{any-count, any-sum, any-map, any-filter, count-distinct, map-distinct}
use Rattle.tally_rows.proofs.Sums.{sum_by-map, sum_by-add, sum_by-flat_map}

-- ---- sums

white-is : (o : Outcome) → is_outcome outcomes.White o ≡ is_white o
white-is outcomes.White = refl
white-is outcomes.Draw = refl
white-is outcomes.Black = refl

draw-is : (o : Outcome) → is_outcome outcomes.Draw o ≡ is_draw o
draw-is outcomes.White = refl
draw-is outcomes.Draw = refl
draw-is outcomes.Black = refl

black-is : (o : Outcome) → is_outcome outcomes.Black o ≡ is_black o
black-is outcomes.White = refl
black-is outcomes.Draw = refl
black-is outcomes.Black = refl

module _ (key : List ℕ) (pick : RowKey → Bool) (counted : GameAt → Bool) (agree : (t : Track) → is_counted key pick t ≡ counted (game_at key t)) where
  count-games_at : (outcome : Outcome) (test : Outcome → Bool) → ((o : Outcome) → is_outcome outcome o ≡ test o) → (tracks : List Track)
      → count_of outcome counted (map (game_at key) tracks) ≡ count_by (λ t. is_counted key pick t && test t.classes.outcome) tracks
  count-games_at outcome test e tracks =
      sum_by-map (λ game. cond (counted game && is_outcome outcome game.classes.outcome) 1 0) (game_at key) tracks
      ∙ ap (λ f. sum_by f tracks) (λ i t. cond (sym (agree t) i && e t.classes.outcome i) 1 0)

  totals-games_at : (cover : List (List Track)) (tallies : List (List Row)) → GivesPicked key pick cover tallies
      → totals_of counted (map (game_at key) (all_of cover)) ≡ rows_totals key tallies pick
  totals-games_at cover tallies g =
      let white = count-games_at outcomes.White is_white white-is (all_of cover) ∙ sym g.white in
      let draws = count-games_at outcomes.Draw is_draw draw-is (all_of cover) ∙ sym g.draws in
      let black = count-games_at outcomes.Black is_black black-is (all_of cover) ∙ sym g.black in
      λ i. record { white = white i; draws = draws i; black = black i }

mover-is : (key : List ℕ) (classes : Classes) → rating_of (turn_of key) classes ≡ mover_rating key classes
mover-is key classes =
    elim (is_black_to_move key) as (λ b. rating_of (if b then Black else White) classes ≡ cond b classes.black.rating classes.white.rating) [
      | true ↦ refl
      | false ↦ refl
    ]

ratings-games_at : (key : List ℕ) (wanted : Filter) (m : Move) (cover : List (List Track)) (tallies : List (List Row))
    → GivesPicked key (meets wanted (is_move m)) cover tallies
    → rating_sum (rating_of (turn_of key)) (counts (is_move m) (passes wanted)) (map (game_at key) (all_of cover)) ≡ rows_ratings key tallies (meets wanted (is_move m))
ratings-games_at key wanted m cover tallies g =
    sum_by-map (λ game. cond (counts (is_move m) (passes wanted) game) (rating_of (turn_of key) game.classes) 0) (game_at key) (all_of cover)
    ∙ ap (λ f. sum_by f (all_of cover)) (λ i t. cond (sym (listed-is_move key wanted t m) i) (mover-is key t.classes i) 0)
    ∙ sym g.ratings

-- ---- whether some game is counted, from the rows

module _ (cover : List (List Track)) (tallies : List (List Row)) (tallied : AllZip Tallied cover tallies) where
  all_sound : (c : List (List Track)) (ts : List (List Row)) → AllZip Tallied c ts → All IsSound (all_of ts)
  all_sound [] [] h = All-nil IsSound
  all_sound [] (rows ∷ ts) h = absurd h
  all_sound (tracks ∷ c) [] h = absurd h
  all_sound (tracks ∷ c) (rows ∷ ts) h = All-append IsSound rows (all_of ts) (IsSound-tallied tracks rows h.0) (all_sound c ts h.1)

  module _ (key : List ℕ) (pick : RowKey → Bool) where
    pub given : GivesPicked key pick cover tallies
    given = GivesPicked-cover cover tallies tallied key pick

    count_all : List Row → ℕ
    count_all rows = sum_by (λ row. cond (picks key pick row) (row.white + row.draws + row.black) 0) rows

    three : (b : Bool) (x y z : ℕ) → cond b x 0 + cond b y 0 + cond b z 0 ≡ cond b (x + y + z) 0
    three true x y z = refl
    three false x y z = refl

    totals-all : total (rows_totals key tallies pick) ≡ count_all (all_of tallies)
    unfolding count_all
    totals-all =
        let rows = all_of tallies in
        let w = λ (row : Row). cond (picks key pick row) row.white 0 in
        let d = λ (row : Row). cond (picks key pick row) row.draws 0 in
        let b = λ (row : Row). cond (picks key pick row) row.black 0 in
        (λ i. sym (sum_by-flat_map w (λ l. l) tallies) i + sym (sum_by-flat_map d (λ l. l) tallies) i + sym (sum_by-flat_map b (λ l. l) tallies) i)
        ∙ ap (λ n. n + sum_by b rows) (sym (sum_by-add w d rows)) ∙ sym (sum_by-add (λ r. w r + d r) b rows)
        ∙ ap (λ f. sum_by f rows) (λ i row. three (picks key pick row) row.white row.draws row.black i)

    -- some row is picked where some game is counted, and the other way round
    pub somewhere : list_any (picks key pick) (all_of tallies) ≡ list_any (is_counted key pick) (all_of cover)
    unfolding count_all
    somewhere =
        any-sum (picks key pick) (λ row. row.white + row.draws + row.black) (all_of tallies)
        (has_games (all_of tallies) (recursion_from_All IsSound (all_of tallies) (all_sound cover tallies tallied)))
        ∙ ap (nat_lt 0) (sym totals-all ∙ (λ i. given.white i + given.draws i + given.black i) ∙ count-outcomes (is_counted key pick) (all_of cover))
        ∙ sym (any-count (is_counted key pick) (all_of cover))
      where
        has_games : (rows : List Row) → AllByRecursion IsSound rows → AllByRecursion (λ row. 0 < row.white + row.draws + row.black) rows
        has_games [] h = tt
        has_games (row ∷ rows) h = (h.0.some, has_games rows h.1)

-- ---- the moves that are played

picks-test : (key : List ℕ) (wanted : Filter) (test : Option Move → Bool) (row : Row)
    → (picks key (meets wanted any_next) row && test row.next) ≡ picks key (meets wanted test) row
unfolding picks
picks-test key wanted test row = by (bytes_eq row.key key) (passes_row_key wanted (row_key_of row)) (test row.next)
  where
    by : (a b c : Bool) → ((a && (b && true)) && c) ≡ (a && (b && c))
    by true true c = refl
    by true false c = refl
    by false b c = refl

module _ (key : List ℕ) (wanted : Filter) (m : Move) where
  any-game_with_move : (b : Bool) (o : Option (Option Move)) (n : ℕ) (classes : Classes) (rest : List NumberedGame)
      → list_any (is_same_move m) (map (λ s. s.next) (cons_option (game_with_move_by b n classes o) rest))
      ≡ ((b && visits (is_move m) o) || list_any (is_same_move m) (map (λ s. s.next) rest))
  any-game_with_move true (Some (Some next)) n classes rest = refl
  any-game_with_move true (Some None) n classes rest = refl
  any-game_with_move true None n classes rest = refl
  any-game_with_move false o n classes rest = refl

  any-games_with_move : (n : ℕ) (ts : List Track)
      → list_any (is_same_move m) (map (λ s. s.next) (filter_map (game_with_move (passes wanted)) (enumerate_from n (map (game_at key) ts))))
      ≡ list_any (is_counted key (meets wanted (is_move m))) ts
  any-games_with_move n [] = refl
  any-games_with_move n (t ∷ ts) =
      any-game_with_move (passes wanted t.classes) (visit key t) n t.classes (filter_map (game_with_move (passes wanted)) (enumerate_from (n + 1) (map (game_at key) ts)))
      ∙ (λ i. sym (counted-meets key wanted t (is_move m)) i || any-games_with_move (n + 1) ts i)

  any-option : (b : Bool) (o : Option Move) (rest : List Move)
      → list_any (is_same_move m) (cons_option (if b then o else None) rest) ≡ ((b && is_move m o) || list_any (is_same_move m) rest)
  any-option true (Some next) rest = refl
  any-option true None rest = refl
  any-option false o rest = refl

  pub any-rows : (rows : List Row)
      → list_any (is_same_move m) (filter_map (λ row. if picks key (meets wanted any_next) row then row.next else None) rows)
      ≡ list_any (picks key (meets wanted (is_move m))) rows
  any-rows [] = refl
  any-rows (row ∷ rows) =
      any-option (picks key (meets wanted any_next) row) row.next (filter_map (λ r. if picks key (meets wanted any_next) r then r.next else None) rows)
      ∙ (λ i. picks-test key wanted (is_move m) row i || any-rows rows i)

module _ (cover : List (List Track)) (tallies : List (List Row)) (tallied : AllZip Tallied cover tallies) (key : List ℕ) (wanted : Filter) where
  same_moves : (m : Move) → count_by (is_same_move m) (moves_played (passes wanted) (map (game_at key) (all_of cover)))
      ≡ count_by (is_same_move m) (rows_moves key tallies wanted)
  unfolding moves_played rows_moves games_with_move
  same_moves m =
      count-distinct is_same_move is_same_move-is is_same_move-self m _
      ∙ ap (λ b. cond b 1 0) (any-games_with_move key wanted m 0 (all_of cover)
      ∙ sym (somewhere cover tallies tallied key (meets wanted (is_move m))) ∙ sym (any-rows key wanted m (all_of tallies)))
      ∙ sym (count-distinct is_same_move is_same_move-is is_same_move-self m _)

  order_by : (Move → Totals) → Move → Move → Bool
  order_by f a b = nat_lt (total (f b)) (total (f a)) || ((total (f a) == total (f b)) && text_before a b)

  moves-games_at : (most : ℕ) → first_moves most (passes wanted) (map (game_at key) (all_of cover)) ≡ best (rows_before key tallies wanted) most (rows_moves key tallies wanted)
  unfolding order_by
  moves-games_at most =
      let games_at = map (game_at key) (all_of cover) in
      let of_rows = λ (m : Move). rows_totals key tallies (meets wanted (is_move m)) in
      let agree = λ (m : Move). totals-games_at key (meets wanted (is_move m)) (counts (is_move m) (passes wanted)) (λ t. counted-meets key wanted t (is_move m))
      cover tallies (given cover tallies tallied key (meets wanted (is_move m))) in
      let order = number_first text_before-order (λ m. total (of_rows m)) in
      let tied = ties-is order is_same_move is_same_move-is is_same_move-self in
      ap (λ f. best (order_by f) most (moves_played (passes wanted) games_at)) (λ i m. agree m i)
      ∙ best-same order most (moves_played (passes wanted) games_at) (rows_moves key tallies wanted)
      (λ m. ap (λ p. count_by p (moves_played (passes wanted) games_at)) (λ i n. tied m n i) ∙ same_moves m
      ∙ ap (λ p. count_by p (rows_moves key tallies wanted)) (λ i n. sym (tied m n) i))

-- ---- the months

by_number : IsStrictTotalOrder nat_lt
by_number = record {
  irreflexive = λ a. grind (arith, nat_tests);
  transitive = λ a b c. grind (arith, nat_tests);
  total = λ a b. grind (arith, nat_tests);
}

number-is : (m n : ℕ) → (m == n) ≡ true → m ≡ n
number-is m n e = grind (arith, nat_tests)

number-self : (m : ℕ) → (m == m) ≡ true
number-self m = grind (arith, nat_tests)

month-same : (a b : Month) → IsMonth a → IsMonth b → month_number a ≡ month_number b → a ≡ b
month-same a b h k e =
    let year : a.year ≡ b.year = omega arith in
    let month : a.month ≡ b.month = omega arith in
    λ i. record { year = year i; month = month i }

months-same : (xs ys : List Month) → AllByRecursion IsMonth xs → AllByRecursion IsMonth ys → map month_number xs ≡ map month_number ys → xs ≡ ys
months-same [] [] h k e = refl
months-same [] (y ∷ ys) h k e = cc
months-same (x ∷ xs) [] h k e = cc
months-same (x ∷ xs) (y ∷ ys) h k e =
    let first : month_number x ≡ month_number y = cc in
    let rest : map month_number xs ≡ map month_number ys = cc in
    λ i. month-same x y h.0 k.0 first i ∷ months-same xs ys h.1 k.1 rest i

-- each month once, in time
in_time : (months : List Month) → map month_number (best before_in_time (length months) months) ≡ ranked nat_lt (map month_number months)
in_time months =
    let numbers = map month_number months in
    sym (best-map month_number before_in_time nat_lt (λ a b. refl) (length months) months)
    ∙ best_is by_number (length months) numbers
    ∙ take_all (length months) (ranked nat_lt numbers) (omega (arith, length-ranked nat_lt numbers, length-map months month_number))

All-distinct : {X : Type 0} (P : X → Type 0) (same : X → X → Bool) (xs : List X) → All P xs → All P (distinct same xs)
All-distinct P same [] h = h
All-distinct P same (x ∷ xs) h =
    All-cons P x (filter (λ y. not (same x y)) (distinct same xs)) (All-head P x xs h)
    (All-filter (λ y. not (same x y)) P (distinct same xs) (All-distinct P same xs (All-tail P x xs h)))

module _ (cover : List (List Track)) (tallies : List (List Row)) (tallied : AllZip Tallied cover tallies) (key : List ℕ) (wanted : Filter) where
  -- the games of a month by its number
  pick_month : ℕ → RowKey → Bool
  pick_month x row_key = passes_row_key wanted row_key && (x == month_number row_key.month)

  numbers-games_at : (x : ℕ) → list_any (λ n. x == n) (map month_number (map (λ game. game.classes.month) (filter (counts any_next (passes wanted)) (map (game_at key) (all_of cover)))))
      ≡ list_any (is_counted key (pick_month x)) (all_of cover)
  unfolding pick_month
  numbers-games_at x =
      any-map (λ n. x == n) month_number _ ∙ any-map (λ m. x == month_number m) (λ (game : GameAt). game.classes.month) _
      ∙ any-filter (λ (game : GameAt). x == month_number game.classes.month) (counts any_next (passes wanted)) (map (game_at key) (all_of cover))
      ∙ any-map (λ game. counts any_next (passes wanted) game && (x == month_number game.classes.month)) (game_at key) (all_of cover)
      ∙ ap (λ p. list_any p (all_of cover)) (λ i t. sym (counted-month key wanted t (λ m. x == month_number m)) i)

  picks-month : (x : ℕ) (row : Row) → (picks key (meets wanted any_next) row && (x == month_number row.month)) ≡ picks key (pick_month x) row
  unfolding picks pick_month
  picks-month x row = by (bytes_eq row.key key) (passes_row_key wanted (row_key_of row)) (x == month_number row.month)
    where
      by : (a b c : Bool) → ((a && (b && true)) && c) ≡ (a && (b && c))
      by true true c = refl
      by true false c = refl
      by false b c = refl

  numbers-rows : (x : ℕ) → list_any (λ n. x == n) (map month_number (map (λ row. row.month) (filter (picks key (meets wanted any_next)) (all_of tallies))))
      ≡ list_any (picks key (pick_month x)) (all_of tallies)
  numbers-rows x =
      any-map (λ n. x == n) month_number _ ∙ any-map (λ m. x == month_number m) (λ (row : Row). row.month) _
      ∙ any-filter (λ (row : Row). x == month_number row.month) (picks key (meets wanted any_next)) (all_of tallies)
      ∙ ap (λ p. list_any p (all_of tallies)) (λ i row. picks-month x row i)

  same_numbers : ranked nat_lt (map month_number (months_counted (passes wanted) (map (game_at key) (all_of cover))))
      ≡ ranked nat_lt (map month_number (rows_months key tallies wanted))
  unfolding months_counted rows_months
  same_numbers =
      let left = map (λ (game : GameAt). game.classes.month) (filter (counts any_next (passes wanted)) (map (game_at key) (all_of cover))) in
      let right = map (λ (row : Row). row.month) (filter (picks key (meets wanted any_next)) (all_of tallies)) in
      let test = λ (m n : ℕ). m == n in
      let tied = ties-is by_number test number-is number-self in
      let once = count-distinct test number-is number-self in
      ap (ranked nat_lt) (map-distinct month_number left)
      ∙ ranked-same by_number (distinct test (map month_number left)) (distinct test (map month_number right))
      (λ x. ap (λ p. count_by p (distinct test (map month_number left))) (λ i n. tied x n i)
      ∙ once x (map month_number left)
      ∙ ap (λ b. cond b 1 0) (numbers-games_at x ∙ sym (somewhere cover tallies tallied key (pick_month x)) ∙ sym (numbers-rows x))
      ∙ sym (once x (map month_number right))
      ∙ ap (λ p. count_by p (distinct test (map month_number right))) (λ i n. sym (tied x n) i))
      ∙ ap (ranked nat_lt) (sym (map-distinct month_number right))

  -- rows have months of their games
  months_of_rows : (c : List (List Track)) (ts : List (List Row)) → AllZip Tallied c ts → ((t : Track) → IsIn t (all_of c) → IsMonth t.classes.month)
      → All (λ row. IsMonth row.month) (all_of ts)
  months_of_rows [] [] h e = All-nil (λ row. IsMonth row.month)
  months_of_rows [] (rows ∷ ts) h e = absurd h
  months_of_rows (tracks ∷ c) [] h e = absurd h
  months_of_rows (tracks ∷ c) (rows ∷ ts) h e =
      All-append (λ row. IsMonth row.month) rows (all_of ts) (All-from_IsIn (λ row. IsMonth row.month) rows here)
      (months_of_rows c ts h.1 (λ t m. e t (IsIn-append_right tracks (all_of c) t m)))
    where
      here : (row : Row) → IsIn row rows → IsMonth row.month
      here row m =
          let found = Found-from_Any (λ t. has (row_key_of row) t ≡ true) tracks (All-IsIn (λ r. Any (λ t. has (row_key_of r) t ≡ true) tracks) rows h.0.some row m) in
          let of = row_keys_at-AreOf row.key found.value (row_key_of row) (has-row_keys_at (row_key_of row) found.value found.holds) in
          subst IsMonth (sym of.month) (e found.value (IsIn-append_left tracks (all_of c) found.value found.is_in))

  history-games_at : All (λ track. IsMonth track.classes.month) (all_of cover)
      → best before_in_time (length (months_counted (passes wanted) (map (game_at key) (all_of cover)))) (months_counted (passes wanted) (map (game_at key) (all_of cover)))
      ≡ best before_in_time (length (rows_months key tallies wanted)) (rows_months key tallies wanted)
  unfolding months_counted rows_months
  history-games_at valid =
      let games_at = map (game_at key) (all_of cover) in
      let left = map (λ (game : GameAt). game.classes.month) (filter (counts any_next (passes wanted)) games_at) in
      let right = map (λ (row : Row). row.month) (filter (picks key (meets wanted any_next)) (all_of tallies)) in
      let left_valid = All-map IsMonth (λ (game : GameAt). game.classes.month) (filter (counts any_next (passes wanted)) games_at)
      (All-filter (counts any_next (passes wanted)) (λ game. IsMonth game.classes.month) games_at (All-map (λ game. IsMonth game.classes.month) (game_at key) (all_of cover) valid)) in
      let right_valid = All-map IsMonth (λ (row : Row). row.month) (filter (picks key (meets wanted any_next)) (all_of tallies))
      (All-filter (picks key (meets wanted any_next)) (λ row. IsMonth row.month) (all_of tallies)
      (months_of_rows cover tallies tallied (All-IsIn (λ t. IsMonth t.classes.month) (all_of cover) valid))) in
      let months = distinct is_same_month left in
      let others = distinct is_same_month right in
      months-same (best before_in_time (length months) months) (best before_in_time (length others) others)
      (recursion_from_All IsMonth _ (All-best before_in_time IsMonth (length months) months (All-distinct IsMonth is_same_month left left_valid)))
      (recursion_from_All IsMonth _ (All-best before_in_time IsMonth (length others) others (All-distinct IsMonth is_same_month right right_valid)))
      (in_time months ∙ same_numbers ∙ sym (in_time others))

pub Recounts-cover : (cover : List (List Track)) (tallies : List (List Row)) → AllZip Tallied cover tallies
    → (key : List ℕ) (wanted : Filter) → Recounts key wanted cover tallies
Recounts-cover cover tallies tallied key wanted =
    let picked = given cover tallies tallied key in
    let month = λ (m : Month). totals-games_at key (meets_in m wanted) (is_in_month m (passes wanted)) (λ t. counted-meets_in key wanted t m) cover tallies
    (picked (meets_in m wanted)) in
    record {
      totals = λ test. totals-games_at key (meets wanted test) (counts test (passes wanted)) (λ t. counted-meets key wanted t test) cover tallies
          (picked (meets wanted test));
      ratings = λ m. ratings-games_at key wanted m cover tallies (picked (meets wanted (is_move m)));
      moves = moves-games_at cover tallies tallied key wanted;
      only_game = λ m. only-listed key wanted ratings_of entry_order.by_rating_is_order m (all_of cover) _ (picked (meets wanted (is_move m))).top;
      top = λ most few. games-listed key wanted ratings_of entry_order.by_rating_is_order most few (all_of cover) _ (picked (meets wanted any_next)).top;
      recent = λ most few. games-listed key wanted (λ classes. month_number classes.month) entry_order.by_month_is_order most few (all_of cover) _
          (picked (meets wanted any_next)).recent;
      month = month;
      history = λ valid.
          ap (λ l. Some (map (month_line (passes wanted) (map (game_at key) (all_of cover))) l)) (history-games_at cover tallies tallied key wanted valid)
          ∙ ap (λ f. Some (map f (best before_in_time (length (rows_months key tallies wanted)) (rows_months key tallies wanted))))
          (λ i m. record { month = m; totals = month m i });
    }
