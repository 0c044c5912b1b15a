-- The latest games, by the rows of single games.
use Rattle.std.proofs.Common.{◌≡◌, ℕ, zero, suc, ◌+◌, ◌≤◌, ◌==◌, Bool, true, false, ◌||◌, inl, inr, List, [], ◌∷◌, map, take, Option, Some, None, refl, sym, ap, subst, ◌∙◌, zero-add, arith}
use Rattle.std.specs.Prelude.{option_and_then}
use Rattle.std.specs.List.{All, Contains, cons_option, enumerate_from, filter_map, list_any, slice_get}
use Rattle.std.proofs.lemmas.Bool.Decides.{nat_tests}
use Rattle.std.proofs.lemmas.Option.{same_Some}
use Rattle.best_lists.specs.Ranking.{before_by_month}
use Rattle.best_lists.specs.declared.entry.Entry.{Entry}
use Rattle.best_lists.proofs.BestLaws.{All-best}
use Rattle.explorer_model.specs.Best.{best}
use Rattle.explorer_model.specs.Counting.{game_with_move, games_by, games_with_move, listed, NumberedGame}
use Rattle.explorer_model.specs.Counting as model
use Rattle.explorer_model.specs.Visits.{GameAt}
use Rattle.explorer_model.specs.declared.answer.Listed.{Listed}
use Rattle.explorer_model.specs.declared.archive.Classes.{Classes}
use Rattle.explorer_model.specs.declared.chess.Move.{Move}
use Rattle.player_lookup.specs.Kept.{entry_of, row_kept, rows_kept}
use Rattle.player_lookup.specs.Made.{AreLatestOf}
use Rattle.player_lookup.proofs.KeptGames.{IsGoing, IsRowOf, going-of, row-of}
use Rattle.player_lookup.proofs.OnlyGame.{listed-there}
use Rattle.player_lookup.proofs.Recounts.{recent-kept}
use Rattle.row_sums.specs.Hits.{NumberedRow}
use Rattle.row_sums.specs.Listing.{listed_as, listed_where, lists_number, next_where}
use Rattle.row_sums.specs.Sums.{any_row, entries_where}
use Rattle.row_sums.proofs.ListedRows.{best-stand, find-first, stands-listed}
use Rattle.tally_rows.proofs.Members.{IsIn, All-IsIn, All-from_IsIn, IsIn-from_Contains, IsIn-map}
use Rattle.tally_rows.specs.Row.{row_of}

-- ---- lists

in-taken : {X : Type 0} (n : ℕ) (xs : List X) (x : X) → IsIn x (take n xs) → IsIn x xs
in-taken zero [] x m = m
in-taken (suc n) [] x m = m
in-taken zero (y ∷ xs) x m = absurd m
in-taken (suc n) (y ∷ xs) x (inl is) = inl is
in-taken (suc n) (y ∷ xs) x (inr m) = inr (in-taken n xs x m)

one-found : {Y : Type 0} (o : Option Y) (y : Y) (ys rest : List Y) → o ≡ Some y → rest ≡ ys → cons_option o rest ≡ y ∷ ys
one-found o y ys rest is same = (λ k. cons_option (is k) (same k))

all-found : {X Y Z : Type 0} (f : X → Y) (h : Y → Option Z) (g : X → Z) (xs : List X) → ((x : X) → IsIn x xs → h (f x) ≡ Some (g x))
    → filter_map h (map f xs) ≡ map g xs
all-found f h g [] each = refl
all-found f h g (x ∷ xs) each = one-found (h (f x)) (g x) (map g xs) (filter_map h (map f xs)) (each x (inl refl)) (all-found f h g xs (λ y m. each y (inr m)))

-- ---- the row that lists a game

same-number : (place number : ℕ) → (place + 0 == number) ≡ true → place ≡ number
same-number place number e = grind (arith, nat_tests)

or-false : (b : Bool) → (b || false) ≡ true → b ≡ true
or-false true e = refl
or-false false e = e

module _ (rated : Classes → ℕ) (key : List ℕ) (wanted : Classes → Bool) (games : List GameAt) where
  lists-by : (place number : ℕ) (classes : Classes) (next : Option Move)
      → lists_number (λ row. row.recent) number (row_kept rated key place classes next) ≡ true
      → (m : Move) × (next ≡ Some m) × (place ≡ number)
  unfolding row_of
  lists-by place number classes None lists = cc
  lists-by place number classes (Some m) lists = (m, refl, same-number place number (or-false (place + 0 == number) lists))

  next-here : (place : ℕ) (classes : Classes) (next : Option Move) → (row_kept rated key place classes next).row.next ≡ next
  unfolding row_of
  next-here place classes next = refl

  -- the move of the row that lists a game is the game's
  next-of : (hit : NumberedRow) (s : NumberedGame) → IsRowOf rated key 0 games hit → IsGoing 0 games s
      → lists_number (λ row. row.recent) s.number hit ≡ true → hit.row.next ≡ Some s.next
  next-of hit s of going lists =
      let own = lists-by (0 + of.place) s.number of.classes of.next (subst (λ h. lists_number (λ row. row.recent) s.number h ≡ true) of.is lists) in
      let places : of.place ≡ going.place = omega (arith, own.2, going.number) in
      let same : Some (record { classes = of.classes; visit = Some of.next }) ≡ Some (record { classes = s.classes; visit = Some (Some s.next) }) =
      sym of.at ∙ ap (slice_get games) places ∙ going.at in
      let visit : Some of.next ≡ Some (Some s.next) = ap (λ (g : GameAt). g.visit) (same_Some _ _ same) in
      ap (λ h. h.row.next) of.is ∙ next-here (0 + of.place) of.classes of.next ∙ same_Some of.next (Some s.next) visit

  module _ (rows : List NumberedRow) (among : All (Contains (rows_kept rated key wanted 0 games)) rows) where
    found-there : (s : NumberedGame) → IsIn s (filter_map (game_with_move wanted) (enumerate_from 0 games))
        → list_any (lists_number (λ row. row.recent) s.number) rows ≡ true
        → listed_where (λ row. row.recent) (map (λ game. game.classes) games) rows s.number ≡ Some (listed s)
    unfolding next_where
    found-there s is_in some =
        let hits = rows_kept rated key wanted 0 games in
        let first = find-first (lists_number (λ row. row.recent) s.number) rows some in
        let hit_in : IsIn first.value hits = IsIn-from_Contains hits first.value (All-IsIn (Contains hits) rows among first.value first.is_in) in
        let going = going-of wanted 0 games s is_in in
        let next = next-of first.value s (row-of rated key wanted 0 games first.value hit_in) going first.passes in
        let number : going.place ≡ s.number = sym (going.number ∙ zero-add going.place) in
        ap (option_and_then (λ (n : Move). listed_as (map (λ (game : GameAt). game.classes) games) n s.number))
        (ap (option_and_then (λ (hit : NumberedRow). hit.row.next)) first.is ∙ next)
        ∙ listed-there games s s.number (ap (slice_get games) (sym number) ∙ going.at)

  -- what is listed are the latest games
  pub latest-kept : (most : ℕ) (found : List Listed) → most ≤ 4
      → AreLatestOf (map (λ game. game.classes) games) (rows_kept rated key wanted 0 games) most found
      → found ≡ games_by model.before_by_month most wanted games
  unfolding games_with_move
  latest-kept most found few are =
      let hits = rows_kept rated key wanted 0 games in
      let going = filter_map (game_with_move wanted) (enumerate_from 0 games) in
      let firsts = best model.before_by_month most going in
      let recent = λ (entry : Entry). listed_where (λ row. row.recent) (map (λ (game : GameAt). game.classes) games) are.rows entry.number in
      let entries : take most are.entries ≡ map entry_of firsts = ap (take most) are.are_best.of_all ∙ recent-kept wanted rated key most games few in
      let own : List Entry = entries_where are.rows any_row (λ row. row.recent) in
      let stands : (s : NumberedGame) → IsIn s firsts → IsIn (entry_of s) own =
      (λ s m. IsIn-from_Contains own (entry_of s)
      (All-IsIn (Contains own) (best before_by_month 4 own) (best-stand before_by_month 4 own) (entry_of s)
      (subst (IsIn (entry_of s)) are.are_best.of_rows
      (in-taken most are.entries (entry_of s) (subst (IsIn (entry_of s)) (sym entries) (IsIn-map entry_of firsts s m)))))) in
      let among_going : All (λ s. IsIn s going) firsts = All-best model.before_by_month (λ s. IsIn s going) most going (All-from_IsIn (λ s. IsIn s going) going (λ s m. m)) in
      are.are_listed ∙ ap (filter_map recent) entries
      ∙ all-found entry_of recent listed firsts (λ s m.
      found-there are.rows are.are_best.among s (All-IsIn (λ s. IsIn s going) firsts among_going s m)
      (stands-listed (λ row. row.recent) any_row are.rows (entry_of s) (stands s m)))
