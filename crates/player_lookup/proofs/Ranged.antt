-- The games of a range of numbers are the games that are wanted, where all of these have its numbers.
use Rattle.std.proofs.Common.{◌≡◌, ℕ, suc, ◌+◌, ◌<◌, ◌&&◌, Bool, true, false, if◌then◌else◌, List, [], ◌∷◌, ◌++◌, length, map, slice_index_or, Some, refl, sym, ap, ◌∙◌, arith}
use Rattle.std.specs.List.{AllByRecursion, flat_map, slice_get}
use Rattle.std.proofs.lemmas.List.{append_assoc, length_push}
use Rattle.plain_laws.specs.Lists.{get-between}
use Rattle.explorer_model.specs.Counting.{passes}
use Rattle.explorer_model.specs.Players.{is_wanted, mode_index, plays_as}
use Rattle.explorer_model.specs.Visits.{GameAt}
use Rattle.explorer_model.specs.declared.archive.Classes.{Classes}
use Rattle.explorer_model.specs.declared.player.PlayerQuery.{PlayerQuery}
use Rattle.player_index.specs.Entries.{numbers_where}
use Rattle.player_lookup.specs.Kept.{is_taken, opponent_rating, rows_by, rows_kept, rows_of_game, rows_of_numbers}

-- the numbers are those of games
higher : (first more : ℕ) (numbers : List ℕ) → AllByRecursion (λ n. n < first + 1 + more) numbers → AllByRecursion (λ n. n < first + suc more) numbers
higher first more [] each = tt
higher first more (n ∷ numbers) each = (omega (arith, each.0), higher first more numbers each.1)

below-by : (first more : ℕ) (numbers : List ℕ) (b : Bool) → AllByRecursion (λ n. n < first + suc more) numbers
    → AllByRecursion (λ n. n < first + suc more) (if b then first ∷ numbers else numbers)
below-by first more numbers true each = (omega arith, each)
below-by first more numbers false each = each

pub numbers-below : (test : Classes → Bool) (first : ℕ) (games : List Classes)
    → AllByRecursion (λ n. n < first + length games) (numbers_where test first games)
unfolding numbers_where
numbers-below test first [] = tt
numbers-below test first (classes ∷ games) =
    let more = numbers_where test (first + 1) games in
    below-by first (length games) more (test classes) (higher first (length games) more (numbers-below test (first + 1) games))

and-regroup : (a b c : Bool) → (a && b) && c ≡ a && (b && c)
and-regroup true b c = refl
and-regroup false b c = refl

module _ (q : PlayerQuery) (key : List ℕ) where
  abbrev test : Classes → Bool
  test = plays_as q.player q.color

  wanted-is : (classes : Classes) → is_wanted q classes ≡ test classes && is_taken q classes
  unfolding is_wanted is_taken
  wanted-is classes = and-regroup (test classes) (slice_index_or q.modes (mode_index classes.mode) false) (passes q.query.filter classes)

  -- the rows of the games of a player that the query takes are those of the games that it wants
  pub ranged : (front rest : List GameAt) (n : ℕ) → length front ≡ n
      → rows_of_numbers q key (front ++ rest) (numbers_where test n (map (λ g. g.classes) rest))
      ≡ rows_kept (opponent_rating q) key (is_wanted q) n rest
  unfolding numbers_where rows_kept
  ranged front [] n long = refl
  ranged front (game ∷ rest) n long =
      let all = front ++ game ∷ rest in
      let one = λ (number : ℕ). rows_of_game q key number (slice_get all number) in
      let more : List ℕ = numbers_where test (n + 1) (map (λ (g : GameAt). g.classes) rest) in
      let regrouped : (front ++ game ∷ []) ++ rest ≡ all = append_assoc front (game ∷ []) rest in
      let later : flat_map one more ≡ rows_kept (opponent_rating q) key (is_wanted q) (n + 1) rest =
      ap (λ l. rows_of_numbers q key l more) (sym regrouped)
      ∙ ranged (front ++ game ∷ []) rest (n + 1) (length_push front game ∙ ap (λ m. m + 1) long) in
      let here : slice_get all n ≡ Some game = ap (slice_get all) (sym long) ∙ get-between front game rest in
      let row = λ (b : Bool). rows_by (opponent_rating q) key b n game.classes game.visit in
      elim (test game.classes) as (λ b. test game.classes ≡ b
      → flat_map one (if b then n ∷ more else more) ≡ row (is_wanted q game.classes) ++ rows_kept (opponent_rating q) key (is_wanted q) (n + 1) rest) [
        | true ↦ λ e.
            (let same : is_taken q game.classes ≡ is_wanted q game.classes =
            ap (λ b. b && is_taken q game.classes) (sym e) ∙ sym (wanted-is game.classes) in
            λ k. (ap (rows_of_game q key n) here ∙ ap row same) k ++ later k)
        | false ↦ λ e.
            (let none : false ≡ is_wanted q game.classes = ap (λ b. b && is_taken q game.classes) (sym e) ∙ sym (wanted-is game.classes) in
            later ∙ ap (λ b. row b ++ rows_kept (opponent_rating q) key (is_wanted q) (n + 1) rest) none)
      ] refl
