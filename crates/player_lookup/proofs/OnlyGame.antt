-- The only game of a move, by the rows of single games.
use Rattle.std.proofs.Common.{◌≡◌, ℕ, ◌+◌, Bool, true, false, cond, inl, List, [], ◌∷◌, ◌++◌, filter, map, Option, Some, None, option_map, refl, sym, ap, subst, ◌∙◌, zero-add, add-zero}
use Rattle.std.specs.List.{enumerate_from, filter_map, slice_get}
use Rattle.std.specs.Option.{option_to_list}
use Rattle.std.proofs.lemmas.List.{map-append}
use Rattle.std.proofs.lemmas.List.Concat.{flat_map-append}
use Rattle.std.proofs.lemmas.List.Elements.{filter-append}
use Rattle.std.proofs.lemmas.Option.{slice_get-map}
use Rattle.best_lists.specs.Entry.{moved_by}
use Rattle.best_lists.specs.declared.entry.Entry.{Entry}
use Rattle.explorer_model.specs.Counting.{game_of_move, game_with_move, game_with_move_by, games_with_move, is_same_move, listed, NumberedGame, ratings_of, the_only}
use Rattle.explorer_model.specs.Visits.{GameAt}
use Rattle.explorer_model.specs.declared.answer.Listed.{Listed}
use Rattle.explorer_model.specs.declared.archive.Classes.{Classes}
use Rattle.explorer_model.specs.declared.chess.Move.{Move}
use Rattle.player_lookup.specs.Kept.{rows_by, rows_kept}
use Rattle.player_lookup.proofs.KeptGames.{going-of}
use Rattle.player_lookup.proofs.Recounts.{filter_map-cons}
use Rattle.row_sums.specs.GroupSums.{shown_by}
use Rattle.row_sums.specs.Hits.{NumberedRow}
use Rattle.row_sums.specs.Listing.{listed_as, shown_game}
use Rattle.row_sums.specs.Sums.{entries_where, plays}
use Rattle.row_sums.proofs.ListedRows.{kept}
use Rattle.tally_rows.proofs.Members.{IsIn}
use Rattle.tally_rows.proofs.Moves.{is_same_move-is}
use Rattle.tally_rows.specs.Row.{row_of}

-- a game as a row lists it by its ratings
abbrev pub top_of : NumberedGame → Entry
top_of s = record { rank = ratings_of s.classes; number = s.number }

-- what is listed of a game by its number
pub listed-there : (games : List GameAt) (s : NumberedGame) (number : ℕ) → slice_get games number ≡ Some (record { classes = s.classes; visit = Some (Some s.next) })
    → listed_as (map (λ game. game.classes) games) s.next number ≡ Some (listed s)
listed-there games s number at =
    ap (option_map {U = Listed} (λ (c : Classes). record { next = s.next; classes = c }))
    (slice_get-map (λ (game : GameAt). game.classes) games number ∙ ap (option_map (λ (game : GameAt). game.classes)) at)

module _ (rated : Classes → ℕ) (key : List ℕ) (wanted : Classes → Bool) (m : Move) where
  abbrev of_move : NumberedGame → Bool
  of_move s = is_same_move m s.next

  one-listed : (number : ℕ) (classes : Classes) (next : Move) (t : Bool)
      → cond t (record { rank = ratings_of classes; number = number + 0 } ∷ []) [] ++ []
      ≡ map top_of (cond t (record { number = number; next = next; classes = classes } ∷ []) [])
  one-listed number classes next true = ap (λ n. record { rank = ratings_of classes; number = n } ∷ []) (add-zero number)
  one-listed number classes next false = refl

  one-top : (b : Bool) (number : ℕ) (classes : Classes) (visit : Option (Option Move))
      → entries_where (rows_by rated key b number classes visit) (plays m) (λ row. row.top)
      ≡ map top_of (filter of_move (option_to_list (game_with_move_by b number classes visit)))
  unfolding entries_where row_of
  one-top true number classes None = refl
  one-top true number classes (Some None) = refl
  one-top true number classes (Some (Some next)) = one-listed number classes next (is_same_move m next)
  one-top false number classes visit = refl

  tops-kept : (number : ℕ) (games : List GameAt)
      → entries_where (rows_kept rated key wanted number games) (plays m) (λ row. row.top)
      ≡ map top_of (filter of_move (filter_map (game_with_move wanted) (enumerate_from number games)))
  unfolding entries_where rows_kept
  tops-kept number [] = refl
  tops-kept number (game ∷ games) =
      let b = wanted game.classes in
      let head = option_to_list (game_with_move_by b number game.classes game.visit) in
      let rest = filter_map (game_with_move wanted) (enumerate_from (number + 1) games) in
      flat_map-append (λ (hit : NumberedRow). cond (plays m hit.row) (map (moved_by hit.first) hit.row.top) [])
      (rows_by rated key b number game.classes game.visit) (rows_kept rated key wanted (number + 1) games)
      ∙ (λ k. one-top b number game.classes game.visit k ++ tops-kept (number + 1) games k)
      ∙ sym (map-append top_of (filter of_move head) (filter of_move rest))
      ∙ ap (map top_of) (sym (filter-append of_move head rest))
      ∙ ap (λ l. map top_of (filter of_move l)) (sym (filter_map-cons (game_with_move wanted) (number, game) (enumerate_from (number + 1) games)))

  -- what is shown of a move is its only game
  module _ (games : List GameAt) where
    abbrev going : List NumberedGame
    going = filter_map (game_with_move wanted) (enumerate_from 0 games)

    one-shown : (s : NumberedGame) → IsIn s (filter of_move going) → listed_as (map (λ game. game.classes) games) m s.number ≡ Some (listed s)
    one-shown s is_in =
        let k = kept of_move going s is_in in
        let of = going-of wanted 0 games s k.is_in in
        let number : of.place ≡ s.number = sym (of.number ∙ zero-add of.place) in
        ap (λ n. listed_as (map (λ (game : GameAt). game.classes) games) n s.number) (is_same_move-is m s.next k.passes)
        ∙ listed-there games s s.number (ap (slice_get games) (sym number) ∙ of.at)

    shown-by : (found : List NumberedGame) → filter of_move going ≡ found
        → shown_game (map (λ game. game.classes) games) m (shown_by (map top_of found)) ≡ the_only found
    shown-by [] is = refl
    shown-by (s ∷ []) is = one-shown s (subst (IsIn s) (sym is) (inl refl))
    shown-by (s ∷ t ∷ found) is = refl

    pub only-kept : shown_game (map (λ game. game.classes) games) m
        (shown_by (entries_where (rows_kept rated key wanted 0 games) (plays m) (λ row. row.top)))
        ≡ game_of_move m wanted games
    unfolding games_with_move
    only-kept =
        ap (λ es. shown_game (map (λ (game : GameAt). game.classes) games) m (shown_by es)) (tops-kept 0 games)
        ∙ shown-by (filter of_move going) refl
