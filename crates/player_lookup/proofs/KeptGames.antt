-- Rows of single games: of which game each of them is.
use Rattle.std.proofs.Common.{◌≡◌, ℕ, suc, ◌+◌, ◌<◌, ◌≤◌, ◌^◌, Bool, true, false, cond, inl, inr, List, [], ◌∷◌, length, Option, Some, None, refl, sym, ap, subst, ◌∙◌, arith, add-zero}
use Rattle.std.specs.List.{All, AllByRecursion, cons_option, enumerate_from, filter_map, slice_get, sum_by}
use Rattle.std.proofs.lemmas.List.Elements.{All-cons, All-nil}
use Rattle.std.proofs.lemmas.List.Sums.{sum_by-append, sum_by-cons}
use Rattle.std.proofs.lemmas.Option.{slice_get_within}
use Rattle.best_lists.specs.declared.entry.Entry.{Entry}
use Rattle.explorer_model.specs.Counting.{game_with_move, game_with_move_by, NumberedGame}
use Rattle.explorer_model.specs.Visits.{GameAt}
use Rattle.explorer_model.specs.declared.archive.Classes.{Classes}
use Rattle.explorer_model.specs.declared.archive.Outcome.{Outcome}
use Rattle.explorer_model.specs.declared.archive.Outcome.TheVariants as outcomes
use Rattle.explorer_model.specs.declared.chess.Move.{Move}
use Rattle.player_lookup.specs.Kept.{row_kept, rows_by, rows_kept}
use Rattle.player_lookup.proofs.Finding.{get-IsIn}
use Rattle.row_sums.specs.Hits.{AreSound, IsSound, NumberedRow, games_of}
use Rattle.row_sums.proofs.ListedRows.{in-either}
use Rattle.tally_rows.proofs.Members.{IsIn, All-from_IsIn, recursion-IsIn}
use Rattle.tally_rows.specs.Row.{is_black, is_draw, is_white, row_of}

-- the game of a row
pub record IsRowOf (rated : Classes → ℕ) (key : List ℕ) (first : ℕ) (games : List GameAt) (hit : NumberedRow) : Type 0 where
  pub place : ℕ
  pub classes : Classes
  pub next : Option Move
  pub at : slice_get games place ≡ Some (record { classes = classes; visit = Some next })
  pub is : hit ≡ row_kept rated key (first + place) classes next

module _ (rated : Classes → ℕ) (key : List ℕ) (wanted : Classes → Bool) where
  -- ---- rows

  row-later : (first : ℕ) (game : GameAt) (games : List GameAt) (hit : NumberedRow) → IsRowOf rated key (first + 1) games hit → IsRowOf rated key first (game ∷ games) hit
  row-later first game games hit later =
      let n : first + 1 + later.place ≡ first + suc later.place = omega arith in
      record {
        place = suc later.place;
        classes = later.classes;
        next = later.next;
        at = later.at;
        is = later.is ∙ ap (λ k. row_kept rated key k later.classes later.next) n;
      }

  row-here : (first : ℕ) (games : List GameAt) (classes : Classes) (visit : Option (Option Move)) (hit : NumberedRow) (b : Bool)
      → IsIn hit (rows_by rated key b first classes visit) → IsRowOf rated key first (record { classes = classes; visit = visit } ∷ games) hit
  row-here first games classes (Some next) hit true (inl is) =
      record { place = 0; classes = classes; next = next; at = refl; is = is ∙ ap (λ k. row_kept rated key k classes next) (sym (add-zero first)) }
  row-here first games classes (Some next) hit true (inr m) = absurd m
  row-here first games classes None hit true m = absurd m
  row-here first games classes visit hit false m = absurd m

  pub row-of : (first : ℕ) (games : List GameAt) (hit : NumberedRow) → IsIn hit (rows_kept rated key wanted first games) → IsRowOf rated key first games hit
  unfolding rows_kept
  row-of first [] hit m = absurd m
  row-of first (game ∷ games) hit m =
      elim (in-either (rows_by rated key (wanted game.classes) first game.classes game.visit) (rows_kept rated key wanted (first + 1) games) hit m) [
        | inl here ↦ row-here first games game.classes game.visit hit (wanted game.classes) here
        | inr later ↦ row-later first game games hit (row-of (first + 1) games hit later)
      ]

  -- ---- rows are sound

  one-game : (o : Outcome) → cond {A = ℕ} (is_white o) 1 0 + cond {A = ℕ} (is_draw o) 1 0 + cond {A = ℕ} (is_black o) 1 0 ≡ 1
  one-game outcomes.White = refl
  one-game outcomes.Draw = refl
  one-game outcomes.Black = refl

  games-one : (number : ℕ) (classes : Classes) (next : Option Move) → games_of (row_kept rated key number classes next).row ≡ 1
  unfolding row_of
  games-one number classes next = one-game classes.outcome

  ratings-low : (number : ℕ) (classes : Classes) (next : Option Move) → rated classes ≤ 65535 → (row_kept rated key number classes next).row.ratings ≤ 65535
  unfolding row_of
  ratings-low number classes None low = omega arith
  ratings-low number classes (Some next) low = low

  top-low : (number : ℕ) (classes : Classes) (next : Option Move) → number < 2 ^ 32
      → All (λ entry. entry.number + 0 < 2 ^ 32) (row_kept rated key number classes next).row.top
  unfolding row_of
  top-low number classes None low = All-nil (λ (entry : Entry). entry.number + 0 < 2 ^ 32)
  top-low number classes (Some next) low =
      All-cons (λ (entry : Entry). entry.number + 0 < 2 ^ 32) _ [] (omega (arith, low)) (All-nil (λ (entry : Entry). entry.number + 0 < 2 ^ 32))

  recent-low : (number : ℕ) (classes : Classes) (next : Option Move) → number < 2 ^ 32
      → All (λ entry. entry.number + 0 < 2 ^ 32) (row_kept rated key number classes next).row.recent
  unfolding row_of
  recent-low number classes None low = All-nil (λ (entry : Entry). entry.number + 0 < 2 ^ 32)
  recent-low number classes (Some next) low =
      All-cons (λ (entry : Entry). entry.number + 0 < 2 ^ 32) _ [] (omega (arith, low)) (All-nil (λ (entry : Entry). entry.number + 0 < 2 ^ 32))

  row-sound : (number : ℕ) (classes : Classes) (next : Option Move) → number < 2 ^ 32 → rated classes ≤ 65535 → IsSound (row_kept rated key number classes next)
  row-sound number classes next low rating = record {
    some = omega (arith, games-one number classes next);
    ratings = omega (arith, games-one number classes next, ratings-low number classes next rating);
    top = top-low number classes next low;
    recent = recent-low number classes next low;
  }

  few-by : (number : ℕ) (classes : Classes) (visit : Option (Option Move)) (b : Bool) → sum_by (λ hit. games_of hit.row) (rows_by rated key b number classes visit) ≤ 1
  few-by number classes (Some next) true =
      omega (arith, sum_by-cons (λ (hit : NumberedRow). games_of hit.row) (row_kept rated key number classes next) [], games-one number classes next)
  few-by number classes None true = omega arith
  few-by number classes visit false = omega arith

  few-games : (first : ℕ) (games : List GameAt) → sum_by (λ hit. games_of hit.row) (rows_kept rated key wanted first games) ≤ length games
  unfolding rows_kept
  few-games first [] = omega arith
  few-games first (game ∷ games) =
      let f = λ (hit : NumberedRow). games_of hit.row in
      let here = few-by first game.classes game.visit (wanted game.classes) in
      let later = few-games (first + 1) games in
      omega (
        arith,
        here,
        later,
        sum_by-append f (rows_by rated key (wanted game.classes) first game.classes game.visit) (rows_kept rated key wanted (first + 1) games),
      )

  -- where no rating is too great, and the games are not too many
  pub kept-sound : (games : List GameAt) → AllByRecursion (λ game. rated game.classes ≤ 65535) games → length games ≤ 16777216
      → AreSound (rows_kept rated key wanted 0 games)
  kept-sound games low few = record {
    each = All-from_IsIn IsSound (rows_kept rated key wanted 0 games) (λ hit m.
        (let of = row-of 0 games hit m in
        let game : GameAt = record { classes = of.classes; visit = Some of.next } in
        let within = slice_get_within games of.place game of.at in
        subst IsSound (sym of.is)
        (row-sound (0 + of.place) of.classes of.next (omega (arith, within, few))
        (recursion-IsIn (λ (g : GameAt). rated g.classes ≤ 65535) games low game (get-IsIn games of.place game of.at)))));
    few = omega (arith, few-games 0 games, few);
  }

-- ---- games that go on

-- a game that visits and goes on
pub record IsGoing (first : ℕ) (games : List GameAt) (s : NumberedGame) : Type 0 where
  pub place : ℕ
  pub number : s.number ≡ first + place
  pub at : slice_get games place ≡ Some (record { classes = s.classes; visit = Some (Some s.next) })

module _ (wanted : Classes → Bool) where
  going-later : (first : ℕ) (game : GameAt) (games : List GameAt) (s : NumberedGame) → IsGoing (first + 1) games s → IsGoing first (game ∷ games) s
  going-later first game games s later = record { place = suc later.place; number = omega (arith, later.number); at = later.at }

  going-here : (first : ℕ) (classes : Classes) (visit : Option (Option Move)) (games : List GameAt) (s : NumberedGame) (b : Bool) (rest : List NumberedGame)
      → (IsIn s rest → IsGoing (first + 1) games s) → IsIn s (cons_option (game_with_move_by b first classes visit) rest)
      → IsGoing first (record { classes = classes; visit = visit } ∷ games) s
  going-here first classes (Some (Some next)) games s true rest later (inl is) = record {
    place = 0;
    number = ap (λ g. g.number) is ∙ sym (add-zero first);
    at = (λ k. Some (record { classes = (sym is k).classes; visit = Some (Some (sym is k).next) }));
  }
  going-here first classes (Some (Some next)) games s true rest later (inr m) = going-later first _ games s (later m)
  going-here first classes (Some None) games s true rest later m = going-later first _ games s (later m)
  going-here first classes None games s true rest later m = going-later first _ games s (later m)
  going-here first classes visit games s false rest later m = going-later first _ games s (later m)

  pub going-of : (first : ℕ) (games : List GameAt) (s : NumberedGame) → IsIn s (filter_map (game_with_move wanted) (enumerate_from first games)) → IsGoing first games s
  going-of first [] s m = absurd m
  going-of first (game ∷ games) s m =
      going-here first game.classes game.visit games s (wanted game.classes) (filter_map (game_with_move wanted) (enumerate_from (first + 1) games))
      (going-of (first + 1) games s) m
