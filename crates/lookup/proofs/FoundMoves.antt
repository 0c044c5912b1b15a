-- The moves that are found are legal in the position that is asked for.
use Rattle.std.proofs.Common.{◌≡◌, ℕ, zero, suc, ◌+◌, Bool, true, false, if◌then◌else◌, List, [], ◌∷◌, map, Option, Some, None, refl, sym, subst}
use Rattle.std.specs.List.{AllByRecursion, AllZip, cons_option, enumerate_from, filter_map}
use Rattle.explorer_model.specs.Best.{best, best_one, better, others, worse}
use Rattle.explorer_model.specs.Counting.{NumberedGame, first_moves, game_with_move, game_with_move_by, games_with_move, moves_played, passes}
use Rattle.explorer_model.specs.Finds.{IsFound, IsLineOf}
use Rattle.explorer_model.specs.declared.answer.Found.{Found}
use Rattle.explorer_model.specs.declared.answer.MoveLine.{MoveLine}
use Rattle.explorer_model.specs.declared.archive.Batch.{Batch}
use Rattle.explorer_model.specs.declared.archive.Classes.{Classes}
use Rattle.explorer_model.specs.declared.archive.Game.{Game}
use Rattle.explorer_model.specs.declared.chess.Move.{Move}
use Rattle.explorer_model.specs.declared.chess.Position.{Position}
use Rattle.explorer_model.specs.declared.query.Query.{Query}
use Rattle.explorer_model.specs.Chess.{IsValid, Legal, Same}
use Rattle.explorer_model.specs.Visits.{AreGamesOf, FirstVisit, GameAt, IsGameAt, IsTextOf, counted_stages, stage_limit, texts_of}
use Rattle.explorer_model.proofs.LegalGames.{game-legal}
use Rattle.lookup.proofs.Bridge.{Laws, visit-legal}
use Rattle.row_sums.proofs.RowNexts.{distinct-have}

-- ---- what holds of each value of a list holds of its best

module _ {X : Type 0} (before : X → X → Bool) (P : X → Type 0) where
  better-has : (x y : X) → P x → P y → P (better before x y)
  better-has x y first second = elim (before y x) as (λ b. P (if b then y else x)) [ true ↦ second | false ↦ first ]

  worse-has : (x y : X) → P x → P y → P (worse before x y)
  worse-has x y first second = elim (before y x) as (λ b. P (if b then x else y)) [ true ↦ first | false ↦ second ]

  best_one-has : (x : X) (ys : List X) → P x → AllByRecursion P ys → P (best_one before x ys)
  unfolding best_one
  best_one-has x [] first each = first
  best_one-has x (y ∷ ys) first each = best_one-has (better before x y) ys (better-has x y first each.0) each.1

  others-have : (x : X) (ys : List X) → P x → AllByRecursion P ys → AllByRecursion P (others before x ys)
  unfolding others
  others-have x [] first each = tt
  others-have x (y ∷ ys) first each = (worse-has x y first each.0, others-have (better before x y) ys (better-has x y first each.0) each.1)

  best-have : (n : ℕ) (xs : List X) → AllByRecursion P xs → AllByRecursion P (best before n xs)
  unfolding best
  best-have zero xs each = tt
  best-have (suc n) [] each = tt
  best-have (suc n) (x ∷ xs) each = (best_one-has x xs each.0 each.1, best-have n (others before x xs) (others-have x xs each.0 each.1))

-- ---- the moves of games, where each game goes on legally

module _ (at : Position) where
  -- what follows where the game first comes to the position is legal there
  abbrev GoesOnLegally : GameAt → Type 0
  GoesOnLegally seen = (next : Move) → seen.visit ≡ Some (Some next) → Legal at next

  abbrev HasLegalNext : NumberedGame → Type 0
  HasLegalNext game = Legal at game.next

  game-legally : (wanted : Bool) (number : ℕ) (classes : Classes) (visit : Option (Option Move)) (games : List NumberedGame)
      → ((next : Move) → visit ≡ Some (Some next) → Legal at next) → AllByRecursion HasLegalNext games
      → AllByRecursion HasLegalNext (cons_option (game_with_move_by wanted number classes visit) games)
  game-legally true number classes (Some (Some next)) games goes rest = (goes next refl, rest)
  game-legally true number classes (Some None) games goes rest = rest
  game-legally true number classes None games goes rest = rest
  game-legally false number classes visit games goes rest = rest

  games-legally : (wanted : Classes → Bool) (number : ℕ) (games : List GameAt) → AllByRecursion GoesOnLegally games
      → AllByRecursion HasLegalNext (filter_map (game_with_move wanted) (enumerate_from number games))
  games-legally wanted number [] each = tt
  games-legally wanted number (game ∷ games) each =
      game-legally (wanted game.classes) number game.classes game.visit (filter_map (game_with_move wanted) (enumerate_from (number + 1) games)) each.0
      (games-legally wanted (number + 1) games each.1)

  nexts-legal : (games : List NumberedGame) → AllByRecursion HasLegalNext games → AllByRecursion (λ m. Legal at m) (map (λ s. s.next) games)
  nexts-legal [] each = tt
  nexts-legal (game ∷ games) each = (each.0, nexts-legal games each.1)

  moves-legally : (most : ℕ) (wanted : Classes → Bool) (games : List GameAt) → AllByRecursion GoesOnLegally games
      → AllByRecursion (λ m. Legal at m) (first_moves most wanted games)
  unfolding moves_played games_with_move
  moves-legally most wanted games each =
      best-have _ (λ m. Legal at m) most (moves_played wanted games)
      (distinct-have (λ m. Legal at m) (map (λ s. s.next) (games_with_move wanted games))
      (nexts-legal (games_with_move wanted games) (games-legally wanted 0 games each)))

  -- ---- games go on legally

  module _ (laws : Laws) (same : (p q : Position) (m : Move) → IsValid p → IsValid q → Same p q → Legal p m → Legal q m) (valid : IsValid at) where
    seen-legally : (texts : List (List ℕ)) (games : List Game) (games_at : List GameAt) → AllZip IsTextOf texts games → AllZip (IsGameAt at) games games_at
        → AllByRecursion GoesOnLegally games_at
    seen-legally [] [] [] of seen = tt
    seen-legally [] [] (s ∷ games_at) of seen = absurd seen
    seen-legally [] (g ∷ games) games_at of seen = absurd of
    seen-legally (x ∷ texts) [] games_at of seen = absurd of
    seen-legally (x ∷ texts) (g ∷ games) [] of seen = absurd seen
    seen-legally (x ∷ texts) (g ∷ games) (s ∷ games_at) of seen =
        let V : Option (Option Move) → Type 0 = λ v. FirstVisit at (counted_stages g) v in (
          λ next is. visit-legal laws same at valid next stage_limit g.root g.moves (laws.begins x g of.0) (game-legal x g of.0) (subst V is seen.0.1),
          seen-legally texts games games_at of.1 seen.1,
        )

    pub first-legal : (journal : List Batch) (games : List Game) (games_at : List GameAt) (most : ℕ) (wanted : Classes → Bool)
        → AreGamesOf journal games → AllZip (IsGameAt at) games games_at → AllByRecursion (λ m. Legal at m) (first_moves most wanted games_at)
    first-legal journal games games_at most wanted of seen = moves-legally most wanted games_at (seen-legally (texts_of journal) games games_at of seen)

-- ---- the moves of an answer

lines-legal : (query : Query) (games : List GameAt) (moves : List Move) (lines : List MoveLine) → AllZip (IsLineOf query games) moves lines
    → AllByRecursion (λ m. Legal query.at m) moves → AllByRecursion (λ line. Legal query.at line.next) lines
lines-legal query games [] [] zip each = tt
lines-legal query games [] (line ∷ lines) zip each = absurd zip
lines-legal query games (m ∷ moves) [] zip each = absurd zip
lines-legal query games (m ∷ moves) (line ∷ lines) zip each =
    let L : Move → Type 0 = λ n. Legal query.at n in
    (subst L (sym zip.0.next) each.0, lines-legal query games moves lines zip.1 each.1)

pub found-legal : Laws → ((p q : Position) (m : Move) → IsValid p → IsValid q → Same p q → Legal p m → Legal q m)
    → (journal : List Batch) (query : Query) (found : Found) → IsValid query.at → IsFound journal query found
    → AllByRecursion (λ line. Legal query.at line.next) found.moves
found-legal laws same journal query found valid is =
    let games_at = is.answer.games_at in
    lines-legal query games_at (first_moves query.moves (passes query.filter) games_at) found.moves is.answer.recount.moves
    (first-legal query.at laws same valid journal is.games games_at query.moves (passes query.filter) is.are_games is.answer.are_games_at)
