-- Moves that are found of a player are legal.
use Rattle.std.proofs.Common.{ℕ, Bool, List, [], ◌∷◌, sym, subst}
use Rattle.std.specs.List.{AllByRecursion, AllZip}
use Rattle.explorer_model.specs.Chess.{IsValid, Legal}
use Rattle.explorer_model.specs.Counting.{first_moves}
use Rattle.explorer_model.specs.Players.{IsPlayerFound, IsPlayerLineOf, is_wanted}
use Rattle.explorer_model.specs.Visits.{AreGamesOf, GameAt, IsGameAt}
use Rattle.explorer_model.specs.declared.archive.Batch.{Batch}
use Rattle.explorer_model.specs.declared.archive.Classes.{Classes}
use Rattle.explorer_model.specs.declared.archive.Game.{Game}
use Rattle.explorer_model.specs.declared.chess.Move.{Move}
use Rattle.explorer_model.specs.declared.chess.Position.{Position}
use Rattle.explorer_model.specs.declared.player.PlayerFound.{PlayerFound}
use Rattle.explorer_model.specs.declared.player.PlayerLine.{PlayerLine}
use Rattle.explorer_model.specs.declared.player.PlayerQuery.{PlayerQuery}

-- what is known of the first moves of any games
abbrev pub FirstLegal : Type 0
FirstLegal = (at : Position) (journal : List Batch) (games : List Game) (games_at : List GameAt) (most : ℕ) (wanted : Classes → Bool)
    → IsValid at → AreGamesOf journal games → AllZip (IsGameAt at) games games_at → AllByRecursion (λ m. Legal at m) (first_moves most wanted games_at)

lines-legal : (q : PlayerQuery) (games : List GameAt) (moves : List Move) (lines : List PlayerLine) → AllZip (IsPlayerLineOf q games) moves lines
    → AllByRecursion (λ m. Legal q.query.at m) moves → AllByRecursion (λ line. Legal q.query.at line.next) lines
lines-legal q games [] [] zip each = tt
lines-legal q games [] (line ∷ lines) zip each = absurd zip
lines-legal q games (m ∷ moves) [] zip each = absurd zip
lines-legal q games (m ∷ moves) (line ∷ lines) zip each =
    let L : Move → Type 0 = λ n. Legal q.query.at n in
    (subst L (sym zip.0.next) each.0, lines-legal q games moves lines zip.1 each.1)

pub found-legal : FirstLegal → (journal : List Batch) (q : PlayerQuery) (found : PlayerFound) → IsValid q.query.at → IsPlayerFound journal q found
    → AllByRecursion (λ line. Legal q.query.at line.next) found.moves
found-legal first journal q found valid is =
    lines-legal q is.games_at (first_moves q.query.moves (is_wanted q) is.games_at) found.moves is.recount.moves
    (first q.query.at journal is.games is.games_at q.query.moves (is_wanted q) valid is.are_games is.are_games_at)
