-- Statement: where the games of a journal stand: the positions of their plies, and the first of
-- these that is the same as a given one.
use Rattle.std.specs.Prelude.{◌≡◌, ⊤, ℕ, ◌⊎◌, List, [], ◌∷◌, take, Option, Some, None, Ok}
use Rattle.std.specs.List.{AllZip, flat_map}
use Rattle.explorer_model.specs.declared.archive.Batch.{Batch}
use Rattle.explorer_model.specs.declared.archive.Classes.{Classes}
use Rattle.explorer_model.specs.declared.archive.Game.{Game}
use Rattle.explorer_model.specs.declared.chess.Move.{Move}
use Rattle.explorer_model.specs.declared.chess.Position.{Position}
use Rattle.explorer_model.specs.Chess.{after, Legal, Same}
use Rattle.explorer_model.specs.Games.{GameOf}

-- ---- the games of a journal

abbrev pub texts_of : List Batch → List (List ℕ)
texts_of journal = flat_map (λ batch. batch.texts) journal

-- the text is that of the game
abbrev pub IsTextOf : List ℕ → Game → Type 0
IsTextOf text game = GameOf text (Ok game)

-- the games of the journal's texts, in order; a game's number is its place here, from 0
abbrev pub AreGamesOf : List Batch → List Game → Type 0
AreGamesOf journal games = AllZip IsTextOf (texts_of journal) games

-- ---- the positions of a game

-- a position of a game, and the move that is played there, if one is
pub record Stage : Type 0 where
  pub position : Position
  pub next : Option Move

-- the position and those that the moves lead to
abbrev pub stages : Position → List Move → List Stage
stages p [] = record { position = p; next = None } ∷ []
stages p (m ∷ moves) = record { position = p; next = Some m } ∷ stages (after p m) moves

-- a game is looked for at its plies 0 to 50
abbrev pub stage_limit : ℕ
stage_limit = 51

abbrev pub counted_stages : Game → List Stage
counted_stages game = take stage_limit (stages game.root game.moves)

-- each move is legal in its turn
abbrev pub AreLegalFrom : Position → List Move → Type 0
AreLegalFrom p [] = ⊤
AreLegalFrom p (m ∷ moves) = Legal p m × AreLegalFrom (after p m) moves

-- the moves of a game are
abbrev pub AreLegal : Game → Type 0
AreLegal game = AreLegalFrom game.root game.moves

-- ---- visits

-- None: the position does not come. Some next: it comes, and next is played where it comes first,
-- if the game goes on there.
abbrev pub FirstVisit : Position → List Stage → Option (Option Move) → Type 0
FirstVisit at [] visit = visit ≡ None
FirstVisit at (stage ∷ stages) visit =
    (Same stage.position at × (visit ≡ Some stage.next))
    ⊎ ((¬ Same stage.position at) × FirstVisit at stages visit)

-- a game as it stands to a position
pub record GameAt : Type 0 where
  pub classes : Classes
  pub visit : Option (Option Move)

abbrev pub IsGameAt : Position → Game → GameAt → Type 0
IsGameAt at game seen =
    (seen.classes ≡ game.classes) × FirstVisit at (counted_stages game) seen.visit
