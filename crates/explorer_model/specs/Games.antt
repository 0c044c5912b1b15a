-- Statement: the game of a text: its classes, the position that it begins in, and its moves played
-- from there; or the first of its faults.
use Rattle.std.specs.Prelude.{◌≡◌, ℕ, ◌+◌, Bool, true, false, List, [], ◌∷◌, length, nat_le, Option, Some, None, Result, Ok, Err, ok_or, ◌⊎◌}
use Rattle.std.specs.Result.{result_map_both}
use Rattle.explorer_model.specs.declared.archive.Classes.{Classes}
use Rattle.explorer_model.specs.declared.archive.Ending.{Ending}
use Rattle.explorer_model.specs.declared.archive.Ending.TheVariants as endings
use Rattle.explorer_model.specs.declared.archive.Game.{Game}
use Rattle.explorer_model.specs.declared.archive.Outcome.{Outcome}
use Rattle.explorer_model.specs.declared.archive.Outcome.TheVariants as outcomes
use Rattle.explorer_model.specs.declared.archive.Parts.{Parts}
use Rattle.explorer_model.specs.declared.archive.Token.{Token}
use Rattle.explorer_model.specs.declared.chess.Move.{Move}
use Rattle.explorer_model.specs.declared.chess.Position.{Position}
use Rattle.explorer_model.specs.declared.fault.GameFault.{GameFault}
use Rattle.explorer_model.specs.declared.fault.GameFault.TheVariants as faults
use Rattle.explorer_model.specs.declared.fault.SanFault.{SanFault}
use Rattle.explorer_model.specs.declared.fault.SanFault.TheVariants as san
use Rattle.explorer_model.specs.declared.notation.FenFault.{FenFault}
use Rattle.explorer_model.specs.Chess.{start, after}
use Rattle.explorer_model.specs.Classes.{classes, demand, start_text}
use Rattle.explorer_model.specs.Fen.{FenReads}
use Rattle.explorer_model.specs.Parts.{parts}
use Rattle.explorer_model.specs.San.{SanReads}
use Rattle.explorer_model.specs.Stop.{◌>>=◌}

-- ---- the text as a whole

-- the marker that says what the tag Result says
abbrev pub ends_with : Outcome → Ending → Bool
ends_with outcomes.White endings.WhiteWins = true
ends_with outcomes.Black endings.BlackWins = true
ends_with outcomes.Draw endings.Drawn = true
ends_with _ _ = false

-- the most moves of a game
abbrev pub ply_limit : ℕ
ply_limit = 1024

-- a text with what its tags say
pub record Tagged : Type 0 where
  pub parts : Parts
  pub classes : Classes

-- the faults of the layout and of the tags, in their order
unfoldable pub tagged : List ℕ → Result Tagged GameFault
tagged text = do
  parts ← result_map_both (λ parts. parts) (λ fault. faults.Lex fault.place) (parts text)
  classes ← result_map_both (λ classes. classes) faults.Tag (classes parts.tags)
  Ok (record { parts = parts; classes = classes })

-- the position that a text of FEN sets up; without a text the starting position
abbrev pub RootReads : Option (List ℕ) → Result Position GameFault → Type 0
RootReads None root = root ≡ Ok start
RootReads (Some text) root =
    ((p : Position) × FenReads text (Ok p) × (root ≡ Ok p))
    ⊎ ((fault : FenFault) × FenReads text (Err fault)
    × (root ≡ Err (faults.BadSetUp fault.field)))

-- a game before its moves are played
pub record Score : Type 0 where
  pub classes : Classes
  pub root : Position
  pub tokens : List Token

-- the other faults that do not ask what the moves are, in their order
unfoldable pub score : Tagged → Position → Result Score GameFault
score tagged root = do
  ending ← ok_or tagged.parts.termination faults.NoTermination
  _ ← demand (ends_with tagged.classes.outcome ending) faults.ResultDiffers
  _ ← demand (nat_le (length tagged.parts.tokens) ply_limit) faults.TooManyPlies
  Ok (record { classes = tagged.classes; root = root; tokens = tagged.parts.tokens })

abbrev pub ScoreOfTagged : Result Tagged GameFault → Result Score GameFault → Type 0
ScoreOfTagged (Err fault) scored = scored ≡ Err fault
ScoreOfTagged (Ok tagged) scored =
    (root : Result Position GameFault) × RootReads (start_text tagged.parts.tags) root
    × (scored ≡ (root >>= λ p. score tagged p))

-- the text's game before its moves are played, or the first fault that does not ask what they are
abbrev pub ScoreOf : List ℕ → Result Score GameFault → Type 0
ScoreOf text scored = ScoreOfTagged (tagged text) scored

-- ---- the moves

-- why the token at a place is no move, at that ply
abbrev pub move_fault : SanFault → ℕ → ℕ → GameFault
move_fault san.NotSan ply place = faults.NotSan ply place
move_fault san.NoSuchMove ply place = faults.Illegal ply place
move_fault san.Ambiguous ply place = faults.Ambiguous ply place

-- one move before those of the rest
abbrev pub onto_moves : Move → Result (List Move) GameFault → Result (List Move) GameFault
onto_moves m rest = result_map_both (λ moves. m ∷ moves) (λ fault. fault) rest

-- the tokens are played in the position, the first at a ply: these are their moves, or the fault of
-- the first that is none
abbrev pub Plays : Position → ℕ → List Token → Result (List Move) GameFault → Type 0
Plays p ply [] played = played ≡ Ok []
Plays p ply (token ∷ tokens) played =
    ((m : Move) × (rest : Result (List Move) GameFault) × SanReads p token.text (Ok m)
    × Plays (after p m) (ply + 1) tokens rest × (played ≡ onto_moves m rest))
    ⊎ ((fault : SanFault) × SanReads p token.text (Err fault)
    × (played ≡ Err (move_fault fault ply token.place)))

-- ---- the game

abbrev pub GameOfScore : Result Score GameFault → Result Game GameFault → Type 0
GameOfScore (Err fault) game = game ≡ Err fault
GameOfScore (Ok score) game =
    (played : Result (List Move) GameFault) × Plays score.root 1 score.tokens played
    × (game ≡ result_map_both
    (λ moves. record { classes = score.classes; root = score.root; moves = moves })
    (λ fault. fault) played)

-- the text's game, or its first fault
abbrev pub GameOf : List ℕ → Result Game GameFault → Type 0
GameOf text game =
    (scored : Result Score GameFault) × ScoreOf text scored × GameOfScore scored game
