-- Statement: what replaying answers: a game, or the first fault. Want of memory is free.
use Rattle.std.specs.Prelude.{◌≡◌, ℕ, ◌+◌, ◌++◌, List, map, drop, Result, Ok, Err}
use Rattle.std.specs.Result.{result_map_both}
use Rattle.explorer_model.specs.declared.archive.Game.{Game}
use Rattle.explorer_model.specs.declared.archive.Token.{Token}
use Rattle.explorer_model.specs.declared.chess.Move.{Move}
use Rattle.explorer_model.specs.declared.chess.Position.{Position}
use Rattle.explorer_model.specs.declared.fault.GameFault.{GameFault}
use Rattle.explorer_model.specs.declared.fault.Stop.{Stop}
use Rattle.explorer_model.specs.declared.fault.Stop.TheVariants as stops
use Rattle.explorer_model.specs.Games as games
use Rattle.explorer_model.specs.Stop.{Answers}
use Rattle.pgn_lex.specs.Span.{token_in}
use Rattle.pgn_lex.specs.Spanned.{spanned_as}
use Rattle.game_replay.specs.declared.score.Scored.{Scored}
use Rattle.game_replay.specs.declared.tagged.TaggedText.{TaggedText}

-- the answer is the text's game, or its first fault
abbrev pub GivesGame : List ℕ → Result Game (Stop GameFault) → Type 0
GivesGame text answer = Answers answer (games.GameOf text)

-- the answer is the moves of the tokens, played from the root, or the fault of the first that is no move
abbrev pub GivesMoves : Position → List Token → Result (List Move) (Stop GameFault) → Type 0
GivesMoves root tokens answer = Answers answer (games.Plays root 1 tokens)

-- the code's reading of a text's tags
abbrev pub tagged_as : List ℕ → TaggedText → games.Tagged
tagged_as text tagged =
    record { parts = spanned_as text tagged.spanned; classes = tagged.classes }

-- the code's score of a text
abbrev pub score_as : List ℕ → Scored → games.Score
score_as text scored = record {
  classes = scored.classes;
  root = scored.root;
  tokens = map (token_in text) scored.spans.items;
}

-- the answer is the text's score, or its first fault that does not ask what the moves are
abbrev pub GivesScore : List ℕ → Result Scored (Stop GameFault) → Type 0
GivesScore text (Ok scored) = games.ScoreOf text (Ok (score_as text scored))
GivesScore text (Err (stops.Fault fault)) = games.ScoreOf text (Err fault)
GivesScore text (Err stops.OutOfMemory) = Unit {0}

-- moves before those of the rest
abbrev pub onto_front : List Move → Result (List Move) GameFault → Result (List Move) GameFault
onto_front moves rest = result_map_both (λ more. moves ++ more) (λ fault. fault) rest

-- The tokens before index are played: what the tokens from there on give from the board, at this ply, completes what
-- all of them give from the root.
pub record Playing (root : Position) (tokens : List Token) (board : Position) (moves : List Move)
    (ply index : ℕ) : Type 0 where
  pub counted : ply ≡ index + 1
  pub completes : (rest : Result (List Move) GameFault)
      → games.Plays board ply (drop index tokens) rest
      → games.Plays root 1 tokens (onto_front moves rest)
