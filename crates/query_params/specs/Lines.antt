-- Statement: positions, lines and queries as the code answers them.
use Rattle.std.specs.Prelude.{◌≡◌, ◌⊎◌, ℕ, true, List, ◌++◌, Result, Ok, Err}
use Rattle.std.specs.Result.{result_map_both}
use Rattle.explorer_model.specs.declared.chess.Move.{Move}
use Rattle.explorer_model.specs.declared.chess.Position.{Position}
use Rattle.explorer_model.specs.declared.fault.Stop.{Stop}
use Rattle.explorer_model.specs.declared.notation.FenFault.{FenFault}
use Rattle.explorer_model.specs.declared.query.BadParameter.{BadParameter}
use Rattle.explorer_model.specs.declared.query.Parameter.TheVariants.{Variant, Fen}
use Rattle.explorer_model.specs.declared.query.Query.{Query}
use Rattle.explorer_model.specs.Fen.{FenReads}
use Rattle.explorer_model.specs.Query.{Line, bad, MovesRead, QueryReads, asked, standard_only, query_from}
use Rattle.explorer_model.specs.Stop.{◌>>=◌, Answers}
use Rattle.query_params.specs.declared.position.Line as code

-- a text in FEN is this root, or is none
abbrev pub NamesRoot : List ℕ → Result Position BadParameter → Type 0
NamesRoot text root =
    ((p : Position) × FenReads text (Ok p) × (root ≡ Ok p))
    ⊎ ((fault : FenFault) × FenReads text (Err fault) × (root ≡ Err (bad Fen)))

-- the line of the code
abbrev pub line_as : Result code.Line BadParameter → Result Line BadParameter
line_as line =
    result_map_both (λ line. record { moves = line.moves; at = line.board }) (λ fault. fault) line

-- moves before those of the rest
abbrev pub onto_front : List Move → Result Line BadParameter → Result Line BadParameter
onto_front moves rest =
    result_map_both (λ line. record { moves = moves ++ line.moves; at = line.at })
    (λ fault. fault) rest

-- Moves were played from the root to the board: what the texts that are left give from the board completes what all of
-- them give from the root.
pub record Playing (root : Position) (texts : List (List ℕ)) (board : Position) (moves : List Move)
    (left : List (List ℕ)) : Type 0 where
  pub completes : (rest : Result Line BadParameter) → MovesRead board left rest
      → MovesRead root texts (onto_front moves rest)

-- the query of a position and a line, where all parameters are well-formed, or the first that is not
abbrev pub query_by : List (List ℕ × List ℕ) → Result Position BadParameter
    → Result Line BadParameter → Result Query BadParameter
query_by pairs root line =
    asked standard_only true Variant pairs >>= λ standard.
    root >>= λ p. line >>= λ l. query_from pairs p l

-- the answer is the query of the text, or the first parameter that is malformed; want of memory is free
abbrev pub GivesQuery : List ℕ → Result Query (Stop BadParameter) → Type 0
GivesQuery text answer = Answers answer (QueryReads text)
