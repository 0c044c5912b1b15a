-- Statement: queries for a player's games as the code answers them.
use Rattle.std.specs.Prelude.{◌≡◌, ℕ, List, Result}
use Rattle.explorer_model.specs.declared.chess.Position.{Position}
use Rattle.explorer_model.specs.declared.fault.Stop.{Stop}
use Rattle.explorer_model.specs.declared.player.BadPlayerParameter.{BadPlayerParameter}
use Rattle.explorer_model.specs.declared.player.PlayerQuery.{PlayerQuery}
use Rattle.explorer_model.specs.declared.query.BadParameter.{BadParameter}
use Rattle.explorer_model.specs.declared.query.Parameter.TheVariants.{Fen, Play}
use Rattle.explorer_model.specs.Players.{player_query_by, PlayerQueryReads}
use Rattle.explorer_model.specs.Query.{Line, RootReads, LineReads, value_in}
use Rattle.explorer_model.specs.Stop.{Answers}

-- the query of decoded pairs, or the first parameter that is malformed
abbrev pub PlayerQueryIn : List (List ℕ × List ℕ) → Result PlayerQuery BadPlayerParameter → Type 0
PlayerQueryIn pairs query =
    (root : Result Position BadParameter) × (line : Result Line BadParameter)
    × RootReads (value_in Fen pairs) root
    × LineReads root (value_in Play pairs) line
    × (query ≡ player_query_by pairs root line)

-- the answer is the query of the text, or the first parameter that is malformed; want of memory is
-- free
abbrev pub GivesPlayerQuery : List ℕ → Result PlayerQuery (Stop BadPlayerParameter) → Type 0
GivesPlayerQuery text answer = Answers answer (PlayerQueryReads text)
