use Rattle.query_params.proofs.Determined.{player_query_determined}
use Rattle.query_params.proofs.laws.player_query_is_determined.Goals as goal

pub returns : goal.returns
returns c = player_query_determined (record { fen = c.fen_is_determined.ensures; uci = c.uci_is_determined.ensures })
