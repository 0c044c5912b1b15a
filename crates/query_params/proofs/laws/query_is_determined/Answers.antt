use Rattle.query_params.proofs.Determined.{query_determined}
use Rattle.query_params.proofs.laws.query_is_determined.Goals as goal

pub returns : goal.returns
returns c = query_determined (record { fen = c.fen_is_determined.ensures; uci = c.uci_is_determined.ensures })
