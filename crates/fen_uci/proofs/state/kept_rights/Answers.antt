use Rattle.fen_uci.proofs.Positions.{keeps_all}
use Rattle.fen_uci.proofs.state.kept_rights.Goals as goal

pub returns : goal.returns
returns c = keeps_all c.args.squares.now c.args.named _ _ _ _ c.keeps.ensures c.keeps-2.ensures c.keeps-3.ensures c.keeps-4.ensures
