use Rattle.legal_moves.proofs.PinsDecide.{pins-decide}
use Rattle.legal_moves.proofs.laws.pins_decide.Goals as goal

pub returns : goal.returns
returns c p m valid pseudo_legal other plain = pins-decide p m valid pseudo_legal other plain
