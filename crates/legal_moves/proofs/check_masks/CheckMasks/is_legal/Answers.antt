use Rattle.legal_moves.proofs.BitboardFacts.{both-ways}
use Rattle.legal_moves.proofs.CheckMaskLemmas.{steady_legal}
use Rattle.legal_moves.proofs.check_masks.CheckMasks.is_legal.Goals as goal

pub returns-then-is_steady : goal.returns-then-is_steady
returns-then-is_steady c =
    both-ways (both-ways c.contains.ensures (c.requires.masked.evasions c.args.m.to.index c.args.m.to.on_board))
    (steady_legal c.args.position.now c.args.self.now c.args.m c.requires.masked c.requires.pseudo_legal (c.is_steady.ensures c.if-is_steady.true))
