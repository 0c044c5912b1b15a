use Rattle.std.proofs.Common.{sym, ap, ◌∙◌}
use Rattle.legal_moves.proofs.Writes.{moved, plain_writes, arriving-plain}
use Rattle.legal_moves.proofs.play.move_pieces.Goals as goal

pub returns-then-is_plain-clause-squares : goal.returns-then-is_plain-clause-squares
returns-then-is_plain-clause-squares c =
    let plain = c.is_plain.ensures c.if-is_plain.true in
    c.carry.ensures.squares
    ∙ ap (moved c.args.position.now.squares c.args.m.from.index c.args.m.to.index) (sym (arriving-plain _ c.args.m.promotion plain.2))
    ∙ plain_writes c.args.position.now c.args.m c.requires.valid.board plain.0 plain.1
