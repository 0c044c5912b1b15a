use Rattle.std.proofs.Common.{◌∙◌, sym}
use Rattle.fen_uci.proofs.Ranks.{overfull}
use Rattle.fen_uci.proofs.placement.rank_squares.Goals as goal

pub returns-in_err-push_named : goal.returns-in_err-push_named
returns-in_err-push_named c =
    c.from_residual.ensures
    ∙ sym (overfull c.args.text.now c.loop-byte.rank.items c.loop-byte.byte-index c.loop-byte-test.true c.loop-byte.invariant c.in_err-push_named.ensures.none)
