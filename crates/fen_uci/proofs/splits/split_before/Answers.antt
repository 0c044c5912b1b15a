use Rattle.std.proofs.Common.{◌≡◌, ◌==◌, false}
use Rattle.std.proofs.lemmas.List.Elements.{All-more}
use Rattle.fen_uci.proofs.Splitting.{differs}
use Rattle.fen_uci.proofs.splits.split_before.Goals as goal

pub loop-place-preserved : goal.loop-place-preserved
loop-place-preserved c =
    All-more (λ b. (b == c.args.byte) ≡ false) c.args.text.now c.loop-place.place 0 c.loop-place-test.true c.loop-place.invariant
    (differs _ c.args.byte c.if-other-byte.false)
