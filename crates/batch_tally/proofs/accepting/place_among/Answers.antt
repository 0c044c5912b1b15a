use Rattle.std.proofs.Common.{sym, ◌∙◌}
use Rattle.batch_tally.proofs.Verdicts.{word-at, id-passed}
use Rattle.batch_tally.proofs.accepting.place_among.Goals as goal

pub has_id-requires-clause-of : goal.has_id-requires-clause-of
has_id-requires-clause-of c =
    word-at c.args.words.now c.args.accepted.now c.loop-place.place _ c.index-accepted-place.result c.requires.words c.loop-place-test.true c.index-accepted-place.is

pub loop-place-preserved : goal.loop-place-preserved
loop-place-preserved c =
    id-passed c.args.game.now c.args.accepted.now c.loop-place.place c.index-accepted-place.result c.loop-place-test.true c.index-accepted-place.is
    (sym c.has_id.ensures ∙ c.if-has_id.false) c.loop-place.invariant
