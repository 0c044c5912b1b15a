use Rattle.legal_moves.proofs.BitboardFacts.{scanned-more}
use Rattle.legal_moves.proofs.Lists.{none-false}
use Rattle.legal_moves.proofs.enemy_sets.is_one_clear.Goals as goal

pub loop-rest-preserved : goal.loop-rest-preserved
loop-rest-preserved c =
    scanned-more c.args.sliders c.loop-rest.rest c.args.occupied c.args.square c.lowest-slider.result c.without-rest.result c.loop-rest.invariant
    (none-false c.is_clear.result _ c.is_clear.ensures c.if-is_clear.false) c.without-rest.ensures.others
