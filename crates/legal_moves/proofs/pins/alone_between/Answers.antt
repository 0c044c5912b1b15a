use Rattle.legal_moves.specs.Pins.{IsAlone}
use Rattle.legal_moves.proofs.BitboardFacts.{joined-more}
use Rattle.legal_moves.proofs.PinLemmas.{alone_says}
use Rattle.legal_moves.proofs.pins.alone_between.Goals as goal

pub loop-rest-preserved : goal.loop-rest-preserved
loop-rest-preserved c =
    joined-more c.args.sliders c.loop-rest.rest c.loop-rest.found c.lowest-slider.result c.single-found.result c.without-rest.result
    (λ a s. IsAlone c.args.occupied a s c.args.square) c.loop-rest.invariant c.lowest-slider.ensures.on_board c.lowest-slider.ensures.within
    (λ s on. alone_says c.single-found.result c.between-passed.result c.args.occupied c.lowest-slider.result c.args.square s on
    (c.single-found.ensures s on) c.between-passed.ensures)
    c.without-rest.ensures.others
