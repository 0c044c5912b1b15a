use Rattle.std.proofs.Common.{arith}
use Rattle.legal_moves.proofs.Lists.{walked-none, walked-to, walked-destination, walked-next, walked-all}
use Rattle.legal_moves.proofs.generate.list_from.Goals as goal

pub loop-rest-init : goal.loop-rest-init
loop-rest-init c =
    walked-none c.args.position.now c.args.from.index c.destinations-all.result c.args.moves.now.items c.requires.before c.destinations-all.ensures

pub list_between-requires-clause-destination : goal.list_between-requires-clause-destination
list_between-requires-clause-destination c =
    walked-destination c.args.position.now c.args.from.index c.destinations-all.result c.loop-rest.rest c.lowest-index.result c.loop-rest.moves.items
    c.loop-rest.invariant c.lowest-index.ensures.on_board c.lowest-index.ensures.within c.destinations-all.ensures

pub list_between-requires-clause-before : goal.list_between-requires-clause-before
list_between-requires-clause-before c =
    walked-to c.args.position.now c.args.from.index c.destinations-all.result c.loop-rest.rest c.lowest-index.result c.loop-rest.moves.items c.loop-rest.invariant
    (c.loop-rest.invariant.above c.lowest-index.result c.lowest-index.ensures.on_board c.lowest-index.ensures.within)
    (omega (arith, c.lowest-index.ensures.on_board)) c.lowest-index.ensures.first

pub loop-rest-preserved : goal.loop-rest-preserved
loop-rest-preserved c =
    walked-next c.args.position.now c.args.from.index c.destinations-all.result c.loop-rest.rest c.without-rest.result c.lowest-index.result c.loop-rest.moves.items
    c.list_between.new.moves.items c.loop-rest.invariant c.lowest-index.ensures.on_board c.lowest-index.ensures.first c.lowest-index.ensures.within
    c.without-rest.ensures.others c.list_between.ensures

pub returns : goal.returns
returns c =
    walked-all c.args.position.now c.args.from.index c.destinations-all.result c.loop-rest.rest c.loop-rest.moves.items c.loop-rest.invariant c.loop-rest-test.false
