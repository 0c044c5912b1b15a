use Rattle.std.proofs.Common.{List, sym, subst, arith}
use Rattle.explorer_model.specs.declared.chess.Move.{Move}
use Rattle.legal_moves.proofs.Lists.{IsSwept, swept-none, swept-to, swept-next, swept-all, all-each, all-once, all-sound, lists-few}
use Rattle.legal_moves.proofs.generate.legal.Goals as goal

pub loop-rest-init : goal.loop-rest-init
loop-rest-init c =
    let P : List Move → Type 0 = λ moves. IsSwept c.args.position.now c.of-masks.result.info.own moves in
    subst P (sym c.new-moves.ensures) (swept-none c.args.position.now c.of-masks.result.info.own c.of-masks.ensures.informed.own)

pub list_from-requires-clause-own : goal.list_from-requires-clause-own
list_from-requires-clause-own c = c.loop-rest.invariant.own c.lowest-index.result c.lowest-index.ensures.on_board c.lowest-index.ensures.within

pub list_from-requires-clause-before : goal.list_from-requires-clause-before
list_from-requires-clause-before c =
    swept-to c.args.position.now c.loop-rest.rest c.lowest-index.result c.loop-rest.moves.items c.loop-rest.invariant
    (c.loop-rest.invariant.above c.lowest-index.result c.lowest-index.ensures.on_board c.lowest-index.ensures.within)
    (omega (arith, c.lowest-index.ensures.on_board)) c.lowest-index.ensures.first

pub loop-rest-preserved : goal.loop-rest-preserved
loop-rest-preserved c =
    swept-next c.args.position.now c.loop-rest.rest c.without-rest.result c.lowest-index.result c.loop-rest.moves.items c.list_from.new.moves.items
    c.loop-rest.invariant c.lowest-index.ensures.on_board c.lowest-index.ensures.first c.lowest-index.ensures.within
    c.without-rest.ensures.others c.list_from.ensures

pub returns-clause-each : goal.returns-clause-each
returns-clause-each c =
    all-each c.args.position.now 32768 c.loop-rest.moves.items (omega arith)
    (swept-all c.args.position.now c.loop-rest.rest c.loop-rest.moves.items c.loop-rest.invariant c.loop-rest-test.false)

pub returns-clause-once : goal.returns-clause-once
returns-clause-once c =
    all-once c.args.position.now 32768 c.loop-rest.moves.items
    (swept-all c.args.position.now c.loop-rest.rest c.loop-rest.moves.items c.loop-rest.invariant c.loop-rest-test.false)

pub returns-clause-sound : goal.returns-clause-sound
returns-clause-sound c =
    all-sound c.args.position.now 32768 c.loop-rest.moves.items
    (swept-all c.args.position.now c.loop-rest.rest c.loop-rest.moves.items c.loop-rest.invariant c.loop-rest-test.false)

pub returns-clause-few : goal.returns-clause-few
returns-clause-few c =
    lists-few c.args.position.now 32768 c.loop-rest.moves.items c.requires.valid
    (swept-all c.args.position.now c.loop-rest.rest c.loop-rest.moves.items c.loop-rest.invariant c.loop-rest-test.false)
