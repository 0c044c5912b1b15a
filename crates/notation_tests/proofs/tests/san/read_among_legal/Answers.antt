use Rattle.legal_moves.proofs.Lists.{lists-same}
use Rattle.notation_tests.proofs.tests.san.read_among_legal.Goals as goal

pub read-requires-clause-each : goal.read-requires-clause-each
read-requires-clause-each c =
    lists-same c.args.board.now c.position.result c.legal.result.items c.as_slice.result.now
    c.position.ensures.same c.as_slice.ensures.value c.legal.ensures.each
