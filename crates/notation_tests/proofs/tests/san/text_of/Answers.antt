use Rattle.std.proofs.Common.{refl}
use Rattle.legal_moves.proofs.Lists.{listed_legal, lists-same}
use Rattle.notation_tests.proofs.tests.san.text_of.Goals as goal

pub write_legal-requires-clause-each : goal.write_legal-requires-clause-each
write_legal-requires-clause-each c =
    lists-same c.args.board.now c.args.board.now c.legal-legal.result.items c.as_slice.result.now refl c.as_slice.ensures.value c.legal-legal.ensures.each

pub write_legal-requires-clause-legal : goal.write_legal-requires-clause-legal
write_legal-requires-clause-legal c =
    listed_legal c.args.board.now c.as_slice-m-items.result.now c.legal-legal.result.items c.loop-m.m-index c.m-item.result c.legal-legal.ensures.sound
    c.as_slice-m-items.ensures.value c.loop-m-test.true c.m-item.is
