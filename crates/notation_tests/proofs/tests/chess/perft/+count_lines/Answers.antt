use Rattle.legal_moves.proofs.Lists.{listed_legal}
use Rattle.notation_tests.proofs.tests.chess.perft.+count_lines.Goals as goal

pub play-requires : goal.play-requires
play-requires t c =
    listed_legal c.args.board.now c.as_slice-m-items.result.now c.legal-moves.result.items c.loop-m.m-index c.m-item.result c.legal-moves.ensures.sound
    c.as_slice-m-items.ensures.value c.loop-m-test.true c.m-item.is
