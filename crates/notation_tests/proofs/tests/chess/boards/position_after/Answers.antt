use Rattle.legal_moves.proofs.Lists.{listed_legal}
use Rattle.notation_tests.proofs.tests.chess.boards.position_after.Goals as goal

pub play-requires : goal.play-requires
play-requires c =
    listed_legal c.in_ok-board.board c.as_slice-m-items.result.now c.legal.result.items c.loop-m.m-index c.m-item.result c.legal.ensures.sound
    c.as_slice-m-items.ensures.value c.loop-m-test.true c.m-item.is
