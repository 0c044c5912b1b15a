use Rattle.legal_moves.proofs.board.Board.castling.Goals as goal

pub returns-clause-some : goal.returns-clause-some
returns-clause-some c = rw (← c.self.view_is) c.castling.ensures.some

pub returns-clause-only : goal.returns-clause-only
returns-clause-only c = rw (← c.self.view_is) c.castling.ensures.only
