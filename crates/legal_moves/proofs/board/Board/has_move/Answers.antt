use Rattle.legal_moves.proofs.board.Board.has_move.Goals as goal

pub returns : goal.returns
returns c = rw (← c.self.view_is) c.has_move.ensures
