use Rattle.legal_moves.proofs.board.Board.checked.Goals as goal

pub returns : goal.returns
returns c = rw (← c.self.view_is) c.in_check.ensures
