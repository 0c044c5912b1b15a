use Rattle.legal_moves.proofs.board.Board.evasions.Goals as goal

pub returns : goal.returns
returns c = rw (← c.self.view_is) c.evasions.ensures
