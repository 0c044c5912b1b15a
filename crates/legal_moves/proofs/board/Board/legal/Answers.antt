use Rattle.legal_moves.proofs.board.Board.legal.Goals as goal

pub returns-clause-each : goal.returns-clause-each
returns-clause-each c = rw (← c.self.view_is) c.legal.ensures.each

pub returns-clause-sound : goal.returns-clause-sound
returns-clause-sound c = rw (← c.self.view_is) c.legal.ensures.sound
