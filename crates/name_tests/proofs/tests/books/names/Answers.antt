use Rattle.name_tests.proofs.tests.books.names.Goals as goal

pub naming-requires-clause-plays : goal.naming-requires-clause-plays
naming-requires-clause-plays c = c.queries_play_legal_moves.ensures.legal c.as_bytes-2.result.now c.in_ok-query.query c.in_ok-query.ensures.reads

pub naming-requires-clause-at : goal.naming-requires-clause-at
naming-requires-clause-at c = c.queries_play_legal_moves.ensures.ends c.as_bytes-2.result.now c.in_ok-query.query c.in_ok-query.ensures.reads

pub naming-requires-clause-moves : goal.naming-requires-clause-moves
naming-requires-clause-moves c = rw c.of_valid-board.ensures at c.in_ok-found.ensures
