use Rattle.lookup.proofs.FoundMoves.{first-legal, found-legal}
use Rattle.lookup.proofs.laws.found_moves_are_legal.Goals as goal

pub returns-clause-first : goal.returns-clause-first
returns-clause-first c = λ at journal games games_at most wanted valid.
    first-legal at (record {
      keeps = c.legal_moves_keep_validity.ensures;
      decides = c.tidy_forms_decide_same.ensures;
      keys = c.equal_keys_mean_equal_positions.ensures;
      begins = c.games_begin_validly.ensures;
    }) c.same_positions_have_the_same_moves.ensures valid journal games games_at most wanted

pub returns-clause-found : goal.returns-clause-found
returns-clause-found c = found-legal (record {
  keeps = c.legal_moves_keep_validity.ensures;
  decides = c.tidy_forms_decide_same.ensures;
  keys = c.equal_keys_mean_equal_positions.ensures;
  begins = c.games_begin_validly.ensures;
}) c.same_positions_have_the_same_moves.ensures
