use Rattle.lookup.proofs.Bridge.{follows-legally}
use Rattle.lookup.proofs.laws.tracks_tell_legal_moves.Goals as goal

pub returns : goal.returns
returns c = follows-legally (record {
  keeps = c.legal_moves_keep_validity.ensures;
  decides = c.tidy_forms_decide_same.ensures;
  keys = c.equal_keys_mean_equal_positions.ensures;
  begins = c.games_begin_validly.ensures;
}) c.same_positions_have_the_same_moves.ensures
