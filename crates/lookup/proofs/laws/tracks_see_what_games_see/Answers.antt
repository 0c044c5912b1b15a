use Rattle.lookup.proofs.Bridge.{sees}
use Rattle.lookup.proofs.laws.tracks_see_what_games_see.Goals as goal

pub returns : goal.returns
returns c = sees (record {
  keeps = c.legal_moves_keep_validity.ensures;
  decides = c.tidy_forms_decide_same.ensures;
  keys = c.equal_keys_mean_equal_positions.ensures;
  begins = c.games_begin_validly.ensures;
})
