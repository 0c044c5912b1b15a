use Rattle.tally_rows.proofs.Turns.{turn_of-key}
use Rattle.tally_rows.proofs.laws.keys_tell_the_turn.Goals as goal

pub returns : goal.returns
returns c = turn_of-key
