use Rattle.outside.proofs.DeterminedLemmas.{one_accept, one_taken_back}
use Rattle.outside.proofs.laws.doors_are_determined.Goals as goal

pub returns : goal.returns
returns c = record { accepts = one_accept; takes_back = one_taken_back }
