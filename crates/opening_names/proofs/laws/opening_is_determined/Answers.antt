use Rattle.opening_names.proofs.Determined.{one-opening}
use Rattle.opening_names.proofs.laws.opening_is_determined.Goals as goal

pub returns : goal.returns
returns c = one-opening
