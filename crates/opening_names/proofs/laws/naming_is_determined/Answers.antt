use Rattle.opening_names.proofs.Determined.{one-naming}
use Rattle.opening_names.proofs.laws.naming_is_determined.Goals as goal

pub returns : goal.returns
returns c = one-naming
