use Rattle.explorer_model.specs.Wire.{request_limit}
use Rattle.explorer_model.proofs.Asking.{asked-once}
use Rattle.explorer_model.proofs.wire_laws.asked_is_determined.Goals as goal

pub returns : goal.returns
returns c = asked-once request_limit
