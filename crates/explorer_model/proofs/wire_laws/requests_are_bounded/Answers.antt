use Rattle.explorer_model.proofs.Asking.{body-bounded, last-closes}
use Rattle.explorer_model.proofs.wire_laws.requests_are_bounded.Goals as goal

pub returns : goal.returns
returns c = record { body = body-bounded; last = last-closes }
