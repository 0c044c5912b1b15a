use Rattle.std.proofs.Common.{◌∙◌, ap, Some, List, ℕ}
use Rattle.explorer_model.proofs.NameLemmas.{name-text, name-other}
use Rattle.explorer_model.proofs.bytes.utf8_of.Goals as goal

pub returns-in-Ok : goal.returns-in-Ok
returns-in-Ok c = ap (λ (s : List ℕ). Some s) c.in-Ok.ensures.cases.0 ∙ name-text c.args.bytes.now c.in-Ok.ensures.cases.1

pub returns-in-Err : goal.returns-in-Err
returns-in-Err c = name-other c.args.bytes.now c.in-Err.ensures.cases.0
