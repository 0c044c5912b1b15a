use Rattle.explorer_model.proofs.LabelLemmas.{empty-is-label}
use Rattle.explorer_model.proofs.label.Label.none.Goals as goal

pub invariant_of-result : goal.invariant_of-result
invariant_of-result c = empty-is-label c.new.result.bytes c.new.ensures
