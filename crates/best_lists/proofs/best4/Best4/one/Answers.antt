use Rattle.best_lists.proofs.BestLaws.{best-one}
use Rattle.best_lists.proofs.best4.Best4.one.Goals as goal

pub invariant_of-result : goal.invariant_of-result
invariant_of-result g c = rw (c.push.ensures.items, c.new-entries.ensures) (best-one _ 3 _)
