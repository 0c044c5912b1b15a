use Rattle.best_lists.proofs.BestLaws.{best-nil}
use Rattle.best_lists.proofs.best4.Best4.empty.Goals as goal

pub invariant_of-result : goal.invariant_of-result
invariant_of-result g c = rw c.new.ensures (best-nil _ 4)
