use Rattle.best_lists.proofs.BestLaws.{best-append}
use Rattle.best_lists.proofs.laws.best_of_both.Goals as goal

pub returns : goal.returns
returns g c = best-append g.met.O.Ranking.is_order 4
