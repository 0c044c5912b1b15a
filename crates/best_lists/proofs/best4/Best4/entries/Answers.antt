use Rattle.std.proofs.Common.{◌≡◌, subst}
use Rattle.explorer_model.specs.Best.{best, IsBestFirst}
use Rattle.best_lists.proofs.BestLaws.{IsBestFirst-best}
use Rattle.best_lists.proofs.best4.Best4.entries.Goals as goal

pub returns-clause-best_first : goal.returns-clause-best_first
returns-clause-best_first g c =
    let before = g.O.Ranking.before in
    let own_best : best before 4 c.args.self.now ≡ c.args.self.now = rw c.self.view_is at c.self.invariant in
    subst (IsBestFirst before) own_best (IsBestFirst-best g.met.O.Ranking.is_order 4 c.args.self.now)
