use Rattle.std.proofs.Common.{◌≡◌, ◌-◌, ◌≤◌, ◌++◌, length}
use Rattle.explorer_model.specs.Best.{best, IsBestFirst}
use Rattle.best_lists.proofs.best4.Best4.join.Given as goal

abbrev pub invariant-loop-left : goal.invariant-loop-left
invariant-loop-left g l =
    let before = g.O.Ranking.before in
    record {
      few : length l.entries.items ≤ 4;
      left_in_order : IsBestFirst before l.left;
      right_in_order : IsBestFirst before l.right;
      best_of_both : l.entries.items ++ best before (4 - length l.entries.items) (l.left ++ l.right)
          ≡ best before 4 (l.self ++ l.other);
    }

abbrev pub decreases-loop-left : goal.decreases-loop-left
decreases-loop-left g l = 4 - length l.entries.items
