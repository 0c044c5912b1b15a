use Rattle.std.proofs.Common.{◌≡◌, ◌-◌, ◌++◌, [], length, arith}
use Rattle.std.proofs.lemmas.Bool.Decides.{nat_tests}
use Rattle.explorer_model.specs.Best.{best}
use Rattle.best_lists.proofs.BestLaws.{best-best, best-nil, best-zero, taken-all}
use Rattle.best_lists.proofs.best4.Best4.join.Given.{Over}
use Rattle.best_lists.proofs.best4.Best4.join.Goals as goal
use Rattle.best_lists.proofs.best4.Best4.join.Goals.{else-loop-left-test, then-loop-left-test+in_default}

-- The loop ends where four are taken or nothing is left.
joined : (g : Over) (c : goal.Left-loop-left g) → c.loop-left.entries.items ≡ best g.O.Ranking.before 4 (c.args.self.now ++ c.args.other.now)
joined g c =
    let before = g.O.Ranking.before in
    let taken = c.loop-left.entries.items in
    let rest : best before (4 - length taken) (c.loop-left.left.now ++ c.loop-left.right.now) ≡ [] =
    elim c.loop-left-test.branch [
      | else-loop-left-test w ↦ (
          let full : length taken ≡ 4 = grind (arith, nat_tests) in
          rw full (best-zero before _))
      | then-loop-left-test+in_default w ↦ rw ((w.in_default.ensures).0, (w.in_default.ensures).1) (best-nil before _)
    ] in
    taken-all taken _ _ c.loop-left.invariant.best_of_both rest

pub invariant_of-result : goal.invariant_of-result
invariant_of-result g c = rw (joined g c) (best-best g.met.O.Ranking.is_order 4 _)

pub returns : goal.returns
returns g c = joined g c
