use Rattle.std.proofs.Common.{map, rules, ◌∙◌}
use Rattle.std.proofs.lemmas.Fn.{always_returns_same}
use Rattle.row_sums.specs.Hits.{hit_as}
use Rattle.row_sums.specs.MoveSums.{before_as_sum}
use Rattle.row_sums.proofs.SortedLines.{sums-sorted, sum-order}
use Rattle.row_sums.proofs.moves.first_moves.Goals as goal

pub returns : goal.returns
returns c =
    c.truncate.ensures.items
    ∙ sums-sorted (map hit_as c.args.hits.now) c.args.most c.in_ok-sums.sums.items c.sort_unstable_by.new.self.items c.in_ok-sums.ensures
    c.sort_unstable_by.ensures.permutation
    (c.sort_unstable_by.ensures.sorted before_as_sum sum-order (always_returns_same _ _ _ (λ a r q k. search rules)))
