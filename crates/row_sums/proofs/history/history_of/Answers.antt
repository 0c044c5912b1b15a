use Rattle.std.proofs.Common.{map, rules}
use Rattle.std.proofs.lemmas.List.Sorted.{IsNonDecreasingBy-from_sort_by_key}
use Rattle.explorer_model.specs.Counting.{month_number}
use Rattle.row_sums.specs.Hits.{hit_as}
use Rattle.row_sums.proofs.SortedLines.{history-sorted}
use Rattle.row_sums.proofs.history.history_of.Goals as goal

pub returns : goal.returns
returns c =
    history-sorted (map hit_as c.args.hits.now) c.in_ok-lines.lines.items c.sort_unstable_by_key.new.self.items c.in_ok-lines.ensures
    c.sort_unstable_by_key.ensures.permutation
    (IsNonDecreasingBy-from_sort_by_key (λ line. month_number line.month) _ c.sort_unstable_by_key.ensures.sorted (λ a r q k. search rules))
