use Rattle.std.proofs.Common.{◌≡◌}
use Rattle.std.specs.List.{items_where_true}
use Rattle.tally_rows.specs.Grid.{plus, total}
use Rattle.tally_rows.proofs.grid.line_sum.Given as goal

abbrev pub invariant-loop-cell : goal.invariant-loop-cell
invariant-loop-cell l =
    plus l.sum (total (items_where_true l.cell-iterator.b.rest.now l.cell-iterator.a.rest.now)) ≡ total (items_where_true l.groups l.line)
