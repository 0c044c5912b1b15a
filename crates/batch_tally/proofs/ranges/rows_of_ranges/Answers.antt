use Rattle.std.proofs.Common.{◌<◌, List, length, slice_index_or, ap, subst, arith}
use Rattle.std.proofs.lemmas.Result.{IfOk-weaker}
use Rattle.tally_rows.specs.declared.key_range.KeyRange.{KeyRange}
use Rattle.batch_tally.specs.Singles.{AreRowsIn}
use Rattle.batch_tally.proofs.ranges.rows_of_ranges.Goals as goal

pub returns-clause-results : goal.returns-clause-results
returns-clause-results g c = λ n d r below.
    let games = c.args.games.now in
    let lent = c.as_slice-ranges.result.now in
    let same = c.as_slice-ranges.ensures.value in
    let within : n < length lent = omega (arith, below, ap length same) in
    IfOk-weaker (slice_index_or c.in_ok-results.results.items n d) (λ rows. (r : KeyRange) → AreRowsIn games (slice_index_or lent n r) rows.items) (λ rows. AreRowsIn games (slice_index_or c.args.ranges.items n r) rows.items)
    (λ rows are. subst (λ (l : List KeyRange). AreRowsIn games (slice_index_or l n r) rows.items) same (are r))
    (c.in_ok-results.ensures.each n d within).1.met
