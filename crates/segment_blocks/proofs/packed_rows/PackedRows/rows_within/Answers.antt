use Rattle.std.proofs.Common.{filter, ap, ◌∙◌}
use Rattle.segment_blocks.specs.PackedRows.{Packed}
use Rattle.segment_blocks.specs.Walk.{is_within, from_bound, until_bound, rows_in}
use Rattle.segment_blocks.proofs.KeyLemmas.{Rise-from_sorted, within-filter}
use Rattle.segment_blocks.proofs.packed_rows.PackedRows.rows_within.Goals as goal

pub returns-clause-rows : goal.returns-clause-rows
returns-clause-rows g c =
    let from = c.args.from in
    let below = c.args.below in
    c.until_bound.ensures c.rows_behind.result
    ∙ ap (until_bound below) (c.rows_behind.ensures.rows ∙ ap (λ b. from_bound from (rows_in b)) c.as_slice.ensures.value)
    ∙ within-filter from below _ (Rise-from_sorted _ c.self.invariant.ordered)
    ∙ ap (λ (p : Packed). filter (is_within from below) p.rows) c.self.view_is
