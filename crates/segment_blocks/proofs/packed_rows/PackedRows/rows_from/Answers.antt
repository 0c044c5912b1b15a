use Rattle.std.proofs.Common.{filter, not, ap, ◌∙◌}
use Rattle.segment_blocks.specs.PackedRows.{Packed}
use Rattle.segment_blocks.specs.Walk.{is_below, from_key, rows_in}
use Rattle.segment_blocks.proofs.KeyLemmas.{Rise-from_sorted, from_key-filter}
use Rattle.segment_blocks.proofs.packed_rows.PackedRows.rows_from.Goals as goal

pub returns-clause-rows : goal.returns-clause-rows
returns-clause-rows g c =
    let key = c.args.key.now in
    let all = ap rows_in c.as_slice.ensures.value in
    c.seek.ensures.rows ∙ ap (from_key key) all ∙ from_key-filter key _ (Rise-from_sorted _ c.self.invariant.ordered)
    ∙ ap (λ (p : Packed). filter (λ r. not (is_below key r)) p.rows) c.self.view_is
