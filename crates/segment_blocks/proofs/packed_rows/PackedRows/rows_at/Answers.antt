use Rattle.std.proofs.Common.{filter, ap, ◌∙◌}
use Rattle.segment_blocks.specs.PackedRows.{Packed}
use Rattle.segment_blocks.specs.Walk.{at_key, has_key, from_key, rows_in}
use Rattle.segment_blocks.proofs.KeyLemmas.{Rise-from_sorted, at-filter}
use Rattle.segment_blocks.proofs.packed_rows.PackedRows.rows_at.Goals as goal

pub returns-clause-rows : goal.returns-clause-rows
returns-clause-rows g c =
    let key = c.args.key.now in
    let all = ap rows_in c.as_slice.ensures.value in
    ap (at_key key) (c.seek.ensures.rows ∙ ap (from_key key) all) ∙ at-filter key _ (Rise-from_sorted _ c.self.invariant.ordered)
    ∙ ap (λ (p : Packed). filter (has_key key) p.rows) c.self.view_is
