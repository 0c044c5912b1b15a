use Rattle.std.proofs.Common.{◌≡◌, map, filter, ap, subst, sym, ◌∙◌}
use Rattle.tally_rows.specs.Row.{shifted_row}
use Rattle.segment_blocks.specs.PackedRows.{AreInOrder}
use Rattle.segment_blocks.specs.Walk.{is_within}
use Rattle.segment_merge.specs.Ranges.{rows_in_range}
use Rattle.segment_merge.specs.Room.{HasRoom}
use Rattle.segment_merge.proofs.MergedLemmas.{in_order-shifted}
use Rattle.segment_merge.proofs.RangeLemmas.{All-filter, in_order-filter}
use Rattle.segment_merge.proofs.RoomLemmas.{room}
use Rattle.segment_merge.proofs.ranges.side_within.Goals as goal

pub new-requires : goal.new-requires
new-requires g c =
    let segment = c.args.segment.now in
    rw c.rows_within-walk.ensures.rows
    (All-filter (HasRoom c.args.by) (is_within _ _) segment.rows (room segment c.span-span.ensures.segment c.args.by c.requires))

pub returns : goal.returns
returns g c =
    let segment = c.args.segment.now in
    let by = c.args.by in
    let kept = rows_in_range c.args.keys.now c.args.n segment.rows in
    let within : c.rows_within-walk.result ≡ kept =
    c.rows_within-walk.ensures.rows ∙ (λ i. filter (is_within (c.begin_of.ensures i) (c.end_of.ensures i)) segment.rows) in
    let rows : c.new.result ≡ map (shifted_row by) kept = c.new.ensures ∙ ap (map (shifted_row by)) within in
    record {
      rows = rows;
      in_order = subst AreInOrder (sym rows) (in_order-shifted by kept (in_order-filter (is_within _ _) segment.rows c.span-span.ensures.segment.tally.tallied.ordered));
    }
