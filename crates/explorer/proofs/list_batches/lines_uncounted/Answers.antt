use Rattle.std.specs.Arc.{arc_value}
use Rattle.explorer.proofs.ListLemmas.{segment_behind}
use Rattle.explorer.proofs.list_batches.lines_uncounted.Goals as goal

pub loop-segment-preserved : goal.loop-segment-preserved
loop-segment-preserved g c =
    let items = c.segments-segment-items in
    segment_behind arc_value items.result.now c.args.snapshot.now c.loop-segment.segment-index c.segment-item.result c.deref.result.now c.loop-segment.lines.items c.push_lines.new.lines.items items.ensures.segments
    items.ensures.covers.adjoin c.loop-segment-test.true c.segment-item.is c.deref.ensures c.loop-segment.invariant c.in_ok-push_lines.ensures
