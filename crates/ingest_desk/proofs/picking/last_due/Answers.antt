use Rattle.std.proofs.Common.{◌≡◌, ◌<◌, ◌+◌, ◌-◌, List, map, length, subst, arith}
use Rattle.std.specs.Arc.{arc_value}
use Rattle.segment_blocks.specs.Segment.{CountedSpan}
use Rattle.ingest_desk.proofs.PickingLemmas.{AreSteepFrom, at_items, has_none_due, none_due, not_due, steep_more}
use Rattle.ingest_desk.proofs.picking.last_due.Goals as goal

pub returns-then-are_due : goal.returns-then-are_due
returns-then-are_due c =
    let l = c.loop-at in
    let all = c.args.segments.now in
    let list : List CountedSpan = map arc_value all in
    let inside : l.at - 1 + 1 < length all = omega (arith, l.invariant.within, c.loop-at-test.true) in
    let next : l.at ≡ l.at - 1 + 1 = omega (arith, c.loop-at-test.true) in
    record {
      left = c.deref.result.now;
      right = c.deref-in-loop-at.result.now;
      stand = rw (c.deref.ensures, c.deref-in-loop-at.ensures)
          (at_items arc_value all (l.at - 1) c.index-segments-at.result c.index-segments-at-in-loop-at.result
          inside c.index-segments-at.is c.index-segments-at-in-loop-at.is);
      due = c.are_due.ensures.due.0 c.if-are_due.true;
      last = none_due (l.at - 1 + 1) list (subst (λ n. AreSteepFrom n list) next l.invariant.steep);
    }

pub loop-at-preserved : goal.loop-at-preserved
loop-at-preserved c =
    let l = c.loop-at in
    let all = c.args.segments.now in
    let list : List CountedSpan = map arc_value all in
    let left = c.deref.result.now in
    let right = c.deref-in-loop-at.result.now in
    let inside : l.at - 1 + 1 < length all = omega (arith, l.invariant.within, c.loop-at-test.true) in
    let next : l.at ≡ l.at - 1 + 1 = omega (arith, c.loop-at-test.true) in
    record {
      within = omega (arith, l.invariant.within);
      steep = steep_more (l.at - 1) list left right
          (rw (c.deref.ensures, c.deref-in-loop-at.ensures)
          (at_items arc_value all (l.at - 1) c.index-segments-at.result c.index-segments-at-in-loop-at.result
          inside c.index-segments-at.is c.index-segments-at-in-loop-at.is))
          (record {
            left_is = c.are_due.ensures.left;
            right_is = c.are_due.ensures.right;
            more = not_due (length left.classes) (length right.classes) c.are_due.result
                c.are_due.ensures.due.1 c.if-are_due.false;
          })
          (subst (λ n. AreSteepFrom n list) next l.invariant.steep);
    }

pub returns : goal.returns
returns c =
    let l = c.loop-at in
    let list : List CountedSpan = map arc_value c.args.segments.now in
    let none : l.at ≡ 0 = omega (arith, c.loop-at-test.false) in
    has_none_due list (subst (λ n. AreSteepFrom n list) none l.invariant.steep) c.requires
