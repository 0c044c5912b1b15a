use Rattle.std.proofs.Common.{◌≡◌, ◌<◌, ◌+◌, ◌-◌, List, map, length, sym, ◌∙◌, subst, arith}
use Rattle.std.specs.Arc.{arc_value}
use Rattle.segment_blocks.specs.Segment.{CountedSpan}
use Rattle.published_index.specs.Cover.{journal_of}
use Rattle.ingest_desk.specs.Picking.{AreAt}
use Rattle.ingest_desk.proofs.IdLemmas.{false_true}
use Rattle.ingest_desk.proofs.JobLemmas.{both_stand}
use Rattle.ingest_desk.proofs.PickingLemmas.{AreNotFrom, at_items, not_from_more}
use Rattle.ingest_desk.proofs.picking.place_of.Goals as goal

pub have_spans_of-requires-clause-left : goal.have_spans_of-requires-clause-left
have_spans_of-requires-clause-left c =
    let l = c.loop-at in
    let all = c.args.segments.now in
    let list : List CountedSpan = map arc_value all in
    let x = c.deref.result.now in
    let y = c.deref-in-loop-at.result.now in
    let inside : l.at - 1 + 1 < length all = omega (arith, l.invariant.within, c.loop-at-test.true) in
    let here : AreAt list (l.at - 1) x y = rw (c.deref.ensures, c.deref-in-loop-at.ensures)
    (at_items arc_value all (l.at - 1) c.index-segments-at.result c.index-segments-at-in-loop-at.result
    inside c.index-segments-at.is c.index-segments-at-in-loop-at.is) in
    record {
      journal = journal_of list;
      one_stands = (both_stand list (l.at - 1) x y c.requires.list here).0;
      other_stands = c.requires.left;
    }

pub have_spans_of-requires-clause-right : goal.have_spans_of-requires-clause-right
have_spans_of-requires-clause-right c =
    let l = c.loop-at in
    let all = c.args.segments.now in
    let list : List CountedSpan = map arc_value all in
    let x = c.deref.result.now in
    let y = c.deref-in-loop-at.result.now in
    let inside : l.at - 1 + 1 < length all = omega (arith, l.invariant.within, c.loop-at-test.true) in
    let here : AreAt list (l.at - 1) x y = rw (c.deref.ensures, c.deref-in-loop-at.ensures)
    (at_items arc_value all (l.at - 1) c.index-segments-at.result c.index-segments-at-in-loop-at.result
    inside c.index-segments-at.is c.index-segments-at-in-loop-at.is) in
    record {
      journal = journal_of list;
      one_stands = (both_stand list (l.at - 1) x y c.requires.list here).1;
      other_stands = c.requires.right;
    }

pub loop-at-preserved : goal.loop-at-preserved
loop-at-preserved c =
    let l = c.loop-at in
    let all = c.args.segments.now in
    let list : List CountedSpan = map arc_value all in
    let x = c.deref.result.now in
    let y = c.deref-in-loop-at.result.now in
    let left = c.args.left.now.span in
    let right = c.args.right.now.span in
    let inside : l.at - 1 + 1 < length all = omega (arith, l.invariant.within, c.loop-at-test.true) in
    let next : l.at ≡ l.at - 1 + 1 = omega (arith, c.loop-at-test.true) in
    record {
      within = omega (arith, l.invariant.within);
      none = not_from_more (l.at - 1) list x y left right
          (rw (c.deref.ensures, c.deref-in-loop-at.ensures)
          (at_items arc_value all (l.at - 1) c.index-segments-at.result c.index-segments-at-in-loop-at.result
          inside c.index-segments-at.is c.index-segments-at-in-loop-at.is))
          (λ have. false_true (sym c.if-have_spans_of.false ∙ c.have_spans_of.ensures.1 have))
          (subst (λ n. AreNotFrom n list left right) next l.invariant.none);
    }
