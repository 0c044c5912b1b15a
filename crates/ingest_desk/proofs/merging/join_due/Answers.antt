use Rattle.std.proofs.Common.{◌<◌, ◌+◌, List, map, length, refl, ap, ◌∙◌, subst, arith}
use Rattle.std.proofs.lemmas.List.{length-map}
use Rattle.std.specs.Arc.{arc_value}
use Rattle.segment_blocks.specs.Segment.{CountedSpan, IsSegment}
use Rattle.ingest_desk.specs.Picking.{IsLastDue}
use Rattle.ingest_desk.proofs.PickingLemmas.{CanMerge, joined_list, less_length, picked}
use Rattle.ingest_desk.proofs.merging.join_due.Goals as goal

pub merge-requires-clause-spans : goal.merge-requires-clause-spans
merge-requires-clause-spans g c κs within =
    let all = c.args.segments.now.items in
    let list : List CountedSpan = map arc_value all in
    let at = c.in-Some.at in
    let x = c.index-left.result.now in
    let y = c.index-right.result.now in
    let due : IsLastDue list at = rw c.deref.ensures.value at c.in-Some.ensures in
    let left : IsSegment (arc_value x) = subst IsSegment c.deref-2.ensures c.span-left.ensures.segment in
    let right : IsSegment (arc_value y) = subst IsSegment c.deref-3.ensures c.span-right.ensures.segment in
    rw (c.deref-4.ensures, c.deref-5.ensures)
    (picked arc_value all at x y list refl c.requires.list c.requires.within due
    c.index-left.ensures c.index-right.ensures left right).join

pub remove-requires : goal.remove-requires
remove-requires g c =
    let all = c.args.segments.now.items in
    let list : List CountedSpan = map arc_value all in
    let at = c.in-Some.at in
    let x = c.index-left.result.now in
    let y = c.index-right.result.now in
    let due : IsLastDue list at = rw c.deref.ensures.value at c.in-Some.ensures in
    let left : IsSegment (arc_value x) = subst IsSegment c.deref-2.ensures c.span-left.ensures.segment in
    let right : IsSegment (arc_value y) = subst IsSegment c.deref-3.ensures c.span-right.ensures.segment in
    let can = picked arc_value all at x y list refl c.requires.list c.requires.within due
    c.index-left.ensures c.index-right.ensures left right in
    omega (arith, can.inside, length-map all arc_value, c.args.segments.now.ok.0)

pub index_mut-requires : goal.index_mut-requires
index_mut-requires g c =
    let all = c.args.segments.now.items in
    let list : List CountedSpan = map arc_value all in
    let at = c.in-Some.at in
    let x = c.index-left.result.now in
    let y = c.index-right.result.now in
    let due : IsLastDue list at = rw c.deref.ensures.value at c.in-Some.ensures in
    let left : IsSegment (arc_value x) = subst IsSegment c.deref-2.ensures c.span-left.ensures.segment in
    let right : IsSegment (arc_value y) = subst IsSegment c.deref-3.ensures c.span-right.ensures.segment in
    let can : CanMerge list at (arc_value x) (arc_value y) =
    picked arc_value all at x y list refl c.requires.list c.requires.within due
    c.index-left.ensures c.index-right.ensures left right in
    let inside : at + 1 < length all = omega (arith, can.inside, length-map all arc_value) in
    omega (
      arith,
      less_length all c.remove.new.self.items at inside c.remove.ensures.by_index.2,
      c.remove.new.self.ok.0,
    )

pub returns-clause-list : goal.returns-clause-list
returns-clause-list g c =
    let all = c.args.segments.now.items in
    let list : List CountedSpan = map arc_value all in
    let at = c.in-Some.at in
    let x = c.index-left.result.now in
    let y = c.index-right.result.now in
    let due : IsLastDue list at = rw c.deref.ensures.value at c.in-Some.ensures in
    let left : IsSegment (arc_value x) = subst IsSegment c.deref-2.ensures c.span-left.ensures.segment in
    let right : IsSegment (arc_value y) = subst IsSegment c.deref-3.ensures c.span-right.ensures.segment in
    let can : CanMerge list at (arc_value x) (arc_value y) =
    picked arc_value all at x y list refl c.requires.list c.requires.within due
    c.index-left.ensures c.index-right.ensures left right in
    let sides = rw (c.deref-4.ensures, c.deref-5.ensures) at c.in_ok-merged.ensures.span in
    let shared = c.in_ok-shared.shared in
    let span = ap (λ (t : CountedSpan). t.span) c.in_ok-shared.ensures.ok ∙ sides in
    (joined_list arc_value all c.remove.new.self.items at shared (arc_value x) (arc_value y)
    c.requires.list can span c.remove.ensures.by_index.2).0

pub returns-clause-journal : goal.returns-clause-journal
returns-clause-journal g c =
    let all = c.args.segments.now.items in
    let list : List CountedSpan = map arc_value all in
    let at = c.in-Some.at in
    let x = c.index-left.result.now in
    let y = c.index-right.result.now in
    let due : IsLastDue list at = rw c.deref.ensures.value at c.in-Some.ensures in
    let left : IsSegment (arc_value x) = subst IsSegment c.deref-2.ensures c.span-left.ensures.segment in
    let right : IsSegment (arc_value y) = subst IsSegment c.deref-3.ensures c.span-right.ensures.segment in
    let can : CanMerge list at (arc_value x) (arc_value y) =
    picked arc_value all at x y list refl c.requires.list c.requires.within due
    c.index-left.ensures c.index-right.ensures left right in
    let sides = rw (c.deref-4.ensures, c.deref-5.ensures) at c.in_ok-merged.ensures.span in
    let shared = c.in_ok-shared.shared in
    let span = ap (λ (t : CountedSpan). t.span) c.in_ok-shared.ensures.ok ∙ sides in
    (joined_list arc_value all c.remove.new.self.items at shared (arc_value x) (arc_value y)
    c.requires.list can span c.remove.ensures.by_index.2).1
