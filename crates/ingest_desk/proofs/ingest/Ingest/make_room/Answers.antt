use Rattle.std.proofs.Common.{◌≡◌, ◌≤◌, ◌+◌, List, None, map, length, sym, ap, ◌∙◌, subst, arith}
use Rattle.std.proofs.lemmas.List.{length-map}
use Rattle.std.proofs.lemmas.Option.{slice_get_within}
use Rattle.std.specs.Arc.{arc_value}
use Rattle.explorer_model.specs.Journal.{game_count, game_limit}
use Rattle.segment_blocks.specs.Segment.{CountedSpan, IsSegment}
use Rattle.segment_merge.specs.Merging.{IsMergeOf}
use Rattle.published_index.specs.Changes.{JoinAt, with_change}
use Rattle.published_index.specs.Cover.{journal_of, list_limit}
use Rattle.ingest_desk.specs.Listing.{MakesRoom}
use Rattle.ingest_desk.proofs.KeptLemmas.{kept_index, listed, made}
use Rattle.ingest_desk.proofs.ListingLemmas.{room_by_join}
use Rattle.ingest_desk.proofs.PickingLemmas.{joined_length, may_replace, picked}
use Rattle.ingest_desk.proofs.ingest.Ingest.make_room.Goals as goal

pub merge-requires-clause-spans : goal.merge-requires-clause-spans
merge-requires-clause-spans g c κs within =
    let s = c.self in
    let index = s.inside.publisher in
    let list = c.list.result.now in
    let x = c.index-segments-at.result in
    let y = c.index-segments-at-2.result in
    let none : index.held ≡ None = rw (← s.view_is) at c.requires in
    let whole = ap (λ (l : List CountedSpan). game_count (journal_of l)) c.list.ensures.list in
    let few : game_count (journal_of list) ≤ game_limit =
    omega (arith, whole, ap game_count (listed index none), s.invariant.knows.sound.within.0) in
    let left : IsSegment (arc_value x) = subst IsSegment c.deref.ensures c.span-left.ensures.segment in
    let right : IsSegment (arc_value y) = subst IsSegment c.deref-2.ensures c.span-right.ensures.segment in
    rw (c.deref-3.ensures, c.deref-4.ensures)
    (picked arc_value c.segments-segments.result.now c.in-Some.at x y list
    c.segments-segments.ensures.segments c.segments-segments.ensures.list few c.in-Some.ensures
    c.index-segments-at.is c.index-segments-at-2.is left right).join

pub replace-requires-clause-both : goal.replace-requires-clause-both
replace-requires-clause-both g c =
    let s = c.self in
    let index = s.inside.publisher in
    let list = c.list.result.now in
    let x = c.index-segments-at.result in
    let y = c.index-segments-at-2.result in
    let none : index.held ≡ None = rw (← s.view_is) at c.requires in
    let whole = ap (λ (l : List CountedSpan). game_count (journal_of l)) c.list.ensures.list in
    let few : game_count (journal_of list) ≤ game_limit =
    omega (arith, whole, ap game_count (listed index none), s.invariant.knows.sound.within.0) in
    let left : IsSegment (arc_value x) = subst IsSegment c.deref.ensures c.span-left.ensures.segment in
    let right : IsSegment (arc_value y) = subst IsSegment c.deref-2.ensures c.span-right.ensures.segment in
    let can = picked arc_value c.segments-segments.result.now c.in-Some.at x y list
    c.segments-segments.ensures.segments c.segments-segments.ensures.list few c.in-Some.ensures
    c.index-segments-at.is c.index-segments-at-2.is left right in
    let merged = c.in_ok-merged.ensures in
    let sides = rw (c.deref-3.ensures, c.deref-4.ensures) at merged.span in
    let shared = arc_value c.in_ok-merged-2.merged in
    let is = ap (λ (t : CountedSpan). t.span) c.in_ok-merged-2.ensures.ok ∙ sides in
    rw (← c.list.ensures.list) (may_replace list c.in-Some.at (arc_value x) (arc_value y) shared can is)

pub invariant_of-self : goal.invariant_of-self
invariant_of-self g c =
    let s = c.self in
    let d = g.D.Disk in
    let old = s.inside.publisher in
    let none : old.held ≡ None = rw (← s.view_is) at c.requires in
    let change = JoinAt c.in-Some.at (arc_value c.in_ok-merged-2.merged) in
    kept_index d.disk d.left_since s.inside.manifest old c.replace.new.self s.inside.register s.invariant
    (made old c.replace.new.self change c.replace.result none c.replace.ensures)

pub returns-clause-made : goal.returns-clause-made
returns-clause-made g c =
    let s = c.self in
    let index = s.inside.publisher in
    let list = c.list.result.now in
    let segs = c.segments-segments in
    let at = c.in-Some.at in
    let x = c.index-segments-at.result in
    let y = c.index-segments-at-2.result in
    let none : index.held ≡ None = rw (← s.view_is) at c.requires in
    let whole = ap (λ (l : List CountedSpan). game_count (journal_of l)) c.list.ensures.list in
    let few : game_count (journal_of list) ≤ game_limit =
    omega (arith, whole, ap game_count (listed index none), s.invariant.knows.sound.within.0) in
    let left : IsSegment (arc_value x) = subst IsSegment c.deref.ensures c.span-left.ensures.segment in
    let right : IsSegment (arc_value y) = subst IsSegment c.deref-2.ensures c.span-right.ensures.segment in
    let can = picked arc_value segs.result.now at x y list segs.ensures.segments segs.ensures.list few
    c.in-Some.ensures c.index-segments-at.is c.index-segments-at-2.is left right in
    let shared = arc_value c.in_ok-merged-2.merged in
    let sides = rw (c.deref-3.ensures, c.deref-4.ensures) at c.in_ok-merged.ensures in
    let merged : IsMergeOf (arc_value x) (arc_value y) shared =
    subst (λ (t : CountedSpan). IsMergeOf (arc_value x) (arc_value y) t) (sym c.in_ok-merged-2.ensures.ok) sides in
    let full : list_limit ≤ length list =
    omega (arith, c.if-segments-lt-LIST_LIMIT.false, ap length segs.ensures.segments, length-map segs.result.now arc_value) in
    let new = c.replace.new.self.list in
    let list_is = c.in_ok-replace.ensures.list
    ∙ ap (λ (l : List CountedSpan). with_change l (JoinAt at shared)) (sym c.list.ensures.list) in
    let room = room_by_join (map arc_value segs.result.now) list new at (arc_value x) (arc_value y) shared
    segs.ensures.segments c.in-Some.ensures can full merged list_is in
    rw (← s.view_is) (subst (λ (l : List CountedSpan). MakesRoom l new) c.list.ensures.list room)

pub returns-clause-few : goal.returns-clause-few
returns-clause-few g c =
    let s = c.self in
    let list = s.inside.publisher.list in
    let segs = c.segments-segments in
    let size = ap length c.list.ensures.list in
    let inside = slice_get_within (map arc_value segs.result.now) (c.in-Some.at + 1) c.in-Some.ensures.right
    c.in-Some.ensures.stand.right_is in
    let items = ap length segs.ensures.segments in
    let whole = joined_length list c.in-Some.at (arc_value c.in_ok-merged-2.merged) (omega (arith, inside, items, size)) in
    omega (arith, ap length c.in_ok-replace.ensures.list, whole, size, segs.ensures.list.few)

pub returns-clause-room : goal.returns-clause-room
returns-clause-room g c =
    let s = c.self in
    let list = s.inside.publisher.list in
    let segs = c.segments-segments in
    let size = ap length c.list.ensures.list in
    let inside = slice_get_within (map arc_value segs.result.now) (c.in-Some.at + 1) c.in-Some.ensures.right
    c.in-Some.ensures.stand.right_is in
    let items = ap length segs.ensures.segments in
    let whole = joined_length list c.in-Some.at (arc_value c.in_ok-merged-2.merged) (omega (arith, inside, items, size)) in
    omega (arith, ap length c.in_ok-replace.ensures.list, whole, size, segs.ensures.list.few)
