use Rattle.std.proofs.Common.{◌≤◌, List, map, ap, ◌∙◌, subst, arith}
use Rattle.std.specs.Arc.{arc_value}
use Rattle.explorer_model.specs.Journal.{game_count, game_limit}
use Rattle.segment_blocks.specs.Segment.{CountedSpan, IsSegment}
use Rattle.published_index.specs.Cover.{journal_of}
use Rattle.ingest_desk.specs.Picking.{IsPicked}
use Rattle.ingest_desk.proofs.JobLemmas.{both_stand}
use Rattle.ingest_desk.proofs.KeptLemmas.{listed_games}
use Rattle.ingest_desk.proofs.PickingLemmas.{is_picked, picked}
use Rattle.ingest_desk.proofs.ingest.Ingest.pick.Goals as goal

pub last_due-requires : goal.last_due-requires
last_due-requires g c =
    let s = c.self in
    let index = s.inside.publisher in
    let items = ap (λ (l : List CountedSpan). game_count (journal_of l)) (c.segments-segments.ensures.segments ∙ c.list.ensures.list) in
    omega (arith, items, listed_games index, s.invariant.knows.sound.within.0)

pub returns : goal.returns
returns g c =
    let s = c.self in
    let index = s.inside.publisher in
    let list = c.list.result.now in
    let x = c.index-segments-at.result in
    let y = c.index-segments-at-2.result in
    let whole = ap (λ (l : List CountedSpan). game_count (journal_of l)) c.list.ensures.list in
    let few : game_count (journal_of list) ≤ game_limit =
    omega (arith, whole, listed_games index, s.invariant.knows.sound.within.0) in
    let left_is = c.deref.ensures ∙ c.in_ok-left.ensures in
    let right_is = c.deref-2.ensures ∙ c.in_ok-right.ensures in
    let left : IsSegment (arc_value x) = subst IsSegment left_is c.span-left.ensures.segment in
    let right : IsSegment (arc_value y) = subst IsSegment right_is c.span-right.ensures.segment in
    let are = c.segments-segments.ensures.segments in
    let can = picked arc_value c.segments-segments.result.now c.in-Some.at x y list
    are c.segments-segments.ensures.list few c.in-Some.ensures
    c.index-segments-at.is c.index-segments-at-2.is left right in
    let found : IsPicked list (arc_value x) (arc_value y) =
    is_picked (map arc_value c.segments-segments.result.now) list c.in-Some.at (arc_value x) (arc_value y) are c.in-Some.ensures can in
    let P : List CountedSpan → Type 0 = λ l. IsPicked l (arc_value c.in_ok-left.left) (arc_value c.in_ok-right.right) in
    rw (← s.view_is) (subst P c.list.ensures.list
    (rw (c.in_ok-left.ensures, c.in_ok-right.ensures) found))

pub invariant_of-result : goal.invariant_of-result
invariant_of-result g c =
    let s = c.self in
    let index = s.inside.publisher in
    let list = c.list.result.now in
    let x = c.index-segments-at.result in
    let y = c.index-segments-at-2.result in
    let whole = ap (λ (l : List CountedSpan). game_count (journal_of l)) c.list.ensures.list in
    let few : game_count (journal_of list) ≤ game_limit =
    omega (arith, whole, listed_games index, s.invariant.knows.sound.within.0) in
    let left_is = c.deref.ensures ∙ c.in_ok-left.ensures in
    let right_is = c.deref-2.ensures ∙ c.in_ok-right.ensures in
    let left : IsSegment (arc_value x) = subst IsSegment left_is c.span-left.ensures.segment in
    let right : IsSegment (arc_value y) = subst IsSegment right_is c.span-right.ensures.segment in
    let can = picked arc_value c.segments-segments.result.now c.in-Some.at x y list
    c.segments-segments.ensures.segments c.segments-segments.ensures.list few c.in-Some.ensures
    c.index-segments-at.is c.index-segments-at-2.is left right in
    rw (c.tell-note.ensures, ← c.list.ensures.list, c.in_ok-left.ensures, c.in_ok-right.ensures)
    (both_stand list c.in-Some.at (arc_value x) (arc_value y) c.segments-segments.ensures.list can.stand)
