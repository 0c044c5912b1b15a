use Rattle.std.proofs.Common.{◌≡◌, ◌<◌, ◌≤◌, ◌-◌, ◌+◌, List, length, sym, ap, ◌∙◌, arith, drop, map}
use Rattle.std.specs.Arc.{arc_value}
use Rattle.std.specs.List.{slice_get}
use Rattle.row_sums.specs.Listing.{classes_in}
use Rattle.row_sums.proofs.PartLoops.{mapped-at, mapped-within, mapped-past}
use Rattle.row_sums.proofs.Places.{classes-here, classes-later, classes-none}
use Rattle.segment_blocks.specs.Segment.{CountedSpan}
use Rattle.row_sums.proofs.classes.classes_of.Goals as goal

pub returns-then-left-games : goal.returns-then-left-games
returns-then-left-games c =
    let i = c.loop-segment.segment-index in
    let left = c.loop-segment.left in
    let segment : CountedSpan = arc_value c.segment-item.result in
    let segments : List CountedSpan = map arc_value c.args.segments.now in
    let games : c.games-games.result ≡ length segment.classes = c.games-games.ensures ∙ ap (λ (s : CountedSpan). length s.classes) c.deref.ensures in
    let below : left < length segment.classes = omega (arith, c.if-left-games.true, games) in
    sym c.classes.ensures ∙ ap (λ (s : CountedSpan). slice_get s.classes left) c.deref-then-left-games.ensures
    ∙ sym (classes-here segments i segment (mapped-within arc_value c.args.segments.now i c.loop-segment-test.true)
    (mapped-at arc_value c.args.segments.now i c.segment-item.result c.segment-item.is) left below)
    ∙ c.loop-segment.invariant

pub loop-segment-preserved : goal.loop-segment-preserved
loop-segment-preserved c =
    let i = c.loop-segment.segment-index in
    let left = c.loop-segment.left in
    let segment : CountedSpan = arc_value c.segment-item.result in
    let segments : List CountedSpan = map arc_value c.args.segments.now in
    let games : c.games-games.result ≡ length segment.classes = c.games-games.ensures ∙ ap (λ (s : CountedSpan). length s.classes) c.deref.ensures in
    let past : length segment.classes ≤ left = omega (arith, c.if-left-games.false, games) in
    ap (λ n. slice_get (classes_in (drop (i + 1) segments)) (left - n)) games
    ∙ sym (classes-later segments i segment (mapped-within arc_value c.args.segments.now i c.loop-segment-test.true)
    (mapped-at arc_value c.args.segments.now i c.segment-item.result c.segment-item.is) left past)
    ∙ c.loop-segment.invariant

pub returns : goal.returns
returns c =
    let segments : List CountedSpan = map arc_value c.args.segments.now in
    sym (classes-none segments c.loop-segment.segment-index
    (mapped-past arc_value c.args.segments.now c.loop-segment.segment-index (omega (arith, c.loop-segment-test.false))) c.loop-segment.left)
    ∙ c.loop-segment.invariant
