use Rattle.std.proofs.Common.{◌≡◌, ◌+◌, ◌-◌, List, length, map, sym, ap, subst, ◌∙◌, arith}
use Rattle.std.specs.Arc.{arc_value}
use Rattle.segment_blocks.specs.Segment.{CountedSpan, IsSegment}
use Rattle.player_lookup.specs.Seen.{IsGameIn}
use Rattle.player_lookup.proofs.SegmentLemmas.{IsLeft, left-first, left-here, left-later, left-none}
use Rattle.row_sums.proofs.PartLoops.{mapped-at, mapped-past, mapped-within}
use Rattle.player_lookup.proofs.segments.segment_of.Goals as goal

pub loop-segment-init : goal.loop-segment-init
loop-segment-init c = left-first (map arc_value c.args.segments.now) c.args.number c.requires

pub returns-then-left-games : goal.returns-then-left-games
returns-then-left-games c =
    let i = c.loop-segment.segment-index in
    let left = c.loop-segment.left in
    let segment : CountedSpan = arc_value c.segment-item.result in
    let segments : List CountedSpan = map arc_value c.args.segments.now in
    let games : c.games-games.result ≡ length segment.classes = c.games-games.ensures ∙ ap (λ (s : CountedSpan). length s.classes) c.deref-in-loop-segment.ensures in
    let known : IsSegment segment = subst IsSegment c.deref.ensures c.span-span.ensures.segment in
    let found : IsGameIn segments c.args.number segment left =
    left-here segments c.args.number i left segment (mapped-within arc_value c.args.segments.now i c.loop-segment-test.true)
    (mapped-at arc_value c.args.segments.now i c.segment-item.result c.segment-item.is) known (omega (arith, c.if-left-games.true, games)) c.loop-segment.invariant in
    subst (λ s. IsGameIn segments c.args.number s left) (sym c.deref-then-left-games.ensures) found

pub loop-segment-preserved : goal.loop-segment-preserved
loop-segment-preserved c =
    let i = c.loop-segment.segment-index in
    let left = c.loop-segment.left in
    let segment : CountedSpan = arc_value c.segment-item.result in
    let segments : List CountedSpan = map arc_value c.args.segments.now in
    let games : c.games-games.result ≡ length segment.classes = c.games-games.ensures ∙ ap (λ (s : CountedSpan). length s.classes) c.deref-in-loop-segment.ensures in
    let known : IsSegment segment = subst IsSegment c.deref.ensures c.span-span.ensures.segment in
    subst (λ n. IsLeft segments c.args.number (i + 1) (left - n)) (sym games)
    (left-later segments c.args.number i left segment (mapped-within arc_value c.args.segments.now i c.loop-segment-test.true)
    (mapped-at arc_value c.args.segments.now i c.segment-item.result c.segment-item.is) known (omega (arith, c.if-left-games.false, games)) c.loop-segment.invariant)

pub unreachable-requires : goal.unreachable-requires
unreachable-requires c =
    left-none (map arc_value c.args.segments.now) c.args.number c.loop-segment.segment-index c.loop-segment.left
    (mapped-past arc_value c.args.segments.now c.loop-segment.segment-index (omega (arith, c.loop-segment-test.false))) c.loop-segment.invariant
