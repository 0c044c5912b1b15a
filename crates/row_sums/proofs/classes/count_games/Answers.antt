use Rattle.std.proofs.Common.{◌≡◌, ◌<◌, ◌+◌, List, length, sym, ap, subst, ◌∙◌, arith, get_or, map}
use Rattle.std.specs.Arc.{arc_value}
use Rattle.segment_blocks.specs.Segment.{CountedSpan, IsSegment}
use Rattle.row_sums.proofs.PartLoops.{mapped-at, mapped-within}
use Rattle.row_sums.proofs.Places.{all-front, count-front}
use Rattle.row_sums.proofs.classes.count_games.Goals as goal

pub loop-segment-preserved : goal.loop-segment-preserved
loop-segment-preserved c =
    let i = c.loop-segment.segment-index in
    let segment : CountedSpan = arc_value c.segment-item.result in
    let segments : List CountedSpan = map arc_value c.args.segments.now in
    let within : i < length segments = mapped-within arc_value c.args.segments.now i c.loop-segment-test.true in
    let is : segment ≡ get_or segments i segment = mapped-at arc_value c.args.segments.now i c.segment-item.result c.segment-item.is in
    let games : c.games_of-games.result ≡ length segment.classes =
    c.games_of-games.ensures.games ∙ ap (λ (s : CountedSpan). length s.classes) c.deref.ensures in
    let counted : IsSegment segment = subst IsSegment c.deref.ensures c.games_of-games.ensures.segment in
    record {
      within = omega (arith, c.loop-segment-test.true);
      room = omega (arith, c.loop-segment.invariant.room, games, counted.few);
      games = (λ k. c.loop-segment.invariant.games k + games k) ∙ sym (count-front segments i segment within is);
      segments = all-front IsSegment segments i segment within is c.loop-segment.invariant.segments counted;
    }
