use Rattle.std.proofs.Common.{◌≡◌, ◌+◌, ◌++◌, take, length, sym, ap, ◌∙◌, arith, length-append}
use Rattle.std.specs.Arc.{arc_value}
use Rattle.segment_blocks.specs.Segment.{CountedSpan}
use Rattle.published_index.specs.Cover.{journal_of}
use Rattle.published_index.proofs.CoverLemmas.{journal-next, journal-within}
use Rattle.published_index.proofs.history.History.of.Goals as goal

pub add_all-requires : goal.add_all-requires
add_all-requires c =
    let list = c.args.list.now in
    let i = c.loop-segment.segment-index in
    let segment = c.segment-item.result in
    let next = journal-next arc_value c.segments-segment-items.result.now list i segment c.segments-segment-items.ensures.segments c.loop-segment-test.true c.segment-item.is in
    let count : length c.deref.result.now.span.batches ≡ length (arc_value segment).span.batches = ap (λ (s : CountedSpan). length s.span.batches) c.deref.ensures in
    omega (
      arith,
      ap length next,
      length-append (journal_of (take i list)) (arc_value segment).span.batches,
      journal-within list (i + 1),
      count,
      ap length c.loop-segment.invariant,
      c.batches-batches.ensures.batches,
    )

pub loop-segment-preserved : goal.loop-segment-preserved
loop-segment-preserved c =
    let list = c.args.list.now in
    let i = c.loop-segment.segment-index in
    let segment = c.segment-item.result in
    let next = journal-next arc_value c.segments-segment-items.result.now list i segment c.segments-segment-items.ensures.segments c.loop-segment-test.true c.segment-item.is in
    c.if-not-add_all.ensures ∙ ap (λ log. log ++ c.deref.result.now.span.batches) c.loop-segment.invariant
    ∙ ap (λ (s : CountedSpan). journal_of (take i list) ++ s.span.batches) c.deref.ensures ∙ sym next
