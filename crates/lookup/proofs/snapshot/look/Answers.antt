use Rattle.std.proofs.Common.{◌≤◌, ◌<◌, ◌^◌, ◌+◌, List, map, length, subst, sym, ap, arith}
use Rattle.std.specs.Arc.{arc_value}
use Rattle.std.specs.List.{All, sum_by}
use Rattle.std.proofs.lemmas.List.{length-map}
use Rattle.std.proofs.lemmas.Result.{IfOk-weaker}
use Rattle.explorer_model.specs.declared.archive.Batch.{Batch}
use Rattle.explorer_model.specs.Finds.{IsFound}
use Rattle.explorer_model.specs.Spans.{Covers}
use Rattle.lookup.specs.SegmentRows.{row_steps}
use Rattle.published_index.specs.Cover.{journal_of, spans_of}
use Rattle.segment_blocks.specs.Segment.{CountedSpan}
use Rattle.lookup.proofs.snapshot.look.Goals as goal

pub look_segments-requires-clause-few : goal.look_segments-requires-clause-few
look_segments-requires-clause-few g c =
    omega (arith, c.segments.ensures.list.few, ap (λ (s : List CountedSpan). length s) c.segments.ensures.segments, length-map c.segments.result.now arc_value)

pub returns-clause-found : goal.returns-clause-found
returns-clause-found g c =
    let list : List CountedSpan = map arc_value c.segments.result.now in
    IfOk-weaker c.look_segments.result (λ found. (journal : List Batch) → Covers (map (λ (segment : CountedSpan). segment.span) list) journal → IsFound journal c.args.query.now found)
    (λ found. IsFound (journal_of c.args.snapshot.now) c.args.query.now found)
    (λ found is. is (journal_of c.args.snapshot.now) (subst (λ (s : List CountedSpan). Covers (spans_of s) (journal_of c.args.snapshot.now)) (sym c.segments.ensures.segments) c.segments.ensures.list.covers))
    c.look_segments.ensures.found

pub returns-clause-cost : goal.returns-clause-cost
returns-clause-cost g c = λ key digits tidy small.
    let C : List CountedSpan → Type 0 = λ s. c.look_segments.new.steps ≤ c.args.steps.now + sum_by (row_steps key digits) s in
    subst C c.segments.ensures.segments
    (c.look_segments.ensures.cost key digits tidy (subst (All (λ (segment : CountedSpan). segment.blocks < 2 ^ digits segment)) (sym c.segments.ensures.segments) small))
