use Rattle.std.proofs.Common.{rules, ◌≡◌, ◌+◌, ◌<◌, ◌≤◌, ◌^◌, ◌++◌, List, map, filter, take, length, get_or, ap, subst, sym, ◌∙◌, arith}
use Rattle.std.specs.Arc.{arc_value}
use Rattle.std.specs.List.{sum_by}
use Rattle.std.proofs.lemmas.List.{take_all}
use Rattle.std.proofs.lemmas.List.Sums.{sum_by_more, sum_by-take-le}
use Rattle.row_sums.specs.Hits.{hit_as}
use Rattle.lookup.specs.Hits.{rows_from, games_counted}
use Rattle.lookup.specs.Parts.{Part, IsPart, segment_part}
use Rattle.lookup.specs.SegmentRows.{row_steps}
use Rattle.lookup.proofs.Numbered.{numbered, picked-rows, rows_from-nil, rows_from-more, AllByRecursion-more}
use Rattle.row_sums.proofs.PartLoops.{mapped-at, mapped-past, mapped-within}
use Rattle.lookup.proofs.SegmentRowLemmas.{cost-more}
use Rattle.segment_blocks.specs.Segment.{CountedSpan, IsSegment}
use Rattle.segment_blocks.specs.Walk.{has_key}
use Rattle.tally_rows.specs.Recount.{picks}
use Rattle.tally_rows.specs.Cover.{passes_row_key}
use Rattle.tally_rows.specs.Row.{row_key_of}
use Rattle.lookup.proofs.segment_rows.rows_of_segments.Goals as goal

pub loop-segment-init : goal.loop-segment-init
loop-segment-init g c = record {
  rows = ap (map hit_as) c.new-hits.ensures.items ∙ sym (rows_from-nil c.args.key.now (passes_row_key c.args.wanted.now) 0);
  within = omega arith;
  room = omega arith;
  first = omega arith;
  parts = tt;
  cost = λ digits small. omega arith;
}

pub loop-segment-preserved : goal.loop-segment-preserved
loop-segment-preserved g c =
    let i = c.loop-segment.segment-index in
    let segments : List CountedSpan = map arc_value c.args.segments.now in
    let parts : List Part = map segment_part segments in
    let segment : CountedSpan = arc_value c.segment-item.result in
    let part : Part = segment_part segment in
    let in_segments : i < length segments = mapped-within arc_value c.args.segments.now i c.loop-segment-test.true in
    let stands : segment ≡ get_or segments i segment = mapped-at arc_value c.args.segments.now i c.segment-item.result c.segment-item.is in
    let within : i < length parts = mapped-within segment_part segments i in_segments in
    let is : part ≡ get_or parts i part = mapped-at segment_part segments i segment stands in
    let key = c.args.key.now in
    let pick = passes_row_key c.args.wanted.now in
    let counted : IsSegment segment = subst IsSegment c.deref.ensures c.add_rows.ensures.segment in
    let games : c.games-first.result ≡ length segment.classes = c.games-first.ensures ∙ ap (λ (s : CountedSpan). length s.classes) c.deref-in-loop-segment.ensures in
    record {
      within = omega (arith, c.loop-segment-test.true);
      room = omega (arith, c.loop-segment.invariant.room, games, counted.few);
      rows = c.in_ok-add_rows.ensures.rows
          ∙ (λ k. c.loop-segment.invariant.rows k ++ map (numbered c.loop-segment.first) (filter (λ row. pick (row_key_of row)) (filter (has_key key) (c.deref.ensures k).rows)))
          ∙ (λ k. rows_from key pick 0 (take i parts) ++ map (numbered (c.loop-segment.invariant.first k)) (picked-rows key pick part.rows k))
          ∙ (λ k. rows_from key pick 0 (take i parts) ++ map (numbered (games_counted (take i parts))) (filter (picks key pick) (is k).rows))
          ∙ sym (rows_from-more key pick parts i part within);
      first = (λ k. c.loop-segment.invariant.first k + c.games-first.ensures k)
          ∙ (λ k. games_counted (take i parts) + length (c.deref-in-loop-segment.ensures k).classes)
          ∙ (λ k. games_counted (take i parts) + length (is k).classes)
          ∙ sym (sum_by_more (λ (p : Part). length p.classes) parts i part within);
      parts = AllByRecursion-more IsPart parts i part within c.loop-segment.invariant.parts (subst IsPart is (record { tally = counted.tally }));
      cost = λ digits small.
          cost-more key digits segments i segment in_segments stands small c.args.steps.now c.loop-segment.steps c.add_rows.new.steps
          (c.loop-segment.invariant.cost digits small)
          (λ few. subst (λ (s : CountedSpan). c.add_rows.new.steps ≤ c.loop-segment.steps + row_steps key digits s) c.deref.ensures
          (c.add_rows.ensures.cost digits (subst (λ (s : CountedSpan). s.blocks < 2 ^ digits s) (sym c.deref.ensures) few)));
    }

pub overflow_add-first : goal.overflow_add-first
overflow_add-first g c =
    let segment : CountedSpan = arc_value c.segment-item.result in
    let counted : IsSegment segment = subst IsSegment c.deref.ensures c.add_rows.ensures.segment in
    let games : c.games-first.result ≡ length segment.classes = c.games-first.ensures ∙ ap (λ (s : CountedSpan). length s.classes) c.deref-in-loop-segment.ensures in
    let fits : c.loop-segment.first + c.games-first.result ≤ 16777216 =
    omega (arith, c.loop-segment.invariant.room, c.loop-segment-test.true, c.requires, games, counted.few) in
    search (rules, fits)

pub returns-clause-games : goal.returns-clause-games
returns-clause-games g c =
    let i = c.loop-segment.segment-index in
    let segments : List CountedSpan = map arc_value c.args.segments.now in
    let all : take i (map segment_part segments) ≡ map segment_part segments =
    take_all i (map segment_part segments) (mapped-past segment_part segments i (mapped-past arc_value c.args.segments.now i (omega (arith, c.loop-segment-test.false)))) in
    omega (arith, c.loop-segment.invariant.first, c.loop-segment.invariant.room, c.loop-segment.invariant.within, c.requires, ap games_counted all)

pub returns-in_err-add_rows-clause-cost : goal.returns-in_err-add_rows-clause-cost
returns-in_err-add_rows-clause-cost g c = λ digits small.
    let i = c.loop-segment.segment-index in
    let segments : List CountedSpan = map arc_value c.args.segments.now in
    let segment : CountedSpan = arc_value c.segment-item.result in
    let key = c.args.key.now in
    let in_segments : i < length segments = mapped-within arc_value c.args.segments.now i c.loop-segment-test.true in
    let stands : segment ≡ get_or segments i segment = mapped-at arc_value c.args.segments.now i c.segment-item.result c.segment-item.is in
    let so_far : c.add_rows.new.steps ≤ c.args.steps.now + sum_by (row_steps key digits) (take (i + 1) segments) =
    cost-more key digits segments i segment in_segments stands small c.args.steps.now c.loop-segment.steps c.add_rows.new.steps
    (c.loop-segment.invariant.cost digits small)
    (λ few. subst (λ (s : CountedSpan). c.add_rows.new.steps ≤ c.loop-segment.steps + row_steps key digits s) c.deref.ensures
    (c.add_rows.ensures.cost digits (subst (λ (s : CountedSpan). s.blocks < 2 ^ digits s) (sym c.deref.ensures) few))) in
    omega (arith, so_far, sum_by-take-le (row_steps key digits) segments (i + 1))

pub returns-clause-cost : goal.returns-clause-cost
returns-clause-cost g c = λ digits small.
    let segments : List CountedSpan = map arc_value c.args.segments.now in
    omega (arith, c.loop-segment.invariant.cost digits small, sum_by-take-le (row_steps c.args.key.now digits) segments c.loop-segment.segment-index)
