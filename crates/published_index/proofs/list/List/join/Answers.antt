use Rattle.std.proofs.Common.{◌≡◌, ◌+◌, ◌<◌, suc, Some, slice_get, ap, sym, subst, ◌∙◌, arith, map, length, ℕ}
use Rattle.std.proofs.lemmas.List.{length-map}
use Rattle.std.specs.Arc.{arc_value}
use Rattle.segment_blocks.specs.Segment.{CountedSpan}
use Rattle.published_index.specs.Changes.{with_change, JoinAt}
use Rattle.published_index.proofs.CoverLemmas.{joined-is, map-joined, read-map, adjoin-next, IsBoth, list-joined, count-joined}
use Rattle.published_index.proofs.list.List.join.Goals as goal

pub invariant_of-self : goal.invariant_of-self
invariant_of-self c =
    let old = c.self.inside.segments.items in
    let at = c.args.at in
    let list = map arc_value old in
    let share = c.in_ok-share.share in
    let value = arc_value share in
    let left = arc_value c.index.result.now in
    let right = arc_value c.index-2.result.now in
    let pair : at + 1 < length old = omega (arith, c.self.inside.segments.ok.0) in
    let one : at + 1 ≡ suc at = omega arith in
    let here : slice_get list at ≡ Some left = read-map arc_value old at c.index.result.now (omega arith) c.index.ensures in
    let next : slice_get list (suc at) ≡ Some right =
    subst (λ (n : ℕ). slice_get list n ≡ Some right) one (read-map arc_value old (at + 1) c.index-2.result.now pair c.index-2.ensures) in
    let is : value ≡ arc_value c.args.segment.now = c.in_ok-share.ensures in
    let first : c.deref-3.result.now.span.first ≡ value.span.first = ap (λ (s : CountedSpan). s.span.first) (c.deref-3.ensures ∙ sym is) in
    let count : length c.deref-3.result.now.span.batches ≡ length value.span.batches = ap (λ (s : CountedSpan). length s.span.batches) (c.deref-3.ensures ∙ sym is) in
    let left-first : c.deref.result.now.span.first ≡ left.span.first = ap (λ (s : CountedSpan). s.span.first) c.deref.ensures in
    let left-count : length c.deref.result.now.span.batches ≡ length left.span.batches = ap (λ (s : CountedSpan). length s.span.batches) c.deref.ensures in
    let right-first : c.deref-2.result.now.span.first ≡ right.span.first = ap (λ (s : CountedSpan). s.span.first) c.deref-2.ensures in
    let right-count : length c.deref-2.result.now.span.batches ≡ length right.span.batches = ap (λ (s : CountedSpan). length s.span.batches) c.deref-2.ensures in
    let adjoins : right.span.first ≡ left.span.first + length left.span.batches = adjoin-next list 0 at left right c.self.invariant.0.covers.adjoin here next in
    let both : IsBoth left right value = record {
      first = omega (arith, first, left-first, c.span-span.ensures.first, c.span-left.ensures.first);
      count = omega (
        arith,
        first,
        count,
        left-first,
        left-count,
        right-first,
        right-count,
        adjoins,
        c.span-span.ensures.first,
        c.span-span.ensures.count,
        c.span-left.ensures.first,
        c.span-right.ensures.first,
        c.span-right.ensures.count,
      );
    } in
    let items = map-joined arc_value old c.remove.new.self.items at share pair c.remove.ensures.by_index.2 in
    let lt : suc at < length list = omega (arith, length-map old arc_value) in
    rw items (
      list-joined list at value left right lt here next both c.self.invariant.0,
      c.self.invariant.1 ∙ sym (count-joined list at value left right here next both),
    )

pub returns : goal.returns
returns c =
    let old = c.self.inside.segments.items in
    let at = c.args.at in
    let list = map arc_value old in
    let share = c.in_ok-share.share in
    let pair : at + 1 < length old = omega (arith, c.self.inside.segments.ok.0) in
    map-joined arc_value old c.remove.new.self.items at share pair c.remove.ensures.by_index.2
    ∙ joined-is list at (arc_value share)
    ∙ ap (λ l. with_change l (JoinAt at (arc_value share))) c.self.view_is
    ∙ ap (λ v. with_change c.args.self.now (JoinAt at v)) c.in_ok-share.ensures
