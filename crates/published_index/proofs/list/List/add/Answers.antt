use Rattle.std.proofs.Common.{◌≡◌, ◌+◌, ◌<◌, ◌∷◌, [], ◌++◌, ap, sym, ◌∙◌, arith, map, length, length-append}
use Rattle.std.proofs.lemmas.List.{map-append, length-map}
use Rattle.std.specs.Arc.{arc_value}
use Rattle.segment_blocks.specs.Segment.{CountedSpan}
use Rattle.published_index.specs.Cover.{list_limit, journal_of}
use Rattle.published_index.proofs.CoverLemmas.{list-one, journal-one}
use Rattle.published_index.proofs.list.List.add.Goals as goal

pub invariant_of-self-2 : goal.invariant_of-self-2
invariant_of-self-2 c =
    let old = c.self.inside.segments.items in
    let list = map arc_value old in
    let share = c.in_ok-share.share in
    let value = arc_value share in
    let is : value ≡ arc_value c.args.segment.now = c.in_ok-share.ensures in
    let first : c.deref.result.now.span.first ≡ value.span.first = ap (λ (s : CountedSpan). s.span.first) (c.deref.ensures ∙ sym is) in
    let count : length c.deref.result.now.span.batches ≡ length value.span.batches = ap (λ (s : CountedSpan). length s.span.batches) (c.deref.ensures ∙ sym is) in
    let starts : value.span.first ≡ length (journal_of list) = omega (arith, first, c.span-span.ensures.first, c.self.invariant.1) in
    let room : length list < list_limit = omega (arith, length-map old arc_value, c.self.inside.segments.ok.0) in
    let items = ap (λ xs. map arc_value xs) (c.push_reserved.ensures.items ∙ ap (λ xs. xs ++ share ∷ []) c.reserve.ensures.items) ∙ map-append arc_value old (share ∷ []) in
    let whole : length (journal_of (list ++ (value ∷ []))) ≡ length (journal_of list) + length value.span.batches =
    ap length (journal-one list value) ∙ length-append (journal_of list) value.span.batches in
    rw items (
      list-one list value c.self.invariant.0 room starts,
      omega (arith, whole, starts, first, count, c.span-span.ensures.first, c.span-span.ensures.count),
    )
