use Rattle.std.proofs.Common.{◌≡◌, List, ◌++◌, Ok, Err, Result, IfOk, sym, subst, ◌∙◌}
use Rattle.std.specs.declared.alloc.AllocError.{AllocError}
use Rattle.tally_rows.specs.declared.row.Row.{Row}
use Rattle.segment_blocks.specs.PackedRows.{rows_of_parts}
use Rattle.segment_blocks.specs.Segment.{CountedSpan, IsTallyOfBoth, span_of_both}
use Rattle.segment_merge.specs.Merging.{IsMergeOf, rows_of_both}
use Rattle.segment_merge.specs.Ranges.{AreRising}
use Rattle.segment_merge.proofs.PartsLemmas.{parts-rows}
use Rattle.segment_merge.proofs.RoomLemmas.{tally-both}
use Rattle.segment_merge.proofs.ranges.merge.Goals as goal

merge-of : (left right : CountedSpan) (rows : List Row) (result : Result CountedSpan AllocError)
    → IfOk result (λ s. s.span ≡ span_of_both left.span right.span) → IfOk result (λ s. s.classes ≡ left.classes ++ right.classes)
    → IfOk result (λ s. s.rows ≡ rows) → rows ≡ rows_of_both left right → IsTallyOfBoth left right (rows_of_both left right)
    → IfOk result (IsMergeOf left right)
merge-of left right rows (Ok segment) span classes is both tally = record {
  span = span;
  classes = classes;
  rows = is ∙ both;
  tally = subst (IsTallyOfBoth left right) (sym (is ∙ both)) tally;
}
merge-of left right rows (Err e) span classes is both tally = tt

pub of_both-requires : goal.of_both-requires
of_both-requires g c =
    let left = c.args.left.now in
    let right = c.args.right.now in
    let keys = c.as_slice-keys.result.now in
    let results = c.in_ok-results.results.items in
    let rising = subst AreRising (sym c.as_slice-keys.ensures.value) c.in_ok-keys.ensures.rising in
    let rows = parts-rows keys left right c.span-left.ensures.segment c.span-right.ensures.segment results c.in_ok-parts.parts.items c.in_ok-parts.ensures c.in_ok-results.ensures.len rising
    (λ n d below. (c.in_ok-results.ensures.each n d below).1.met) in
    record {
      spans = c.requires.spans;
      tally = subst (IsTallyOfBoth left right) (sym rows) (tally-both left right c.span-left.ensures.segment c.span-right.ensures.segment);
    }

pub returns : goal.returns
returns g c =
    let left = c.args.left.now in
    let right = c.args.right.now in
    let keys = c.as_slice-keys.result.now in
    let results = c.in_ok-results.results.items in
    let rising = subst AreRising (sym c.as_slice-keys.ensures.value) c.in_ok-keys.ensures.rising in
    let rows = parts-rows keys left right c.span-left.ensures.segment c.span-right.ensures.segment results c.in_ok-parts.parts.items c.in_ok-parts.ensures c.in_ok-results.ensures.len rising
    (λ n d below. (c.in_ok-results.ensures.each n d below).1.met) in
    let made = c.of_both.ensures in
    merge-of left right (rows_of_parts c.in_ok-parts.parts.items) c.of_both.result made.span made.classes made.rows rows (tally-both left right c.span-left.ensures.segment c.span-right.ensures.segment)
