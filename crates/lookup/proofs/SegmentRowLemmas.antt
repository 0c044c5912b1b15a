-- Rows of segments, one segment after another, and what it costs to find them.
use Rattle.std.proofs.Common.{◌≡◌, ℕ, ◌+◌, ◌<◌, ◌≤◌, ◌^◌, List, take, length, get_or, sym, ap, subst, arith}
use Rattle.std.specs.List.{All, sum_by}
use Rattle.std.proofs.lemmas.List.Sums.{sum_by_more}
use Rattle.lookup.specs.SegmentRows.{row_steps}
use Rattle.segment_blocks.specs.Segment.{CountedSpan}

-- one segment more
pub cost-more : (key : List ℕ) (digits : CountedSpan → ℕ) (segments : List CountedSpan) (i : ℕ) (segment : CountedSpan) → i < length segments → segment ≡ get_or segments i segment
    → All (λ s. s.blocks < 2 ^ digits s) segments → (before so_far after : ℕ) → so_far ≤ before + sum_by (row_steps key digits) (take i segments)
    → (segment.blocks < 2 ^ digits segment → after ≤ so_far + row_steps key digits segment) → after ≤ before + sum_by (row_steps key digits) (take (i + 1) segments)
cost-more key digits segments i segment within stands small before so_far after bound step =
    let few : segment.blocks < 2 ^ digits segment = subst (λ (s : CountedSpan). s.blocks < 2 ^ digits s) (sym stands) (small i segment within) in
    let more : sum_by (row_steps key digits) (take (i + 1) segments) ≡ sum_by (row_steps key digits) (take i segments) + row_steps key digits (get_or segments i segment) =
    sum_by_more (row_steps key digits) segments i segment within in
    let same : row_steps key digits segment ≡ row_steps key digits (get_or segments i segment) = ap (row_steps key digits) stands in
    le-more after so_far before (sum_by (row_steps key digits) (take i segments)) (row_steps key digits segment) (row_steps key digits (get_or segments i segment)) _ bound (step few) same more
  where
    le-more : (after so_far before sum steps steps' all : ℕ) → so_far ≤ before + sum → after ≤ so_far + steps → steps ≡ steps' → all ≡ sum + steps' → after ≤ before + all
    le-more after so_far before sum steps steps' all bound step same more = omega (arith, bound, step, same, more)
