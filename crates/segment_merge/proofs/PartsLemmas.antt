-- The rows of parts that were made of ranges of keys.
use Rattle.std.proofs.Common.{◌≡◌, ℕ, zero, suc, ◌+◌, ◌<◌, None, Ok, Result, IfOk, List, [], ◌∷◌, ◌++◌, map, length, get_or, refl, sym, ap, subst, ◌∙◌, arith, slice_get}
use Rattle.std.specs.declared.alloc.AllocError.{AllocError}
use Rattle.std.proofs.lemmas.List.{length-map}
use Rattle.std.proofs.lemmas.Result.{IfOk-weaker}
use Rattle.tally_rows.specs.declared.row.Row.{Row}
use Rattle.tally_rows.specs.Row.{shifted_row}
use Rattle.segment_blocks.specs.PackedRows.{Packed, rows_of_parts}
use Rattle.segment_blocks.specs.Segment.{CountedSpan, IsSegment}
use Rattle.segment_merge.specs.Merging.{rows_of_both, merged_in_range, ranges_of_both}
use Rattle.segment_merge.specs.Merged.{merged}
use Rattle.segment_merge.specs.Ranges.{AreRising, begin_of, rows_in_range, rows_of_ranges}
use Rattle.segment_merge.proofs.MergedLemmas.{in_order-shifted}
use Rattle.segment_merge.proofs.RangeLemmas.{ranges-all, length-ranges, one-range, filter-shifted}
use Rattle.segment_merge.proofs.RoomLemmas.{rows-shifted-zero}

abbrev ok_part : Packed → Result Packed AllocError
ok_part part = Ok part

ok-at : (P : Packed → Type 0) (made : List Packed) (n : ℕ) (d : Packed) → n < length made → IfOk (get_or (map ok_part made) n (ok_part d)) P → P (get_or made n d)
ok-at P [] n d below h = absurd (omega arith)
ok-at P (part ∷ made) zero d below h = h
ok-at P (part ∷ made) (suc n) d below h = ok-at P made n d (omega arith) h

made-rows : (made : List Packed) (ranges : List (List Row)) → length made ≡ length ranges
    → ((n : ℕ) (d : Packed) → n < length made → (get_or made n d).rows ≡ get_or ranges n [])
    → rows_of_parts made ≡ rows_of_ranges ranges
made-rows [] [] long each = refl
made-rows [] (range ∷ ranges) long each = absurd (omega (arith, long))
made-rows (part ∷ made) [] long each = absurd (omega (arith, long))
made-rows (part ∷ made) (range ∷ ranges) long each =
    let rest = made-rows made ranges (omega (arith, long)) (λ n d below. each (suc n) d (omega (arith, below))) in
    let here = each 0 part (omega arith) in
    λ i. here i ++ rest i

-- what is merged of one range of both sides
pub range-rows : (keys : List (List ℕ)) (left right : CountedSpan) (n : ℕ) → n < length keys + 1
    → merged_in_range keys n left right
    ≡ get_or (ranges_of_both keys left right) n []
range-rows keys left right n below =
    let by = length left.classes in
    (λ i. merged (rows-shifted-zero (rows_in_range keys n left.rows) i) (sym (filter-shifted (begin_of keys n) (slice_get keys n) by right.rows) i))
    ∙ sym (one-range keys n left.rows (map (shifted_row by) right.rows) (omega (arith, below)))

-- the same, of a result
abbrev pub IsRange : List (List ℕ) → CountedSpan → CountedSpan → ℕ → Result Packed AllocError → Type 0
IsRange keys left right n result = IfOk result (λ packed. packed.rows ≡ merged_in_range keys n left right)

module _ (keys : List (List ℕ)) (left right : CountedSpan) (a : IsSegment left) (b : IsSegment right) where
  pub parts-rows : (results : List (Result Packed AllocError)) (made : List Packed) → map ok_part made ≡ results
      → length results ≡ length keys + 1 → AreRising keys
      → ((n : ℕ) (d : Result Packed AllocError) → n < length keys + 1 → IsRange keys left right n (get_or results n d))
      → rows_of_parts made ≡ rows_of_both left right
  parts-rows results made ok count rising each =
      let shifted = map (shifted_row (length left.classes)) right.rows in
      let ranges : (n : ℕ) (d : Result Packed AllocError) → n < length keys + 1
      → IfOk (get_or results n d) (λ packed. packed.rows ≡ get_or (ranges_of_both keys left right) n []) =
      λ n d below. IfOk-weaker (get_or results n d) _ _ (λ packed h. h ∙ range-rows keys left right n below) (each n d below) in
      let long : length made ≡ length keys + 1 = sym (length-map made ok_part) ∙ ap length ok ∙ count in
      made-rows made (ranges_of_both keys left right) (omega (arith, long, length-ranges None keys left.rows shifted))
      (λ n d below.
      ok-at (λ packed. packed.rows ≡ get_or (ranges_of_both keys left right) n []) made n d below
      (subst (λ rs. IfOk (get_or rs n (ok_part d)) (λ packed. packed.rows ≡ get_or (ranges_of_both keys left right) n [])) (sym ok)
      (ranges n (ok_part d) (omega (arith, long, below)))))
      ∙ ranges-all left.rows shifted a.tally.tallied.ordered (in_order-shifted (length left.classes) right.rows b.tally.tallied.ordered) keys rising
