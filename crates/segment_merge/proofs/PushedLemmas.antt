-- What sides give, merged.
use Rattle.std.proofs.Common.{◌≡◌, ℕ, ◌+◌, ◌<◌, ◌≤◌, Some, List, [], ◌∷◌, ◌++◌, take, drop, map, length, refl, sym, ap, subst, ◌∙◌, append_assoc, arith}
use Rattle.std.specs.declared.cmp.Ordering.TheVariants.{Less, Equal, Greater}
use Rattle.std.specs.List.Sorted.{IsStrictlySortedBy}
use Rattle.std.proofs.lemmas.List.{length-append, length-drop, length-map}
use Rattle.tally_rows.specs.declared.row_key.RowKey.{RowKey}
use Rattle.tally_rows.specs.declared.row.Row.{Row}
use Rattle.tally_rows.specs.RowKey.{row_order}
use Rattle.tally_rows.specs.Row.{row_key_of, shifted_row}
use Rattle.tally_rows.proofs.Combining.{combined-row_key}
use Rattle.tally_rows.proofs.RowOrder.{row_order-IsAntisymmetric}
use Rattle.segment_blocks.specs.Both.{HaveBothMoved, MayBothMove}
use Rattle.segment_blocks.specs.PackedRows.{AreInOrder}
use Rattle.segment_merge.specs.Merged.{merged, next_order}
use Rattle.segment_merge.specs.Pushed.{HasPushed}
use Rattle.segment_merge.proofs.LesserLemmas.{merged_shifted, merged-gives}
use Rattle.segment_merge.proofs.MergedLemmas.{merged-ind, less-some, greater-some, step-less, step-greater, Above}

-- ---- the next row of one side

module _ (rows new_rows ls rs rest : List Row) where
  pub after-left : next_order ls rs ≡ Some Less → HasPushed ls rest rows new_rows → new_rows ++ merged rest rs ≡ rows ++ merged ls rs
  after-left e h =
      (λ i. h.behind i ++ merged (h.left i) rs) ∙ append_assoc rows (take 1 ls) (merged (drop 1 ls) rs) ∙ ap (λ l. rows ++ l) (sym (step-less ls rs e))

  pub after-right : next_order ls rs ≡ Some Greater → HasPushed rs rest rows new_rows → new_rows ++ merged ls rest ≡ rows ++ merged ls rs
  after-right e h =
      (λ i. h.behind i ++ merged ls (h.left i)) ∙ append_assoc rows (take 1 rs) (merged ls (drop 1 rs)) ∙ ap (λ l. rows ++ l) (sym (step-greater ls rs e))

  pub fewer-left : next_order ls rs ≡ Some Less → HasPushed ls rest rows new_rows → length rest + length rs < length ls + length rs
  fewer-left e h = omega (arith, ap length h.left, length-drop 1 ls, less-some ls rs e)

  pub fewer-right : next_order ls rs ≡ Some Greater → HasPushed rs rest rows new_rows → length ls + length rest < length ls + length rs
  fewer-right e h = omega (arith, ap length h.left, length-drop 1 rs, greater-some ls rs e)

-- ---- rows of both sides, the lesser one first

module _ (left_by right_by : ℕ) (lefts left_rest rights right_rest rows new : List Row) (h : HaveBothMoved left_by right_by lefts left_rest rights right_rest rows new) where
  pub after-both : new ++ merged_shifted left_by right_by left_rest right_rest ≡ rows ++ merged_shifted left_by right_by lefts rights
  after-both =
      ap (λ l. l ++ merged_shifted left_by right_by left_rest right_rest) h.behind
      ∙ append_assoc rows h.pushed (merged_shifted left_by right_by left_rest right_rest)
      ∙ ap (λ l. rows ++ l) (sym (h.first (merged_shifted left_by right_by) (merged-gives left_by right_by)))

  pub fewer-both : length (map (shifted_row left_by) left_rest) + length (map (shifted_row right_by) right_rest)
      ≤ length (map (shifted_row left_by) lefts) + length (map (shifted_row right_by) rights)
  fewer-both =
      omega (
        arith,
        ap length h.left_parts,
        length-append h.left left_rest,
        ap length h.right_parts,
        length-append h.right right_rest,
        length-map left_rest (shifted_row left_by),
        length-map right_rest (shifted_row right_by),
        length-map lefts (shifted_row left_by),
        length-map rights (shifted_row right_by),
      )

pub may-move : (left_by right_by : ℕ) (lefts rights rows : List Row) → AreInOrder (rows ++ merged_shifted left_by right_by lefts rights)
    → MayBothMove left_by right_by lefts rights rows
may-move left_by right_by lefts rights rows ordered =
    record { both = merged_shifted left_by right_by; gives = merged-gives left_by right_by; ordered = ordered }

-- ---- each side stands in order where what is merged of both does

parts-in_order : (ls rs : List Row) → (AreInOrder (merged ls rs) → AreInOrder ls × AreInOrder rs)
    × ((x : RowKey) → Above x (merged ls rs) → Above x ls × Above x rs)
unfolding IsStrictlySortedBy
parts-in_order =
    merged-ind (λ ls rs m. (AreInOrder m → AreInOrder ls × AreInOrder rs) × ((x : RowKey) → Above x m → Above x ls × Above x rs))
    (λ rs. (λ a. (tt, a), λ x a. (tt, a)))
    (λ l ls. (λ a. (a, tt), λ x a. (a, tt)))
    (λ l ls r rs e m h. (
      λ a. let below = h.1 (row_key_of l) a.0 in let ordered = h.0 a.1 in ((below.0, ordered.0), ordered.1),
      λ x a. let above = h.1 x a.1 in ((a.0, above.0), above.1),
    ))
    (λ l ls r rs e m h. (
      λ a.
          let below = h.1 (row_key_of l) (subst (λ k. Above k m) (combined-row_key l r) a.0) in
          let ordered = h.0 a.1 in
          ((below.0, ordered.0), (subst (λ k. Above k rs) (same l r e) below.1, ordered.1)),
      λ x a.
          let above = h.1 x a.1 in
          let first = subst (λ k. row_order x k ≡ Less) (combined-row_key l r) a.0 in
          ((first, above.0), (subst (λ k. row_order x k ≡ Less) (same l r e) first, above.1)),
    ))
    (λ l ls r rs e m h. (
      λ a. let below = h.1 (row_key_of r) a.0 in let ordered = h.0 a.1 in (ordered.0, (below.1, ordered.1)),
      λ x a. let above = h.1 x a.1 in (above.0, (a.0, above.1)),
    ))
  where
    same : (l r : Row) → row_order (row_key_of l) (row_key_of r) ≡ Equal → row_key_of l ≡ row_key_of r
    same l r e = row_order-IsAntisymmetric (row_key_of l) (row_key_of r) e

module _ (m k : List Row) (ordered : AreInOrder m → AreInOrder k) (above : (x : RowKey) → Above x m → Above x k) where
  above-behind : (x : RowKey) (xs : List Row) → Above x (xs ++ m) → Above x (xs ++ k)
  above-behind x [] h = above x h
  above-behind x (z ∷ zs) h = (h.0, above-behind x zs h.1)

  in_order-behind : (xs : List Row) → AreInOrder (xs ++ m) → AreInOrder (xs ++ k)
  unfolding IsStrictlySortedBy
  in_order-behind [] h = ordered h
  in_order-behind (x ∷ xs) h = (above-behind (row_key_of x) xs h.0, in_order-behind xs h.1)

module _ (rows ls rs : List Row) (h : AreInOrder (rows ++ merged ls rs)) where
  pub in_order-left : AreInOrder (rows ++ ls)
  in_order-left = in_order-behind (merged ls rs) ls (λ a. ((parts-in_order ls rs).0 a).0) (λ x a. ((parts-in_order ls rs).1 x a).0) rows h

  pub in_order-right : AreInOrder (rows ++ rs)
  in_order-right = in_order-behind (merged ls rs) rs (λ a. ((parts-in_order ls rs).0 a).1) (λ x a. ((parts-in_order ls rs).1 x a).1) rows h
