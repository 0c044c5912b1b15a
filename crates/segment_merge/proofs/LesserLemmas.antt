-- Merging gives the lesser first row first.
use Rattle.std.proofs.Common.{◌≡◌, ℕ, List, [], ◌∷◌, map, refl, sym, ap, ◌∙◌}
use Rattle.std.specs.Ordering.{ordering_reverse}
use Rattle.plain_laws.specs.Orderings.{less-is}
use Rattle.tally_rows.specs.declared.row.Row.{Row}
use Rattle.tally_rows.specs.RowKey.{row_order, row_order-total}
use Rattle.tally_rows.specs.Row.{row_key_of, shifted_row}
use Rattle.segment_blocks.specs.Both.{IsBeforeFirst, GivesLesser}
use Rattle.segment_merge.specs.Merged.{merged}
use Rattle.segment_merge.proofs.MergedLemmas.{merged-less, merged-greater, merged-nil_left, merged-nil_right}

shifted-row_key : (by : ℕ) (row : Row) → row_key_of (shifted_row by row) ≡ row_key_of row
unfolding shifted_row
shifted-row_key by row = refl

module _ (left_by right_by : ℕ) where
  abbrev pub merged_shifted : List Row → List Row → List Row
  merged_shifted lefts rights = merged (map (shifted_row left_by) lefts) (map (shifted_row right_by) rights)

  give-left : (row : Row) (lefts rights : List Row) → IsBeforeFirst row rights
      → merged_shifted (row ∷ lefts) rights ≡ shifted_row left_by row ∷ merged_shifted lefts rights
  give-left row lefts [] h =
      merged-nil_right (shifted_row left_by row ∷ map (shifted_row left_by) lefts)
      ∙ ap (λ l. shifted_row left_by row ∷ l) (sym (merged-nil_right (map (shifted_row left_by) lefts)))
  give-left row lefts (other ∷ rights) h =
      merged-less (shifted_row left_by row) (map (shifted_row left_by) lefts) (shifted_row right_by other) (map (shifted_row right_by) rights)
      ((λ i. row_order (shifted-row_key left_by row i) (shifted-row_key right_by other i)) ∙ less-is (row_order (row_key_of row) (row_key_of other)) h)

  give-right : (lefts : List Row) (row : Row) (rights : List Row) → IsBeforeFirst row lefts
      → merged_shifted lefts (row ∷ rights) ≡ shifted_row right_by row ∷ merged_shifted lefts rights
  give-right [] row rights h =
      merged-nil_left (shifted_row right_by row ∷ map (shifted_row right_by) rights)
      ∙ ap (λ l. shifted_row right_by row ∷ l) (sym (merged-nil_left (map (shifted_row right_by) rights)))
  give-right (other ∷ lefts) row rights h =
      merged-greater (shifted_row left_by other) (map (shifted_row left_by) lefts) (shifted_row right_by row) (map (shifted_row right_by) rights)
      ((λ i. row_order (shifted-row_key left_by other i) (shifted-row_key right_by row i)) ∙ row_order-total.antisymm (row_key_of other) (row_key_of row)
      ∙ ap ordering_reverse (less-is (row_order (row_key_of row) (row_key_of other)) h))

  pub merged-gives : GivesLesser left_by right_by merged_shifted
  merged-gives = record { left = give-left; right = give-right }
