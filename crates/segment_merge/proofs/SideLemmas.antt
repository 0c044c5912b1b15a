-- The rows of a side, as its walk gives them and shifted.
use Rattle.std.proofs.Common.{◌≡◌, ℕ, List, [], ◌∷◌, ◌++◌, map, refl, sym, ap, subst, ◌∙◌, append_assoc, append-nil}
use Rattle.tally_rows.specs.declared.row.Row.{Row}
use Rattle.tally_rows.specs.Row.{shifted_row}
use Rattle.segment_blocks.specs.PackedRows.{AreInOrder}
use Rattle.segment_blocks.proofs.OrderLemmas.{in_order-front}
use Rattle.segment_merge.specs.Pushed.{HasPushed}

module _ (by : ℕ) (walk rows new : List Row) where
  pub pushed-none : walk ≡ [] → new ≡ rows → (rest : List Row) → rest ≡ [] → HasPushed (map (shifted_row by) walk) (map (shifted_row by) rest) rows new
  pushed-none none same rest nothing =
      subst (λ w. HasPushed (map (shifted_row by) w) (map (shifted_row by) rest) rows new) (sym none)
      (record { left = ap (map (shifted_row by)) nothing; behind = same ∙ sym (append-nil rows) })

  pub pushed-one : (row : Row) (rest : List Row) → walk ≡ row ∷ rest → new ≡ rows ++ shifted_row by row ∷ []
      → HasPushed (map (shifted_row by) walk) (map (shifted_row by) rest) rows new
  pushed-one row rest is moved =
      subst (λ w. HasPushed (map (shifted_row by) w) (map (shifted_row by) rest) rows new) (sym is) (record { left = refl; behind = moved })

-- the next row may stand behind those that all of the side may stand behind
pub in_order-next : (by : ℕ) (rows walk : List Row) (row : Row) (rest : List Row) → walk ≡ row ∷ rest → AreInOrder (rows ++ map (shifted_row by) walk)
    → AreInOrder (rows ++ shifted_row by row ∷ [])
in_order-next by rows walk row rest is ordered =
    in_order-front (rows ++ shifted_row by row ∷ []) (map (shifted_row by) rest)
    (subst AreInOrder (ap (λ w. rows ++ map (shifted_row by) w) is ∙ sym (append_assoc rows (shifted_row by row ∷ []) (map (shifted_row by) rest))) ordered)
