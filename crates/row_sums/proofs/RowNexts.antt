-- What holds of the move of each row holds of the moves of rows.
use Rattle.std.proofs.Common.{◌≡◌, not, List, [], ◌∷◌, Option, Some, None, refl}
use Rattle.std.specs.List.{AllByRecursion, filter_map, cons_option}
use Rattle.explorer_model.specs.declared.chess.Move.{Move}
use Rattle.explorer_model.specs.Counting.{distinct, is_same_move}
use Rattle.explorer_model.proofs.Lists.{filter-have}
use Rattle.row_sums.specs.Hits.{NumberedRow}
use Rattle.row_sums.specs.Sums.{moves_in}

module _ (P : Move → Type 0) where
  abbrev pub HitHas : NumberedRow → Type 0
  HitHas hit = (m : Move) → hit.row.next ≡ Some m → P m

  pub distinct-have : (moves : List Move) → AllByRecursion P moves → AllByRecursion P (distinct is_same_move moves)
  distinct-have [] each = tt
  distinct-have (m ∷ moves) each = (each.0, filter-have P (λ n. not (is_same_move m n)) (distinct is_same_move moves) (distinct-have moves each.1))

  next-has : (next : Option Move) (moves : List Move) → ((m : Move) → next ≡ Some m → P m) → AllByRecursion P moves → AllByRecursion P (cons_option next moves)
  next-has None moves has each = each
  next-has (Some m) moves has each = (has m refl, each)

  nexts-have : (hits : List NumberedRow) → AllByRecursion HitHas hits → AllByRecursion P (filter_map (λ hit. hit.row.next) hits)
  nexts-have [] each = tt
  nexts-have (hit ∷ hits) each = next-has hit.row.next (filter_map (λ hit. hit.row.next) hits) each.0 (nexts-have hits each.1)

  pub moves-have : (hits : List NumberedRow) → AllByRecursion HitHas hits → AllByRecursion P (moves_in hits)
  unfolding moves_in
  moves-have hits each = distinct-have (filter_map (λ hit. hit.row.next) hits) (nexts-have hits each)
