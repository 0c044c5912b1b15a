-- The moves and the months of rows, with one row more.
use Rattle.std.proofs.Common.{◌≡◌, ℕ, ◌+◌, ◌<◌, Bool, true, cond, List, [], ◌∷◌, ◌++◌, length, take, get_or, map, Some, None, refl, ap, ◌∙◌, append-nil, arith}
use Rattle.std.specs.List.{list_any, filter_map, cons_option}
use Rattle.std.proofs.lemmas.Bool.Decides.{nat_tests}
use Rattle.std.proofs.lemmas.List.{map-append}
use Rattle.std.proofs.lemmas.List.Elements.{filter_map-append}
use Rattle.explorer_model.specs.declared.archive.Month.{Month}
use Rattle.explorer_model.specs.declared.chess.Move.{Move}
use Rattle.explorer_model.specs.Counting.{is_same_move, is_same_month, distinct}
use Rattle.row_sums.specs.declared.hits.Hit.{Hit}
use Rattle.row_sums.specs.Hits.{NumberedRow, hit_as}
use Rattle.row_sums.specs.Sums.{moves_in, months_in}
use Rattle.row_sums.proofs.Once.{once-more}
use Rattle.row_sums.proofs.Rows.{hit-next}

pub same_move-transitive : (x y z : Move) → is_same_move x y ≡ true → is_same_move y z ≡ true → is_same_move x z ≡ true
same_move-transitive x y z h k = grind (arith, nat_tests)

pub same_month-transitive : (x y z : Month) → is_same_month x y ≡ true → is_same_month y z ≡ true → is_same_month x z ≡ true
same_month-transitive x y z h k = grind (arith, nat_tests)

pub moves-none : moves_in [] ≡ []
unfolding moves_in
moves-none = refl

pub months-none : months_in [] ≡ []
unfolding months_in
months-none = refl

module _ (hits : List Hit) (i : ℕ) (hit : Hit) (within : i < length hits) (is : hit ≡ get_or hits i hit) where
  nexts-more : filter_map (λ h. h.row.next) (take (i + 1) (map hit_as hits)) ≡ filter_map (λ h. h.row.next) (take i (map hit_as hits)) ++ cons_option (hit_as hit).row.next []
  nexts-more =
      ap (λ l. filter_map {X = NumberedRow} (λ h. h.row.next) l) (hit-next hits i hit within is)
      ∙ filter_map-append (λ h. h.row.next) (take i (map hit_as hits)) (hit_as hit ∷ [])

  -- without a move
  pub moves-same : (hit_as hit).row.next ≡ None → moves_in (take (i + 1) (map hit_as hits)) ≡ moves_in (take i (map hit_as hits))
  unfolding moves_in
  moves-same none =
      let before = filter_map {X = NumberedRow} (λ h. h.row.next) (take i (map hit_as hits)) in
      ap (distinct is_same_move) (nexts-more ∙ ap (λ n. before ++ cons_option n []) none ∙ append-nil before)

  -- with a move, by whether it is there already
  pub moves-more : (next : Move) → (hit_as hit).row.next ≡ Some next → (b : Bool)
      → list_any (λ known. is_same_move known next) (moves_in (take i (map hit_as hits))) ≡ b
      → moves_in (take (i + 1) (map hit_as hits)) ≡ cond b (moves_in (take i (map hit_as hits))) (moves_in (take i (map hit_as hits)) ++ next ∷ [])
  unfolding moves_in
  moves-more next some b known =
      let before = filter_map {X = NumberedRow} (λ h. h.row.next) (take i (map hit_as hits)) in
      ap (distinct is_same_move) (nexts-more ∙ ap (λ n. before ++ cons_option n []) some) ∙ once-more is_same_move same_move-transitive before next b known

  pub months-more : (b : Bool) → list_any (λ known. is_same_month known (hit_as hit).row.month) (months_in (take i (map hit_as hits))) ≡ b
      → months_in (take (i + 1) (map hit_as hits)) ≡ cond b (months_in (take i (map hit_as hits))) (months_in (take i (map hit_as hits)) ++ (hit_as hit).row.month ∷ [])
  unfolding months_in
  months-more b known =
      let before = map {A = NumberedRow} (λ h. h.row.month) (take i (map hit_as hits)) in
      ap (distinct is_same_month) (ap (map {A = NumberedRow} (λ h. h.row.month)) (hit-next hits i hit within is) ∙ map-append (λ h. h.row.month) (take i (map hit_as hits)) (hit_as hit ∷ []))
      ∙ once-more is_same_month same_month-transitive before (hit_as hit).row.month b known
