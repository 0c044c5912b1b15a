-- A list of four that stays as it is, since nothing that comes is before its last entry.
use Rattle.std.proofs.Common.{◌≡◌, ℕ, ◌<◌, Bool, false, List, [], ◌∷◌, ◌++◌, map, length, get_or, ap, ◌∙◌, subst, arith}
use Rattle.explorer_model.specs.Best.{best, IsBestFirst, IsStrictTotalOrder}
use Rattle.best_lists.specs.Entry.{moved_by}
use Rattle.best_lists.specs.Ranking.{KeepsWhenMoved}
use Rattle.best_lists.specs.declared.entry.Entry.{Entry}
use Rattle.best_lists.proofs.BestLaws.{IsBestFirst-best, SplitsBest-left_first, best-zero}
use Rattle.best_lists.proofs.Entries.{best-moved}
use Rattle.best_lists.proofs.Ranked.{not_before-trans}

module _ {X : Type 0} {before : X → X → Bool} (order : IsStrictTotalOrder before) where
  pub four-stay : (a b c d y : X) (ys : List X) → IsBestFirst before (a ∷ b ∷ c ∷ d ∷ []) → IsBestFirst before (y ∷ ys) → before y d ≡ false
      → best before 4 (a ∷ b ∷ c ∷ d ∷ y ∷ ys) ≡ a ∷ b ∷ c ∷ d ∷ []
  four-stay a b c d y ys four rest behind =
      let of_a = SplitsBest-left_first order a (b ∷ c ∷ d ∷ []) y ys four rest (not_before-trans order a d y (four 0 3 d (omega arith) (omega arith)) behind) in
      let of_b = SplitsBest-left_first order b (c ∷ d ∷ []) y ys of_a.left_in_order rest (not_before-trans order b d y (four 1 3 d (omega arith) (omega arith)) behind) in
      let of_c = SplitsBest-left_first order c (d ∷ []) y ys of_b.left_in_order rest (not_before-trans order c d y (four 2 3 d (omega arith) (omega arith)) behind) in
      let of_d = SplitsBest-left_first order d [] y ys of_c.left_in_order rest behind in
      of_a.best_of_both 3
      ∙ ap (λ l. a ∷ l) (of_b.best_of_both 2
      ∙ ap (λ l. b ∷ l) (of_c.best_of_both 1
      ∙ ap (λ l. c ∷ l) (of_d.best_of_both 0 ∙ ap (λ l. d ∷ l) (best-zero before (y ∷ ys)))))

-- the same, where what comes is moved first
module _ {before : Entry → Entry → Bool} (order : IsStrictTotalOrder before) (keeps : KeepsWhenMoved before) (by : ℕ) where
  moved-first : (others : List Entry) → best before 4 others ≡ others → IsBestFirst before (map (moved_by by) others)
  moved-first others own =
      subst (IsBestFirst before) (best-moved keeps by 4 others ∙ ap (map (moved_by by)) own) (IsBestFirst-best order 4 (map (moved_by by) others))

  pub list-stays : (own others : List Entry) (z : Entry) → length own ≡ 4 → IsBestFirst before own → best before 4 others ≡ others → 0 < length others
      → before (moved_by by (get_or others 0 z)) (get_or own 3 z) ≡ false → best before 4 (own ++ map (moved_by by) others) ≡ own
  list-stays (a ∷ b ∷ c ∷ d ∷ []) (e ∷ es) z long own_first others_best some behind =
      four-stay order a b c d (moved_by by e) (map (moved_by by) es) own_first (moved-first (e ∷ es) others_best) behind
  list-stays own [] z long own_first others_best some behind = absurd (omega arith)
  list-stays [] others z long own_first others_best some behind = absurd (omega arith)
  list-stays (a ∷ []) others z long own_first others_best some behind = absurd (omega arith)
  list-stays (a ∷ b ∷ []) others z long own_first others_best some behind = absurd (omega arith)
  list-stays (a ∷ b ∷ c ∷ []) others z long own_first others_best some behind = absurd (omega arith)
  list-stays (a ∷ b ∷ c ∷ d ∷ x ∷ xs) others z long own_first others_best some behind = absurd (omega arith)
