-- A list that grows by runs of one list and single values of another.
use Rattle.std.proofs.Common.{◌≡◌, ℕ, zero, suc, ◌+◌, ◌<◌, ◌≤◌, Bool, true, false, List, [], ◌∷◌, ◌++◌, length, take, drop, get_or, sym, ap, subst, ◌∙◌, arith}
use Rattle.std.specs.List.{AllByRecursion}
use Rattle.std.specs.List.Sorted.{IsPermutation}
use Rattle.std.proofs.lemmas.List.{append_assoc, drop-drop, drop_more, get_or-drop, get_or-take, length-drop, length-take, take-append-drop, take_all}
use Rattle.std.proofs.lemmas.List.Elements.{recursion_from_All}
use Rattle.explorer_model.specs.Best.{IsStrictTotalOrder, IsBestFirst}
use Rattle.best_lists.proofs.BestLaws.{best_is, best-IsBestFirst}
use Rattle.best_lists.proofs.Ranked.{puts, ranked, Behind, InOrder, length-ranked}
use Rattle.best_lists.proofs.Same.{best-IsPermutation}
use Rattle.player_index.proofs.Ranking.{AreBefore, puts-next}

module _ {X : Type 0} (before : X → X → Bool) where
  Behind-from_recursion : (x : X) (ys : List X) → AllByRecursion (λ y. before y x ≡ false) ys → Behind before x ys
  Behind-from_recursion x [] each = tt
  Behind-from_recursion x (y ∷ ys) each = (each.0, Behind-from_recursion x ys each.1)

  pub InOrder-drop : (n : ℕ) (xs : List X) → InOrder before xs → InOrder before (drop n xs)
  InOrder-drop zero xs h = h
  InOrder-drop (suc n) [] h = tt
  InOrder-drop (suc n) (x ∷ xs) h = InOrder-drop n xs h.1

module _ {X : Type 0} {before : X → X → Bool} (order : IsStrictTotalOrder before) (old more : List X) where
  -- what is left of both lists, put behind what is done, is both lists in one
  pub record Merging (done : List X) (i at : ℕ) : Type 0 where
    pub within : at ≤ length old
    pub whole : done ++ puts before (drop i more) (drop at old) ≡ puts before more old

  pub merging-next : (done : List X) (i at run : ℕ) (x : X) → Merging done i at → i < length more → x ≡ get_or more i x
      → InOrder before more → run ≤ length (drop at old)
      → ((k : ℕ) (d : X) → k < run → before (get_or (drop at old) k d) x ≡ true)
      → ((k : ℕ) (d : X) → run ≤ k → k < length (drop at old) → before (get_or (drop at old) k d) x ≡ false)
      → Merging ((done ++ take run (drop at old)) ++ x ∷ []) (i + 1) (at + run)
  merging-next done i at run x so_far inside is in_order fits below above =
      let left = drop at old in
      let here : drop i more ≡ x ∷ drop (i + 1) more =
      drop_more more i x inside ∙ ap (λ y. y ∷ drop (i + 1) more) (sym is) in
      let rest : drop run left ≡ drop (at + run) old = drop-drop run at old in
      let tail : InOrder before (x ∷ drop (i + 1) more) = subst (InOrder before) here (InOrder-drop before i more in_order) in
      let firsts : AreBefore order x (take run left) = recursion_from_All (λ y. before y x ≡ true) (take run left)
      (λ k d less.
      let in_run : k < run = omega (arith, less, length-take run left, fits) in
      ap (λ y. before y x) (get_or-take run left k d in_run) ∙ below k d in_run) in
      let lasts : Behind before x (drop run left) = Behind-from_recursion before x (drop run left) (recursion_from_All (λ y. before y x ≡ false) (drop run left)
      (λ k d less.
      let in_left : run + k < length left = omega (arith, less, length-drop run left, fits) in
      ap (λ y. before y x) (get_or-drop run left k d) ∙ above (run + k) d (omega arith) in_left)) in
      let next : puts before (drop i more) left ≡ take run left ++ x ∷ puts before (drop (i + 1) more) (drop (at + run) old) =
      (λ k. puts before (here k) (sym (take-append-drop run left) k))
      ∙ puts-next order x (drop (i + 1) more) (take run left) (drop run left) tail.0 firsts lasts
      ∙ ap (λ l. take run left ++ x ∷ puts before (drop (i + 1) more) l) rest in
      record {
        within = omega (arith, so_far.within, fits, length-drop at old);
        whole = append_assoc (done ++ take run left) (x ∷ []) (puts before (drop (i + 1) more) (drop (at + run) old))
            ∙ append_assoc done (take run left) (x ∷ puts before (drop (i + 1) more) (drop (at + run) old))
            ∙ ap (λ l. done ++ l) (sym next)
            ∙ so_far.whole;
      }

-- ---- a list that was sorted

module _ {X : Type 0} {before : X → X → Bool} (order : IsStrictTotalOrder before) where
  pub sorted-ranked : (xs sorted : List X) → IsPermutation xs sorted → IsBestFirst before sorted → length sorted ≡ length xs → sorted ≡ ranked before xs
  sorted-ranked xs sorted permuted first long =
      let n = length xs in
      sym (best-IsBestFirst order n sorted first (omega (arith, long)))
      ∙ sym (best-IsPermutation order n xs sorted permuted)
      ∙ best_is order n xs
      ∙ take_all n (ranked before xs) (omega (arith, length-ranked before xs))
