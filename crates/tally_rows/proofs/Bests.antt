-- The best of lists in a row.
use Rattle.std.proofs.Common.{◌≡◌, ℕ, Bool, List, ◌++◌, sym, ap, ◌∙◌}
use Rattle.explorer_model.specs.Best.{best, IsStrictTotalOrder}
use Rattle.best_lists.proofs.BestLaws.{best-append, best-best}

module _ {X : Type 0} {before : X → X → Bool} (order : IsStrictTotalOrder before) (n : ℕ) where
  -- the left list may give way to its best
  pub best-left : (xs ys : List X) → best before n (best before n xs ++ ys) ≡ best before n (xs ++ ys)
  best-left xs ys =
      best-append order n (best before n xs) ys ∙ ap (λ l. best before n (l ++ best before n ys)) (best-best order n xs)
      ∙ sym (best-append order n xs ys)

  -- the right list may give way to one with the same best
  pub best-right : (xs ys zs : List X) → best before n ys ≡ best before n zs → best before n (xs ++ ys) ≡ best before n (xs ++ zs)
  best-right xs ys zs e =
      best-append order n xs ys ∙ ap (λ l. best before n (best before n xs ++ l)) e ∙ sym (best-append order n xs zs)
