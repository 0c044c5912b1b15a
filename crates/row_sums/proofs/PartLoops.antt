-- What stands at a place of a list stands there in what is made of it.
use Rattle.std.proofs.Common.{◌≡◌, ℕ, zero, suc, ◌<◌, ◌≤◌, List, [], ◌∷◌, map, length, get_or, refl, sym, ap, ◌∙◌, arith}
use Rattle.std.proofs.lemmas.List.{length-map}

module _ {X Y : Type 0} (f : X → Y) where
  get-map : (xs : List X) (i : ℕ) (d : X) → get_or (map f xs) i (f d) ≡ f (get_or xs i d)
  get-map [] i d = refl
  get-map (x ∷ xs) zero d = refl
  get-map (x ∷ xs) (suc i) d = get-map xs i d

  pub mapped-within : (xs : List X) (i : ℕ) → i < length xs → i < length (map f xs)
  mapped-within xs i within = omega (arith, within, length-map xs f)

  pub mapped-at : (xs : List X) (i : ℕ) (x : X) → x ≡ get_or xs i x → f x ≡ get_or (map f xs) i (f x)
  mapped-at xs i x is = ap f is ∙ sym (get-map xs i x)

  pub mapped-past : (xs : List X) (i : ℕ) → length xs ≤ i → length (map f xs) ≤ i
  mapped-past xs i past = omega (arith, past, length-map xs f)
