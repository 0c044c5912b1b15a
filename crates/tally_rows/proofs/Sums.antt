-- Sums over lists, and the sum over cells.
use Rattle.std.proofs.Common.{◌≡◌, ℕ, ◌+◌, ◌*◌, Bool, true, false, ◌&&◌, cond, List, [], ◌∷◌, map, ap, sym, ◌∙◌, refl, arith}
use Rattle.std.specs.List.{sum_by, count_by, filter, flat_map, AllByRecursion}
use Rattle.std.proofs.lemmas.List.Sums.{sum_by-cons, sum_by-append}

module _ {X : Type 0} where
  -- the sums of functions that agree at each element
  pub sum_by-agree : (f g : X → ℕ) (xs : List X) → AllByRecursion (λ x. f x ≡ g x) xs → sum_by f xs ≡ sum_by g xs
  sum_by-agree f g [] h = refl
  sum_by-agree f g (x ∷ xs) h = omega (arith, sum_by-cons f x xs, sum_by-cons g x xs, h.0, sum_by-agree f g xs h.1)

  pub sum_by-add : (f g : X → ℕ) (xs : List X) → sum_by (λ x. f x + g x) xs ≡ sum_by f xs + sum_by g xs
  sum_by-add f g [] = refl
  sum_by-add f g (x ∷ xs) =
      omega (arith, sum_by-cons (λ y. f y + g y) x xs, sum_by-cons f x xs, sum_by-cons g x xs, sum_by-add f g xs)

  pub sum_by-zero : (xs : List X) → sum_by (λ x. 0) xs ≡ 0
  sum_by-zero [] = refl
  sum_by-zero (x ∷ xs) = omega (arith, sum_by-cons (λ y. 0) x xs, sum_by-zero xs)

  pub sum_by-filter : (f : X → ℕ) (p : X → Bool) (xs : List X) → sum_by f (filter p xs) ≡ sum_by (λ x. cond (p x) (f x) 0) xs
  sum_by-filter f p [] = refl
  sum_by-filter f p (x ∷ xs) =
      elim (p x) as (λ b. sum_by f (cond b (x ∷ filter p xs) (filter p xs)) ≡ cond b (f x) 0 + sum_by (λ y. cond (p y) (f y) 0) xs) [
        | true ↦ omega (arith, sum_by-cons f x (filter p xs), sum_by-filter f p xs)
        | false ↦ omega (arith, sum_by-filter f p xs)
      ]
      ∙ sym (sum_by-cons (λ y. cond (p y) (f y) 0) x xs)

  -- the sum of one number at each element that passes
  pub sum_by-constant : (p : X → Bool) (n : ℕ) (xs : List X) → sum_by (λ x. cond (p x) n 0) xs ≡ count_by p xs * n
  sum_by-constant p n [] = omega arith
  sum_by-constant p n (x ∷ xs) =
      sum_by-cons (λ y. cond (p y) n 0) x xs
      ∙ elim (p x) as (λ b. cond b n 0 + sum_by (λ y. cond (p y) n 0) xs ≡ (cond b 1 0 + count_by p xs) * n) [
        | true ↦ omega (arith, sum_by-constant p n xs)
        | false ↦ omega (arith, sum_by-constant p n xs)
      ]
      ∙ ap (λ m. m * n) (sym (sum_by-cons (λ y. cond (p y) 1 0) x xs))

  pub sum_by-condition : (b : Bool) (f : X → ℕ) (xs : List X) → sum_by (λ x. cond b (f x) 0) xs ≡ cond b (sum_by f xs) 0
  sum_by-condition true f xs = refl
  sum_by-condition false f xs = sum_by-zero xs

module _ {X Y : Type 0} where
  pub sum_by-map : (f : Y → ℕ) (g : X → Y) (xs : List X) → sum_by f (map g xs) ≡ sum_by (λ x. f (g x)) xs
  sum_by-map f g [] = refl
  sum_by-map f g (x ∷ xs) = omega (arith, sum_by-cons f (g x) (map g xs), sum_by-cons (λ y. f (g y)) x xs, sum_by-map f g xs)

  pub sum_by-flat_map : (f : Y → ℕ) (g : X → List Y) (xs : List X) → sum_by f (flat_map g xs) ≡ sum_by (λ x. sum_by f (g x)) xs
  sum_by-flat_map f g [] = refl
  sum_by-flat_map f g (x ∷ xs) =
      omega (arith, sum_by-append f (g x) (flat_map g xs), sum_by-cons (λ y. sum_by f (g y)) x xs, sum_by-flat_map f g xs)

  -- sums of sums may be taken the other way round
  pub sum_by-swap : (f : X → Y → ℕ) (xs : List X) (ys : List Y)
      → sum_by (λ x. sum_by (f x) ys) xs ≡ sum_by (λ y. sum_by (λ x. f x y) xs) ys
  sum_by-swap f [] ys = sym (sum_by-zero ys)
  sum_by-swap f (x ∷ xs) ys =
      sum_by-cons (λ z. sum_by (f z) ys) x xs ∙ ap (λ n. sum_by (f x) ys + n) (sum_by-swap f xs ys)
      ∙ sym (sum_by-add (f x) (λ y. sum_by (λ z. f z y) xs) ys)
      ∙ ap (λ g. sum_by g ys) (λ i y. sym (sum_by-cons (λ z. f z y) x xs) i)

  -- Each value that is counted falls into just one of the cells that are picked, and each other one into none. Then the
  -- sum over those cells, of what falls in, is the sum over what is counted.
  pub cells_sum : (picked : X → Bool) (falls : X → Y → Bool) (counted : Y → Bool) (f : Y → ℕ) (cells : List X) (ys : List Y)
      → AllByRecursion (λ y. count_by (λ x. picked x && falls x y) cells ≡ cond (counted y) 1 0) ys
      → sum_by (λ x. cond (picked x) (sum_by (λ y. cond (falls x y) (f y) 0) ys) 0) cells ≡ sum_by (λ y. cond (counted y) (f y) 0) ys
  cells_sum picked falls counted f cells ys hits =
      ap (λ g. sum_by g cells) (λ i x. at_cell x i) ∙ sum_by-swap (λ x y. cond (picked x && falls x y) (f y) 0) cells ys
      ∙ sum_by-agree (λ y. sum_by (λ x. cond (picked x && falls x y) (f y) 0) cells) (λ y. cond (counted y) (f y) 0) ys (each ys hits)
    where
      both : (b c : Bool) (n : ℕ) → cond b (cond c n 0) 0 ≡ cond (b && c) n 0
      both true c n = refl
      both false c n = refl

      at_cell : (x : X) → cond (picked x) (sum_by (λ y. cond (falls x y) (f y) 0) ys) 0 ≡ sum_by (λ y. cond (picked x && falls x y) (f y) 0) ys
      at_cell x = sym (sum_by-condition (picked x) (λ y. cond (falls x y) (f y) 0) ys) ∙ ap (λ g. sum_by g ys) (λ i y. both (picked x) (falls x y) (f y) i)

      once : (b : Bool) (n : ℕ) → cond b 1 0 * n ≡ cond b n 0
      once true n = omega arith
      once false n = omega arith

      each : (zs : List Y) → AllByRecursion (λ y. count_by (λ x. picked x && falls x y) cells ≡ cond (counted y) 1 0) zs
          → AllByRecursion (λ y. sum_by (λ x. cond (picked x && falls x y) (f y) 0) cells ≡ cond (counted y) (f y) 0) zs
      each [] h = tt
      each (z ∷ zs) h = (
        sum_by-constant (λ x. picked x && falls x z) (f z) cells ∙ ap (λ n. n * f z) h.0 ∙ once (counted z) (f z),
        each zs h.1,
      )
