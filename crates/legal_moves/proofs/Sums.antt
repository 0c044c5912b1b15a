-- Sums over the numbers below a bound.
use Rattle.std.proofs.Common.{◌≡◌, ℕ, zero, suc, ◌+◌, ◌-◌, ◌<◌, ◌≤◌, refl, sym, ◌∙◌, ap, add-zero, arith}

unfoldable pub sum_below : (ℕ → ℕ) → ℕ → ℕ
sum_below f zero = 0
sum_below f (suc n) = sum_below f n + f n

pub sum_below-more : (f : ℕ → ℕ) (n : ℕ) → sum_below f (n + 1) ≡ sum_below f n + f n
unfolding sum_below
sum_below-more f n = ap (sum_below f) (let e : n + 1 ≡ suc n = omega arith in e)

pub sum_below-add : (f : ℕ → ℕ) (n d : ℕ) → sum_below f (n + d) ≡ sum_below f n + sum_below (λ k. f (n + k)) d
unfolding sum_below
sum_below-add f n zero = ap (sum_below f) (add-zero n) ∙ sym (add-zero (sum_below f n))
sum_below-add f n (suc d) =
    let e : n + suc d ≡ suc (n + d) = omega arith in
    let h : sum_below f (n + d) ≡ sum_below f n + sum_below (λ k. f (n + k)) d = sum_below-add f n d in
    let step : sum_below f (n + suc d) ≡ sum_below f (n + d) + f (n + d) = ap (sum_below f) e in
    omega arith

below_suc : (k n : ℕ) → k < n → k < suc n
below_suc k n h = omega arith

pub sum_below-cong : (f g : ℕ → ℕ) (n : ℕ) → ((k : ℕ) → k < n → f k ≡ g k) → sum_below f n ≡ sum_below g n
unfolding sum_below
sum_below-cong f g zero same = refl
sum_below-cong f g (suc n) same =
    let h : sum_below f n ≡ sum_below g n = sum_below-cong f g n (λ k l. same k (below_suc k n l)) in
    let e : f n ≡ g n = same n (omega arith) in
    omega arith

pub sum_below-le : (f : ℕ → ℕ) (n k : ℕ) → n ≤ k → sum_below f n ≤ sum_below f k
sum_below-le f n k h =
    let e : n + (k - n) ≡ k = omega arith in
    let s : sum_below f (n + (k - n)) ≡ sum_below f n + sum_below (λ i. f (n + i)) (k - n) = sum_below-add f n (k - n) in
    let t : sum_below f (n + (k - n)) ≡ sum_below f k = ap (sum_below f) e in
    omega arith
