-- Laws: numbers that are halved, as in a search by halves, powers of ten, and digits of a text.
use Rattle.std.proofs.Common.{◌≡◌, ℕ, zero, suc, ◌+◌, ◌-◌, ◌*◌, ◌/◌, ◌<◌, ◌≤◌, ◌^◌, true, List, ◌∷◌, length, drop, slice_index_or, subst, arith}
use Rattle.std.specs.Str.{all_ascii_digits}
use Rattle.std.proofs.lemmas.Bool.Decides.{nat_tests}
use Rattle.std.proofs.Math.Nat.{pow-suc}
use Rattle.std.proofs.Math.Seq.{drop-cons}

-- half of a size has a binary digit less
pub record Halves (size left : ℕ) : Type 0 where
  pub less : ℕ
  pub is : left ≡ less + 1
  pub half : size / 2 < 2 ^ less
  pub rest : size - (size / 2 + 1) < 2 ^ less

pub halves : (size left : ℕ) → 0 < size → size < 2 ^ left → Halves size left
halves size zero some below = absurd (omega arith)
halves size (suc left) some below =
    let power : 2 ^ suc left ≡ 2 ^ left * 2 = pow-suc 2 left in
    record { less = left; is = omega arith; half = omega (arith, power); rest = omega (arith, power) }

-- ---- powers of ten

pub ten-more : (i j : ℕ) → 10 ^ i ≤ 10 ^ (i + j)
ten-more i zero =
    let same : i ≡ i + 0 = omega arith in
    let itself : 10 ^ i ≤ 10 ^ i = omega arith in
    subst (λ k. 10 ^ i ≤ 10 ^ k) same itself
ten-more i (suc j) =
    let same : suc (i + j) ≡ i + suc j = omega arith in
    let power : 10 ^ suc (i + j) ≡ 10 ^ (i + j) * 10 = pow-suc 10 (i + j) in
    let less : 10 ^ i ≤ 10 ^ (i + j) = ten-more i j in
    let more : 10 ^ i ≤ 10 ^ suc (i + j) = omega (arith, power, less) in
    subst (λ k. 10 ^ i ≤ 10 ^ k) same more

pub ten-rises : (i j : ℕ) → i ≤ j → 10 ^ i ≤ 10 ^ j
ten-rises i j le =
    let same : i + (j - i) ≡ j = omega arith in
    subst (λ k. 10 ^ i ≤ 10 ^ k) same (ten-more i (j - i))

-- ---- digits of a text

-- one of the digits is at most nine
pub digit-at : (i : ℕ) (text : List ℕ) → i < length text → all_ascii_digits (drop i text) ≡ true
    → slice_index_or text i 0 - 48 ≤ 9
digit-at i text within digits =
    let here : all_ascii_digits (slice_index_or text i 0 ∷ drop (suc i) text) ≡ true =
    subst (λ ds. all_ascii_digits ds ≡ true) (drop-cons text i 0 within) digits
    in
    grind (arith, nat_tests)
