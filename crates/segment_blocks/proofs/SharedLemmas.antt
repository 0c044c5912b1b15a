-- The bytes that two keys begin with alike, as their words tell them.
use Rattle.std.proofs.Common.{◌≡◌, ℕ, zero, suc, ◌+◌, ◌-◌, ◌*◌, ◌/◌, ◌%◌, ◌^◌, ◌<◌, ◌≤◌, List, length, take, get_or, refl, sym, ap, ◌∙◌, arith}
use Rattle.std.specs.Int.{bit_at}
use Rattle.std.specs.Int.RustNames.{bit_xor}
use lib.Count.{count_leading_zeros}
use Rattle.std.proofs.Math.Nat.{pow-suc, pow-le-pow_right, add-mul, mul_assoc, div-eq_of_lt}
use lib.Bits.{xor_self}
use Rattle.std.proofs.lemmas.Nat.{xor_lt, xor_shr, leading_length, leading_top, le-div, pow_pos, same_from_place, mul-add-lt, div-mul-add, pow-add}
use Rattle.std.proofs.lemmas.Nat.Bits.{bit_at_xor, bit_at-zero, bit_at-lt, same_from_bits}
use Rattle.std.proofs.lemmas.List.{take_more_same}
use Rattle.tally_rows.specs.SortEntry.{spelled}
use Rattle.tally_rows.proofs.EntryOrder.{AreBytes}

-- ---- numbers that begin with the same bits

same-bit : (x y : ℕ) → x < 2 → y < 2 → (x + y) % 2 ≡ 0 → x ≡ y
same-bit x y h k e = omega (arith, h, k, e)

same-all : (a b : ℕ) → bit_xor a b ≡ 0 → a ≡ b
same-all a b e =
    same_from_bits a b (λ i. same-bit (bit_at a i) (bit_at b i) (bit_at-lt a i) (bit_at-lt b i) (sym (bit_at_xor a b i) ∙ ap (λ n. bit_at n i) e ∙ bit_at-zero i))

pub same-first : (a b m : ℕ) → a < 2 ^ 64 → b < 2 ^ 64 → 64 ≤ count_leading_zeros 64 (bit_xor a b) + m → a / 2 ^ m ≡ b / 2 ^ m
same-first a b m small little enough =
    let h = leading_length 64 (bit_xor a b) (xor_lt 64 a b small little) in
    let more : 2 ^ h.0 ≤ 2 ^ m = pow-le-pow_right {n = 2} (omega arith) (omega (arith, h.1, enough)) in
    let below : bit_xor a b < 2 ^ m = omega (arith, h.2, more) in
    same-all (a / 2 ^ m) (b / 2 ^ m) (sym (xor_shr a b m) ∙ div-eq_of_lt below)

-- numbers that differ do so in the first bits that are not alike
some-bit : (a b : ℕ) → (a ≡ b → ⊥) → 0 < bit_xor a b
some-bit a b other = nonzero (bit_xor a b) (λ e. other (same-all a b e))
  where
    nonzero : (n : ℕ) → (n ≡ 0 → ⊥) → 0 < n
    nonzero zero h = absurd (h refl)
    nonzero (suc n) h = omega arith

pub leading-some : (a b : ℕ) → a < 2 ^ 64 → b < 2 ^ 64 → (a ≡ b → ⊥) → count_leading_zeros 64 (bit_xor a b) < 64
leading-some a b small little other =
    let h = leading_top 64 (bit_xor a b) (some-bit a b other) (xor_lt 64 a b small little) in
    omega (arith, h.1)

pub other-next : (a b m : ℕ) → a < 2 ^ 64 → b < 2 ^ 64 → (a ≡ b → ⊥) → count_leading_zeros 64 (bit_xor a b) + m < 64 → a / 2 ^ m ≡ b / 2 ^ m → ⊥
other-next a b m small little other few same =
    let x : ℕ = bit_xor a b in
    let h = leading_top 64 x (some-bit a b other) (xor_lt 64 a b small little) in
    let more : 2 ^ m ≤ 2 ^ h.0 = pow-le-pow_right {n = 2} (omega arith) (omega (arith, h.1, few)) in
    let one : 1 ≤ x / 2 ^ m = le-div 1 x (2 ^ m) (pow_pos m) (omega (arith, h.2, more)) in
    let none : x / 2 ^ m ≡ 0 = xor_shr a b m ∙ ap (λ n. bit_xor n (b / 2 ^ m)) same ∙ xor_self (b / 2 ^ m) in
    omega (arith, one, none)

-- ---- bytes that spell one number

power : (n : ℕ) → 256 ^ n ≡ 2 ^ (8 * n)
power zero = refl
power (suc n) =
    let more : 8 * suc n ≡ 8 * n + 8 = omega arith in
    omega (arith, pow-suc 256 n, power n, pow-add 2 (8 * n) 8, ap (λ k. 2 ^ k) more)

module _ (xs : List ℕ) (small : AreBytes xs) where
  below : (n at : ℕ) → spelled xs at n < 256 ^ n
  below zero at = omega arith
  below (suc n) at = omega (arith, pow-suc 256 n, mul-add-lt (get_or xs at 0) (256 ^ n) (spelled xs (at + 1) n) 256 (small at) (below n (at + 1)))

  parts : (k n at : ℕ) → spelled xs at (k + n) ≡ spelled xs at k * 256 ^ n + spelled xs (at + k) n
  parts zero n at =
      let none : 0 + n ≡ n = omega arith in
      let here : at ≡ at + 0 = omega arith in
      omega (arith, ap (λ m. spelled xs at m) none, ap (λ p. spelled xs p n) here)
  parts (suc k) n at =
      let x : ℕ = get_or xs at 0 in
      let there : at + 1 + k ≡ at + suc k = omega arith in
      let all : suc k + n ≡ suc (k + n) = omega arith in
      omega (
        arith,
        ap (λ m. spelled xs at m) all,
        parts k n (at + 1),
        ap (λ p. x * p) (pow-add 256 k n),
        mul_assoc x (256 ^ k) (256 ^ n),
        add-mul (x * 256 ^ k) (spelled xs (at + 1) k) (256 ^ n),
        ap (λ p. spelled xs p n) there,
      )

  -- the first bytes of a word
  front : (s at : ℕ) → s ≤ 8 → spelled xs at 8 / 2 ^ (64 - 8 * s) ≡ spelled xs at s
  front s at within =
      let n : ℕ = 8 - s in
      let all : 8 ≡ s + n = omega (arith, within) in
      let bits : 64 - 8 * s ≡ 8 * n = omega (arith, within) in
      ap (λ m. spelled xs at m / 2 ^ (64 - 8 * s)) all ∙ ap (λ p. spelled xs at (s + n) / 2 ^ p) bits ∙ ap (λ p. spelled xs at (s + n) / p) (sym (power n))
      ∙ ap (λ w. w / 256 ^ n) (parts s n at) ∙ div-mul-add (spelled xs at s) (256 ^ n) (spelled xs (at + s) n) (below n (at + s))

module _ (xs ys : List ℕ) (small : AreBytes xs) (little : AreBytes ys) where
  same-bytes : (k at : ℕ) → at + k ≤ length xs → at + k ≤ length ys → spelled xs at k ≡ spelled ys at k → take at xs ≡ take at ys → take (at + k) xs ≡ take (at + k) ys
  same-bytes zero at fits within e same =
      let here : at + 0 ≡ at = omega arith in
      ap (λ n. take n xs) here ∙ same ∙ sym (ap (λ n. take n ys) here)
  same-bytes (suc k) at fits within e same =
      let there : at + 1 + k ≡ at + suc k = omega arith in
      let both =
      same_from_place (get_or xs at 0) (spelled xs (at + 1) k) (get_or ys at 0) (spelled ys (at + 1) k) (256 ^ k) (below xs small k (at + 1)) (below ys little k (at + 1)) e in
      ap (λ n. take n xs) (sym there)
      ∙ same-bytes k (at + 1) (omega (arith, fits)) (omega (arith, within)) both.1
      (take_more_same xs ys at 0 (omega (arith, fits)) (omega (arith, within)) same both.0)
      ∙ ap (λ n. take n ys) there

  module _ (long : length xs ≡ 34) (wide : length ys ≡ 34) (at : ℕ) (inside : at + 8 ≤ 34) (same : take at xs ≡ take at ys) where
    pub same-word : spelled xs at 8 ≡ spelled ys at 8 → take (at + 8) xs ≡ take (at + 8) ys
    same-word e = same-bytes 8 at (omega (arith, long, inside)) (omega (arith, wide, inside)) e same

    pub same-front : (s : ℕ) → s ≤ 8 → spelled xs at 8 / 2 ^ (64 - 8 * s) ≡ spelled ys at 8 / 2 ^ (64 - 8 * s) → take (at + s) xs ≡ take (at + s) ys
    same-front s within e =
        same-bytes s at (omega (arith, long, inside, within)) (omega (arith, wide, inside, within)) (sym (front xs small s at within) ∙ e ∙ front ys little s at within) same

    -- where the first bytes are alike and the word's next part is not, the next byte is not
    pub other-byte : (s : ℕ) → s < 8 → spelled xs at 8 / 2 ^ (64 - 8 * s) ≡ spelled ys at 8 / 2 ^ (64 - 8 * s)
        → (spelled xs at 8 / 2 ^ (56 - 8 * s) ≡ spelled ys at 8 / 2 ^ (56 - 8 * s) → ⊥) → get_or xs (at + s) 0 ≡ get_or ys (at + s) 0 → ⊥
    other-byte s within e other byte =
        let first : spelled xs at s ≡ spelled ys at s = sym (front xs small s at (omega (arith, within))) ∙ e ∙ front ys little s at (omega (arith, within)) in
        let more : spelled xs at (s + 1) ≡ spelled ys at (s + 1) =
        parts xs small s 1 at ∙ (λ i. first i * 256 ^ 1 + (byte i * 256 ^ 0 + 0)) ∙ sym (parts ys little s 1 at) in
        let bits : 56 - 8 * s ≡ 64 - 8 * (s + 1) = omega (arith, within) in
        other (ap (λ m. spelled xs at 8 / 2 ^ m) bits ∙ front xs small (s + 1) at (omega (arith, within)) ∙ more
        ∙ sym (front ys little (s + 1) at (omega (arith, within))) ∙ sym (ap (λ m. spelled ys at 8 / 2 ^ m) bits))
