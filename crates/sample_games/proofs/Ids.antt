-- A number by its digits.
use Rattle.std.proofs.Common.{◌≡◌, ℕ, ◌/◌, ◌%◌, ◌<◌, List, get_or, ap, arith}
use Rattle.sample_games.specs.Samples.{id_text}

by-hundred-thousands : (m n : ℕ) → m < 131072 → n < 131072 → m / 100000 % 10 ≡ n / 100000 % 10 → m / 100000 ≡ n / 100000
by-hundred-thousands m n low high same = omega (arith, low, high, same)

pub ids-differ : (m n : ℕ) → m < 131072 → n < 131072 → id_text m ≡ id_text n → m ≡ n
ids-differ m n low high same =
    let at : (k : ℕ) → get_or (id_text m) k 0 ≡ get_or (id_text n) k 0 = λ k. ap (λ (id : List ℕ). get_or id k 0) same in
    let d5 : m / 100000 ≡ n / 100000 = by-hundred-thousands m n low high (omega (arith, at 2)) in
    let d4 : m / 10000 ≡ n / 10000 = omega (arith, d5, at 3) in
    let d3 : m / 1000 ≡ n / 1000 = omega (arith, d4, at 4) in
    let d2 : m / 100 ≡ n / 100 = omega (arith, d3, at 5) in
    let d1 : m / 10 ≡ n / 10 = omega (arith, d2, at 6) in
    omega (arith, d1, at 7)
