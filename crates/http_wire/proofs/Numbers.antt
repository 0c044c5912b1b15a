-- Numbers of a few decimal digits.
use Rattle.std.proofs.Common.{arith, ◌≡◌, subst, refl, ℕ, suc, ◌+◌, ◌-◌, ◌*◌, ◌<◌, ◌≤◌, ◌^◌}
use Rattle.std.proofs.Math.Nat.{pow-suc}
use Rattle.plain_laws.specs.Numbers.{ten-rises}

-- one digit more
pub next_short : (i n d : ℕ) → n < 10 ^ i → d ≤ 9 → 10 * n + d < 10 ^ (i + 1)
next_short i n d short digit =
    let power : 10 ^ suc i ≡ 10 ^ i * 10 = pow-suc 10 i in
    let next : suc i ≡ i + 1 = omega arith in
    subst (λ k. 10 * n + d < 10 ^ k) next (omega (arith, power))

-- a number of at most nine digits leaves room for one more
pub fits_next : (i n : ℕ) → i < 10 → n < 10 ^ i → 10 * n + 9 < 18446744073709551616
fits_next i n few short =
    let least : 10 ^ i ≤ 10 ^ 9 = ten-rises i 9 (omega arith) in
    let power : 10 ^ 9 ≡ 1000000000 = refl in
    omega (arith, least, power)
