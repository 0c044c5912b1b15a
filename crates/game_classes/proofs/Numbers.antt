-- Numbers of a few decimal digits.
use Rattle.std.proofs.Common.{arith, ◌≡◌, refl, ℕ, suc, ◌+◌, ◌-◌, ◌*◌, ◌<◌, ◌≤◌, ◌^◌}
use Rattle.std.proofs.Math.Nat.{pow-suc}
use Rattle.plain_laws.specs.Numbers.{ten-rises}

-- one digit more
pub next_short : (i n d : ℕ) → n < 10 ^ i → d ≤ 9 → 10 * n + d < 10 ^ suc i
next_short i n d short digit = let power : 10 ^ suc i ≡ 10 ^ i * 10 = pow-suc 10 i in omega (arith, power)

-- a number of at most eight digits leaves room for one more
pub fits_next : (i n : ℕ) → i < 9 → n < 10 ^ i → 10 * n + 9 < 4294967296
fits_next i n few short =
    let least : 10 ^ i ≤ 10 ^ 8 = ten-rises i 8 (omega arith) in
    let power : 10 ^ 8 ≡ 100000000 = refl in
    omega (arith, least, power)
