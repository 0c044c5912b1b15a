-- Two squares are equal where their numbers are, and a loop over the squares goes on by one.
use Rattle.std.proofs.Common.{◌≡◌, ℕ, ◌+◌, ◌<◌, ap, sym, ◌∙◌, subst, inl, inr, arith}
use Rattle.std.proofs.Math.Nat.{eq-or-lt_of_le}
use Rattle.std.specs.Coded.{le_prop}
use Rattle.explorer_model.specs.declared.square.Square.{Square}

abbrev pub on : (n : ℕ) → n < 64 → Square
on n on_board = record { index = n; on_board = on_board }

on_eq : (a b : ℕ) → a ≡ b → (on_a : a < 64) (on_b : b < 64) → on a on_a ≡ on b on_b
on_eq a b e on_a =
    let P : ℕ → Type 0 = λ n. (on_n : n < 64) → on a on_a ≡ on n on_n
    in subst P e (λ on_n. ap (λ h. on a h) (le_prop on_a on_n))

pub square_eq : (a b : Square) → a.index ≡ b.index → a ≡ b
square_eq a b e = on_eq a.index b.index e a.on_board b.on_board

-- no square below n + 1, where none below n and not the square n
pub none_below-more : (P : Square → Type 0) (n : ℕ)
    → ((s : Square) → s.index < n → ¬ P s)
    → (last : Square) → last.index ≡ n → ¬ P last
    → (s : Square) → s.index < n + 1 → ¬ P s
none_below-more P n before last at_n not_last s below p =
    elim (eq-or-lt_of_le {n = s.index} {m = n} (omega (arith, below))) [
      | inr less ↦ before s less p
      | inl equal ↦ not_last (subst P (square_eq s last (equal ∙ sym at_n)) p)
    ]
