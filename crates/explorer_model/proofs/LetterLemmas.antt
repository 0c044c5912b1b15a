-- A written square is read as the square.
use Rattle.std.proofs.Common.{arith, ◌≡◌, ◌∙◌, ap, ℕ, ◌+◌, ◌*◌, ◌<◌, ◌/◌, ◌%◌, Option, Some, None, option_map, option_and_then}
use Rattle.std.proofs.lemmas.Bool.Decides.{nat_tests}
use Rattle.explorer_model.specs.Letters.{byte, file_named, rank_named, file_letter, rank_digit, square_named}

pub file_read : (n : ℕ) → n < 8 → file_named (byte "a" + n) ≡ Some n
file_read n h = grind (arith, nat_tests)

pub rank_read : (n : ℕ) → n < 8 → rank_named (byte "1" + n) ≡ Some n
rank_read n h = grind (arith, nat_tests)

joined : (file rank : Option ℕ) (f r : ℕ) → file ≡ Some f → rank ≡ Some r
    → option_and_then (λ a. option_map (λ b. 8 * b + a) rank) file ≡ Some (8 * r + f)
joined (Some a) (Some b) f r e g = cc
joined (Some a) None f r e g = cc
joined None rank f r e g = cc

pub square_read : (s : ℕ) → s < 64 → square_named (file_letter s) (rank_digit s) ≡ Some s
square_read s h =
    joined (file_named (file_letter s)) (rank_named (rank_digit s)) (s % 8) (s / 8) (file_read (s % 8) (omega arith))
    (rank_read (s / 8) (omega (arith, h)))
    ∙ ap (λ (n : ℕ). Some n) (omega arith)
