-- How many squares the queen's lines have.
use Rattle.std.proofs.Common.{◌≡◌, ℕ, zero, suc, ◌+◌, ◌<◌, ◌≤◌, Bool, true, false, ◌||◌, ◌==◌, cond, nat_lt, List, ◌∷◌, length, refl, sym, true≢false, arith}
use Rattle.std.specs.Bool.{Decides}
use Rattle.std.specs.List.{filter, range_with_len}
use Rattle.std.specs.Int.{bit_at}
use Rattle.std.proofs.lemmas.Bool.{ltb-true}
use Rattle.std.proofs.lemmas.Bool.Decides.{Decides-or, Decides-eqb}
use Rattle.step_tables.specs.Bitboard.{squares_of}
use Rattle.step_tables.specs.Squares.{QueenLine}
use Rattle.step_tables.specs.Step.{AtMostInSight}
use Rattle.step_tables.specs.Test.{all_below}
use Rattle.step_tables.specs.Piece.{queen_directions}
use Rattle.step_tables.proofs.Test.{all_below-at}
use Rattle.step_tables.proofs.Rule.{is_rook_line, is_bishop_line, Decides-is_rook_line, Decides-is_bishop_line, queen_rule}

abbrev is_queen_line : ℕ → ℕ → Bool
is_queen_line a b = is_rook_line a b || is_bishop_line a b

Decides-is_queen_line : (a b : ℕ) → Decides (is_queen_line a b) (QueenLine a b)
Decides-is_queen_line a b = Decides-or _ _ (Decides-is_rook_line a b) (Decides-is_bishop_line a b)

abbrev in_line : ℕ → List ℕ
in_line a = filter (is_queen_line a) (range_with_len 0 64)

few : all_below (λ a. nat_lt (length (in_line a)) 28) 64 ≡ true
unfolding all_below
few = refl

pub length-in_line : (a : ℕ) → a < 64 → length (in_line a) ≤ 27
length-in_line a h = let low = ltb-true _ _ (all_below-at (λ k. nat_lt (length (in_line k)) 28) 64 few a h) in omega (arith, low)

-- a stronger test keeps no more numbers
length-filter-le : (p q : ℕ → Bool) (a n : ℕ) → ((i : ℕ) → i < a + n → p i ≡ true → q i ≡ true)
    → length (filter p (range_with_len a n)) ≤ length (filter q (range_with_len a n))
length-filter-le p q a zero stronger = omega arith
length-filter-le p q a (suc n) stronger =
    by (p a) (q a) (stronger a (omega arith)) (length-filter-le p q (a + 1) n (λ i h. stronger i (omega arith)))
  where
    by : (s t : Bool) → (s ≡ true → t ≡ true)
        → length (filter p (range_with_len (a + 1) n)) ≤ length (filter q (range_with_len (a + 1) n))
        → length (cond s (a ∷ filter p (range_with_len (a + 1) n)) (filter p (range_with_len (a + 1) n)))
        ≤ length (cond t (a ∷ filter q (range_with_len (a + 1) n)) (filter q (range_with_len (a + 1) n)))
    by true true f h = omega (arith, h)
    by true false f h = absurd (true≢false (sym (f refl)))
    by false true f h = omega (arith, h)
    by false false f h = h

pub AtMostInSight-queen : AtMostInSight queen_directions 27
unfolding squares_of
AtMostInSight-queen a bitboard on_board within =
    let most = length-filter-le (λ b. bit_at bitboard b == 1) (is_queen_line a) 0 64
    (λ i h set. let low : i < 64 = omega (arith, h) in
    (Decides-is_queen_line a i).1 ((queen_rule a i on_board low).0 (within i low ((Decides-eqb _ _).0 set)))) in
    let bound = length-in_line a on_board in
    omega (arith, most, bound)
