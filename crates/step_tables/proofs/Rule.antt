-- The steps of each piece by file and rank, each checked on all pairs of squares.
use Rattle.std.proofs.Common.{◌≡◌, ◌↔◌, ℕ, zero, suc, ◌+◌, ◌<◌, ◌≤◌, Bool, true, ◌&&◌, ◌||◌, ◌==◌, ◌⊎◌, inl, inr, ⊎_elim, List, [], ◌∷◌, ◌++◌, nat_lt, refl, sym, subst, arith}
use Rattle.std.specs.Bool.{Decides}
use Rattle.std.specs.List.{Any}
use Rattle.std.proofs.Math.Bool.{not}
use Rattle.std.proofs.lemmas.Bool.Decides.{Decides-and, Decides-or, Decides-eqb, Decides-ltb, Decides-not, Decides-like}
use Rattle.step_tables.specs.Bitboard.{Holds}
use Rattle.step_tables.specs.Squares.{rank_of, files_apart, ranks_apart, RookLine, BishopLine, QueenLine}
use Rattle.step_tables.specs.Step.{IsReached, IsAhead, IsInSight}
use Rattle.step_tables.specs.Test.{all_below}
use Rattle.step_tables.specs.Piece.{knight_steps, king_steps, white_pawn_steps, black_pawn_steps, rook_directions, bishop_directions, queen_directions, KnightStep, KingStep, WhitePawnStep, BlackPawnStep}
use Rattle.step_tables.proofs.Test.{all_below-at}
use Rattle.step_tables.proofs.StepBits.{reached, in_sight, union, ahead, set_below, Holds-reached, Holds-in_sight, Holds-set_below}

-- one equivalence after another
pub both : {P Q R : Type 0} → P ↔ Q → Q ↔ R → P ↔ R
both f g = (λ x. g.0 (f.0 x), λ x. f.1 (g.1 x))

-- for each square the bitboard has the squares that pass the test
abbrev agree : (ℕ → ℕ) → (ℕ → ℕ → Bool) → Bool
agree bitboard test = all_below (λ a. bitboard a == set_below (test a) 64) 64

rule : (bitboard : ℕ → ℕ) (test : ℕ → ℕ → Bool) (P Q : Type 0) (a b : ℕ) → agree bitboard test ≡ true → a < 64 → b < 64
    → Holds (bitboard a) b ↔ P → Decides (test a b) Q → P ↔ Q
rule bitboard test P Q a b e ha hb steps decides =
    let same : bitboard a ≡ set_below (test a) 64 =
    (Decides-eqb _ _).0 (all_below-at (λ k. bitboard k == set_below (test k) 64) 64 e a ha) in
    let set : Holds (bitboard a) b ↔ (test a b ≡ true) =
    subst (λ m. Holds m b ↔ (test a b ≡ true)) (sym same) (Holds-set_below (test a) b hb) in
    (λ x. decides.0 (set.0 (steps.1 x)), λ x. steps.0 (set.1 (decides.1 x)))

abbrev is_knight_step : ℕ → ℕ → Bool
is_knight_step a b = (files_apart a b == 1 && ranks_apart a b == 2) || (files_apart a b == 2 && ranks_apart a b == 1)

agree-knight : agree (reached knight_steps) is_knight_step ≡ true
unfolding all_below union set_below
agree-knight = refl

pub knight_rule : (a b : ℕ) → a < 64 → b < 64 → IsReached knight_steps a b ↔ KnightStep a b
knight_rule a b ha hb =
    rule (reached knight_steps) is_knight_step _ _ a b agree-knight ha hb (Holds-reached knight_steps a b hb)
    (Decides-or _ _ (Decides-and _ _ (Decides-eqb _ _) (Decides-eqb _ _)) (Decides-and _ _ (Decides-eqb _ _) (Decides-eqb _ _)))

Decides-le : (x y : ℕ) → Decides (nat_lt x (y + 1)) (x ≤ y)
Decides-le x y = Decides-like _ (λ h. omega (arith, h)) (λ h. omega (arith, h)) (Decides-ltb x (y + 1))

abbrev is_king_step : ℕ → ℕ → Bool
is_king_step a b = nat_lt (files_apart a b) 2 && (nat_lt (ranks_apart a b) 2 && not (a == b))

agree-king : agree (reached king_steps) is_king_step ≡ true
unfolding all_below union set_below
agree-king = refl

pub king_rule : (a b : ℕ) → a < 64 → b < 64 → IsReached king_steps a b ↔ KingStep a b
king_rule a b ha hb =
    let test = Decides-and _ _ (Decides-le (files_apart a b) 1)
    (Decides-and _ _ (Decides-le (ranks_apart a b) 1) (Decides-not _ (Decides-eqb a b))) in
    both (rule (reached king_steps) is_king_step _ _ a b agree-king ha hb (Holds-reached king_steps a b hb) test)
    (λ h. (h.0, h.1.0, h.1.1), λ h. (h.0, (h.1, h.2)))

abbrev is_white_pawn_step : ℕ → ℕ → Bool
is_white_pawn_step a b = rank_of b == rank_of a + 1 && files_apart a b == 1

agree-white_pawn : agree (reached white_pawn_steps) is_white_pawn_step ≡ true
unfolding all_below union set_below
agree-white_pawn = refl

pub white_pawn_rule : (a b : ℕ) → a < 64 → b < 64 → IsReached white_pawn_steps a b ↔ WhitePawnStep a b
white_pawn_rule a b ha hb =
    rule (reached white_pawn_steps) is_white_pawn_step _ _ a b agree-white_pawn ha hb
    (Holds-reached white_pawn_steps a b hb) (Decides-and _ _ (Decides-eqb _ _) (Decides-eqb _ _))

abbrev is_black_pawn_step : ℕ → ℕ → Bool
is_black_pawn_step a b = rank_of a == rank_of b + 1 && files_apart a b == 1

agree-black_pawn : agree (reached black_pawn_steps) is_black_pawn_step ≡ true
unfolding all_below union set_below
agree-black_pawn = refl

pub black_pawn_rule : (a b : ℕ) → a < 64 → b < 64 → IsReached black_pawn_steps a b ↔ BlackPawnStep a b
black_pawn_rule a b ha hb =
    rule (reached black_pawn_steps) is_black_pawn_step _ _ a b agree-black_pawn ha hb
    (Holds-reached black_pawn_steps a b hb) (Decides-and _ _ (Decides-eqb _ _) (Decides-eqb _ _))

abbrev pub is_rook_line : ℕ → ℕ → Bool
is_rook_line a b = (files_apart a b == 0 || ranks_apart a b == 0) && not (a == b)

abbrev pub is_bishop_line : ℕ → ℕ → Bool
is_bishop_line a b = files_apart a b == ranks_apart a b && not (a == b)

pub Decides-is_rook_line : (a b : ℕ) → Decides (is_rook_line a b) (RookLine a b)
Decides-is_rook_line a b = Decides-and _ _ (Decides-or _ _ (Decides-eqb _ _) (Decides-eqb _ _)) (Decides-not _ (Decides-eqb a b))

pub Decides-is_bishop_line : (a b : ℕ) → Decides (is_bishop_line a b) (BishopLine a b)
Decides-is_bishop_line a b = Decides-and _ _ (Decides-eqb _ _) (Decides-not _ (Decides-eqb a b))

agree-rook : agree (in_sight rook_directions) is_rook_line ≡ true
unfolding all_below union ahead set_below
agree-rook = refl

pub rook_rule : (a b : ℕ) → a < 64 → b < 64 → IsInSight rook_directions a b ↔ RookLine a b
rook_rule a b ha hb =
    rule (in_sight rook_directions) is_rook_line _ _ a b agree-rook ha hb (Holds-in_sight rook_directions a b hb)
    (Decides-is_rook_line a b)

agree-bishop : agree (in_sight bishop_directions) is_bishop_line ≡ true
unfolding all_below union ahead set_below
agree-bishop = refl

pub bishop_rule : (a b : ℕ) → a < 64 → b < 64 → IsInSight bishop_directions a b ↔ BishopLine a b
bishop_rule a b ha hb =
    rule (in_sight bishop_directions) is_bishop_line _ _ a b agree-bishop ha hb
    (Holds-in_sight bishop_directions a b hb) (Decides-is_bishop_line a b)

-- some element of two lists, one behind the other
module _ {X : Type 0} (P : X → Type 0) (ys : List X) where
  append-to : (xs : List X) → Any P (xs ++ ys) → Any P xs ⊎ Any P ys
  append-to [] h = inr h
  append-to (x ∷ xs) (zero, y, low, same, p) = inl (0, y, omega arith, same, p)
  append-to (x ∷ xs) (suc k, y, low, same, p) =
      ⊎_elim (λ m. inl (suc m.0, m.1, omega (arith, m.2), m.3, m.4)) inr (append-to xs (k, y, omega (arith, low), same, p))

  append-from : (xs : List X) → Any P xs ⊎ Any P ys → Any P (xs ++ ys)
  append-from [] (inl h) = absurd (omega (arith, h.2))
  append-from [] (inr h) = h
  append-from (x ∷ xs) (inl (zero, y, low, same, p)) = (0, y, omega arith, same, p)
  append-from (x ∷ xs) (inl (suc k, y, low, same, p)) =
      let m = append-from xs (inl (k, y, omega (arith, low), same, p)) in (suc m.0, m.1, omega (arith, m.2), m.3, m.4)
  append-from (x ∷ xs) (inr h) =
      let m = append-from xs (inr h) in (suc m.0, m.1, omega (arith, m.2), m.3, m.4)

Any-append : {X : Type 0} (P : X → Type 0) (xs ys : List X) → Any P (xs ++ ys) ↔ (Any P xs ⊎ Any P ys)
Any-append P xs ys = (append-to P ys xs, append-from P ys xs)

pub queen_rule : (a b : ℕ) → a < 64 → b < 64 → IsInSight queen_directions a b ↔ QueenLine a b
queen_rule a b ha hb =
    let rook = rook_rule a b ha hb in
    let bishop = bishop_rule a b ha hb in
    both (Any-append (λ direction. IsAhead direction a b) rook_directions bishop_directions)
    (⊎_elim (λ x. inl (rook.0 x)) (λ y. inr (bishop.0 y)), ⊎_elim (λ x. inl (rook.1 x)) (λ y. inr (bishop.1 y)))
