-- Sets of squares told by a test of what stands there.
use Rattle.std.proofs.Common.{◌≡◌, ◌↔◌, ℕ, zero, suc, ◌+◌, ◌*◌, ◌/◌, ◌%◌, ◌<◌, ◌≤◌, ◌^◌, ◌⊎◌, Bool, true, false, cond, IsTrue, List, [], ◌∷◌, length, set, Option, None, bit_or, refl, sym, ap, ◌∙◌, subst, inl, inr, arith}
use Rattle.std.specs.Int.{bit_at}
use mir.Val.{bool_byte}
use Rattle.std.proofs.Math.Nat.{pow-suc}
use Rattle.std.proofs.lemmas.Bool.{cases_eq}
use Rattle.std.proofs.lemmas.Nat.Bits.{bit_at-zero, bit_at-lt, bit_at_lowest, bit_at-suc, same_from_bits_below}
use Rattle.std.proofs.lemmas.Nat.{or_lt}
use Rattle.step_tables.specs.Bitboard.{Holds}
use Rattle.step_tables.proofs.BitboardLemmas.{Holds-or, Holds-only, Holds-zero}
use Rattle.explorer_model.specs.declared.chess.Role.{Role}
use Rattle.explorer_model.specs.declared.chess.Role.TheVariants.{Pawn, Knight, Bishop, Rook, Queen, King}
use Rattle.explorer_model.specs.declared.chess.Piece.{Piece}
use Rattle.explorer_model.specs.Board.{piece_at}
use Rattle.legal_moves.specs.declared.piece_sets.PieceSets.{PieceSets}
use Rattle.legal_moves.specs.PieceSets.{is_role, set_of, IsSetWritten}
use Rattle.legal_moves.proofs.Writes.{length-set_64}
use Rattle.legal_moves.proofs.BitboardFacts.{piece_at-else, piece_at-same, IsBuilt, built-more, built-skip, built-all}

-- The bits of such a set.

weight : Bool → ℕ
weight b = cond b 1 0

weight-lt : (b : Bool) → weight b < 2
unfolding weight
weight-lt true = omega arith
weight-lt false = omega arith

first_bit : (b y : ℕ) → b < 2 → (b + 2 * y) % 2 ≡ b
first_bit b y small = omega arith

later_bits : (b y : ℕ) → b < 2 → (b + 2 * y) / 2 ≡ y
later_bits b y small = omega arith

set_of-bit : (test : Option Piece → Bool) (squares : List (Option Piece)) (s : ℕ) → test None ≡ false
    → bit_at (set_of test squares) s ≡ weight (test (piece_at squares s))
unfolding weight set_of
set_of-bit test [] s none = bit_at-zero s ∙ sym (ap weight none)
set_of-bit test (occupant ∷ squares) zero none =
    bit_at_lowest (set_of test (occupant ∷ squares)) ∙ first_bit (weight (test occupant)) (set_of test squares) (weight-lt (test occupant))
set_of-bit test (occupant ∷ squares) (suc s) none =
    bit_at-suc (set_of test (occupant ∷ squares)) s
    ∙ ap (λ n. bit_at n s) (later_bits (weight (test occupant)) (set_of test squares) (weight-lt (test occupant)))
    ∙ set_of-bit test squares s none

weighs : (b : Bool) → (weight b ≡ 1) ↔ IsTrue b
unfolding weight
weighs true = (λ _. refl, λ _. refl)
weighs false = (λ h. nothing h, λ (no_way : false ≡ true). cc)
  where
    nothing : {A : Type 0} → (let nought : ℕ = 0 in nought) ≡ 1 → A
    nothing h = absurd (omega arith)

-- a square is in the set exactly where its piece passes
pub set_of-tells : (test : Option Piece → Bool) (squares : List (Option Piece)) (s : ℕ) → test None ≡ false
    → Holds (set_of test squares) s ↔ IsTrue (test (piece_at squares s))
set_of-tells test squares s none =
    let e : bit_at (set_of test squares) s ≡ weight (test (piece_at squares s)) = set_of-bit test squares s none in
    (λ bit. (weighs (test (piece_at squares s))).0 (sym e ∙ bit), λ passes. e ∙ (weighs (test (piece_at squares s))).1 passes)

doubled : (b y n : ℕ) → b < 2 → y < n → b + 2 * y < n * 2
doubled b y n small below = omega arith

set_of-fits : (test : Option Piece → Bool) (squares : List (Option Piece)) → set_of test squares < 2 ^ length squares
unfolding weight set_of
set_of-fits test [] = omega arith
set_of-fits test (occupant ∷ squares) =
    let P : ℕ → Type 0 = λ n. set_of test (occupant ∷ squares) < n in
    subst P (sym (pow-suc 2 (length squares)))
    (doubled (weight (test occupant)) (set_of test squares) (2 ^ length squares) (weight-lt (test occupant)) (set_of-fits test squares))

same_bits : (a b : ℕ) → a < 2 → b < 2 → (a ≡ 1 → b ≡ 1) → (b ≡ 1 → a ≡ 1) → a ≡ b
same_bits a b a_bit b_bit f g = elim (cases_eq a 1) [
  | inl one ↦ (let other : b ≡ 1 = f one in omega arith)
  | inr apart ↦ elim (cases_eq b 1) [
    | inl other ↦ absurd (apart (g other))
    | inr none ↦ omega arith
  ]
]

-- there is one such set
pub set_of-only : (test : Option Piece → Bool) (squares : List (Option Piece)) (bitboard : ℕ) → bitboard < 2 ^ 64 → length squares ≡ 64 → test None ≡ false
    → ((s : ℕ) → s < 64 → Holds bitboard s ↔ IsTrue (test (piece_at squares s))) → bitboard ≡ set_of test squares
set_of-only test squares bitboard fits whole none tells =
    let P : ℕ → Type 0 = λ n. set_of test squares < 2 ^ n in
    same_from_bits_below 64 bitboard (set_of test squares) fits (subst P whole (set_of-fits test squares))
    (λ s on. same_bits _ _ (bit_at-lt bitboard s) (bit_at-lt (set_of test squares) s)
    (λ bit. (set_of-tells test squares s none).1 ((tells s on).0 bit))
    (λ bit. (tells s on).1 ((set_of-tells test squares s none).0 bit)))

-- the set with a square that is written
pub set_written : (before after s : ℕ) (there : Bool) → s < 64 → after < 2 ^ 64
    → ((b : ℕ) → b < 64 → Holds after b ↔ ((Holds before b × (b ≡ s → ⊥)) ⊎ ((b ≡ s) × IsTrue there)))
    → IsSetWritten before s there after
set_written before after s there on_s fits says test squares occupant whole none is same =
    set_of-only test (set squares s occupant) after fits (length-set_64 squares s occupant whole) none
    (λ b on. (
      λ bit. elim ((says b on).0 bit) [
        | inl old ↦ subst Passes (sym (piece_at-else squares s b occupant old.1)) ((tells b).0 old.0)
        | inr new ↦ subst Passes (sym (piece_at-same squares s b occupant whole on_s new.0)) (sym is ∙ new.1)
      ],
      λ passes. (says b on).1 (elim (cases_eq b s) [
        | inl e ↦ inr (e, is ∙ subst Passes (piece_at-same squares s b occupant whole on_s e) passes)
        | inr apart ↦ inl ((tells b).1 (subst Passes (piece_at-else squares s b occupant apart) passes), apart)
      ]),
    ))
  where
    Passes : Option Piece → Type 0
    Passes = λ o. IsTrue (test o)

    tells : (b : ℕ) → Holds before b ↔ IsTrue (test (piece_at squares b))
    tells b = let P : ℕ → Type 0 = λ n. Holds n b ↔ IsTrue (test (piece_at squares b)) in subst P (sym same) (set_of-tells test squares b none)

same_truth : (a b : Bool) → IsTrue a ↔ IsTrue b → a ≡ b
same_truth true true h = refl
same_truth true false h = sym (h.0 refl)
same_truth false true h = h.1 refl
same_truth false false h = refl

-- a test of the set is a test of what stands there
pub set_told : (test : Option Piece → Bool) (squares : List (Option Piece)) (bitboard s : ℕ) (there : Bool) → test None ≡ false
    → bitboard ≡ set_of test squares → IsTrue there ↔ Holds bitboard s → there ≡ test (piece_at squares s)
set_told test squares bitboard s there none is tells =
    let P : ℕ → Type 0 = λ n. Holds n s ↔ IsTrue (test (piece_at squares s)) in
    let holds : Holds bitboard s ↔ IsTrue (test (piece_at squares s)) = subst P (sym is) (set_of-tells test squares s none) in
    same_truth there _ (λ t. holds.0 (tells.0 t), λ t. tells.1 (holds.1 t))

-- Roles.

pub role_same : (a b : Role) → is_role a b ≡ true → a ≡ b
role_same Pawn Pawn e = refl
role_same Knight Knight e = refl
role_same Bishop Bishop e = refl
role_same Rook Rook e = refl
role_same Queen Queen e = refl
role_same King King e = refl
role_same _ _ e = cc

pub role_self : (role : Role) → is_role role role ≡ true
role_self Pawn = refl
role_self Knight = refl
role_self Bishop = refl
role_self Rook = refl
role_self Queen = refl
role_self King = refl

-- The set is built square by square.

pub set_built : (test : Option Piece → Bool) (squares : List (Option Piece)) (n bitboard : ℕ) → IsBuilt (λ b. IsTrue (test (piece_at squares b))) n bitboard → 64 ≤ n
    → bitboard < 2 ^ 64 → length squares ≡ 64 → test None ≡ false → bitboard ≡ set_of test squares
set_built test squares n bitboard built all fits whole none =
    set_of-only test squares bitboard fits whole none (built-all (λ b. IsTrue (test (piece_at squares b))) n bitboard built all)

pub set_with : (test : Option Piece → Bool) (squares : List (Option Piece)) (n bitboard one : ℕ) (there : Bool)
    → IsBuilt (λ b. IsTrue (test (piece_at squares b))) n bitboard → ((b : ℕ) → b < 64 → Holds one b ↔ (b ≡ n)) → there ≡ test (piece_at squares n) → there ≡ true
    → IsBuilt (λ b. IsTrue (test (piece_at squares b))) (n + 1) (bit_or bitboard one)
set_with test squares n bitboard one there built only is holds =
    built-more (λ b. IsTrue (test (piece_at squares b))) n bitboard one built only (sym is ∙ holds)

pub set_passed : (test : Option Piece → Bool) (squares : List (Option Piece)) (n bitboard : ℕ) (there : Bool)
    → IsBuilt (λ b. IsTrue (test (piece_at squares b))) n bitboard → there ≡ test (piece_at squares n) → there ≡ false
    → IsBuilt (λ b. IsTrue (test (piece_at squares b))) (n + 1) bitboard
set_passed test squares n bitboard there built is fails =
    built-skip (λ b. IsTrue (test (piece_at squares b))) n bitboard built (λ holds. let no_way : false ≡ true = sym fails ∙ is ∙ holds in cc)

-- The set with a square that is taken out, and perhaps put in again.

pub only_if_says : (there : Bool) (bit s b : ℕ) → bit ≡ bool_byte there → s < 64 → Holds (bit * 2 ^ s % 2 ^ 64) b ↔ ((b ≡ s) × IsTrue there)
only_if_says there bit s b is on = let P : ℕ → Type 0 = λ n. Holds (n * 2 ^ s % 2 ^ 64) b ↔ ((b ≡ s) × IsTrue there) in subst P (sym is) (says there)
  where
    nothing : 0 * 2 ^ s % 2 ^ 64 ≡ 0
    nothing = omega arith

    says : (t : Bool) → Holds (bool_byte t * 2 ^ s % 2 ^ 64) b ↔ ((b ≡ s) × IsTrue t)
    says true = (λ h. ((Holds-only s b on).0 h, refl), λ h. (Holds-only s b on).1 h.0)
    says false = (
      λ h. absurd (Holds-zero b (let Q : ℕ → Type 0 = λ n. Holds n b in subst Q nothing h)),
      λ h. (let no_way : false ≡ true = h.1 in cc),
    )

pub written_by : (before others one s : ℕ) (there : Bool) → s < 64 → others < 2 ^ 64 → one < 2 ^ 64
    → ((b : ℕ) → b < 64 → Holds others b ↔ (Holds before b × (b ≡ s → ⊥))) → ((b : ℕ) → b < 64 → Holds one b ↔ ((b ≡ s) × IsTrue there))
    → IsSetWritten before s there (bit_or others one)
written_by before others one s there on others_fits one_fits without only =
    set_written before (bit_or others one) s there on (or_lt 64 others one others_fits one_fits)
    (λ b on_b. (
      λ bit. elim ((Holds-or others one b).0 bit) [ inl old ↦ inl ((without b on_b).0 old) | inr new ↦ inr ((only b on_b).0 new) ],
      λ h. (Holds-or others one b).1 (elim h [ inl old ↦ inl ((without b on_b).1 old) | inr new ↦ inr ((only b on_b).1 new) ]),
    ))

-- PieceSets are told by their eight sets.

sets_of_sets : (white black pawns knights bishops rooks queens kings : ℕ) → PieceSets
sets_of_sets white black pawns knights bishops rooks queens kings = record {
  white = white;
  black = black;
  pawns = pawns;
  knights = knights;
  bishops = bishops;
  rooks = rooks;
  queens = queens;
  kings = kings;
}

pub sets_eq : (a b : PieceSets) → a.white ≡ b.white → a.black ≡ b.black → a.pawns ≡ b.pawns → a.knights ≡ b.knights → a.bishops ≡ b.bishops
    → a.rooks ≡ b.rooks → a.queens ≡ b.queens → a.kings ≡ b.kings → a ≡ b
unfolding sets_of_sets
sets_eq a b white black pawns knights bishops rooks queens kings =
    ap (λ x. sets_of_sets x a.black a.pawns a.knights a.bishops a.rooks a.queens a.kings) white
    ∙ ap (λ x. sets_of_sets b.white x a.pawns a.knights a.bishops a.rooks a.queens a.kings) black
    ∙ ap (λ x. sets_of_sets b.white b.black x a.knights a.bishops a.rooks a.queens a.kings) pawns
    ∙ ap (λ x. sets_of_sets b.white b.black b.pawns x a.bishops a.rooks a.queens a.kings) knights
    ∙ ap (λ x. sets_of_sets b.white b.black b.pawns b.knights x a.rooks a.queens a.kings) bishops
    ∙ ap (λ x. sets_of_sets b.white b.black b.pawns b.knights b.bishops x a.queens a.kings) rooks
    ∙ ap (λ x. sets_of_sets b.white b.black b.pawns b.knights b.bishops b.rooks x a.kings) queens
    ∙ ap (λ x. sets_of_sets b.white b.black b.pawns b.knights b.bishops b.rooks b.queens x) kings
