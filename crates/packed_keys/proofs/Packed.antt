-- A key byte by byte.
use Rattle.std.proofs.Common.{◌≡◌, ℕ, zero, suc, ◌+◌, ◌*◌, ◌/◌, ◌%◌, ◌<◌, ◌≤◌, ◌⊎◌, inl, inr, List, [], ◌∷◌, ◌++◌, length, get_or, set, Option, None, refl, sym, ap, add-one, ◌∙◌, subst, arith}
use Rattle.std.proofs.lemmas.List.{ext_get_or, length-set, get_or-set_same, get_or-set_other}
use Rattle.std.proofs.lemmas.Grind.{common_steps}
use Rattle.std.proofs.lemmas.Bool.{cases_eq}
use Rattle.std.proofs.Math.Nat.{eq-or-lt_of_le}
use Rattle.std.proofs.Math.ListN.{get_or-append}
use Rattle.explorer_model.specs.declared.chess.Piece.{Piece}
use Rattle.explorer_model.specs.Keys.{packed, piece_code}
use Rattle.packed_keys.proofs.CodeNames.{piece_code-small}

-- the byte of two squares
abbrev pub byte_of : Option Piece → Option Piece → ℕ
byte_of low high = piece_code low + 16 * piece_code high

-- byte k of the key of a board
abbrev pub byte_at : List (Option Piece) → ℕ → ℕ
byte_at squares k = byte_of (get_or squares (2 * k) None) (get_or squares (2 * k + 1) None)

packed_at : (squares : List (Option Piece)) (k low d : ℕ) → low ≡ k + k → suc low < length squares
    → get_or (packed squares) k d ≡ byte_of (get_or squares low None) (get_or squares (suc low) None)
packed_at [] k low d e h = absurd (omega (arith, h))
packed_at (a ∷ []) k low d e h = absurd (omega (arith, h))
packed_at (a ∷ b ∷ squares) zero zero d e h = refl
packed_at (a ∷ b ∷ squares) zero (suc low) d e h = absurd (omega (arith, e))
packed_at (a ∷ b ∷ squares) (suc k) zero d e h = absurd (omega (arith, e))
packed_at (a ∷ b ∷ squares) (suc k) (suc zero) d e h = absurd (omega (arith, e))
packed_at (a ∷ b ∷ squares) (suc k) (suc (suc low)) d e h = packed_at squares k low d (omega (arith, e)) (omega (arith, h))

packed_length : (squares : List (Option Piece)) (n : ℕ) → length squares ≡ n + n → length (packed squares) ≡ n
packed_length [] n e = omega (arith, e)
packed_length (a ∷ []) n e = absurd (omega (arith, e))
packed_length (a ∷ b ∷ squares) zero e = absurd (omega (arith, e))
packed_length (a ∷ b ∷ squares) (suc n) e = ap (λ m. suc m) (packed_length squares n (omega (arith, e)))

-- a key before it is told what its last two bytes mean
abbrev pub bytes_of : List (Option Piece) → ℕ → ℕ → List ℕ
bytes_of squares state en_passant = packed squares ++ state ∷ en_passant ∷ []

pub board_length : (squares : List (Option Piece)) → length squares ≡ 64 → length (packed squares) ≡ 32
board_length squares board = packed_length squares 32 board

-- byte k of the squares
pub packed-byte : (squares : List (Option Piece)) (k : ℕ) → length squares ≡ 64 → k < 32 → get_or (packed squares) k 0 ≡ byte_at squares k
packed-byte squares k board below =
    packed_at squares k (2 * k) 0 (omega arith) (omega (arith, board, below))
    ∙ ap (λ n. byte_of (get_or squares (2 * k) None) (get_or squares n None)) (sym (add-one (2 * k)))

-- the squares are told byte by byte
pub packed-is : (squares : List (Option Piece)) (bytes : List ℕ) → length squares ≡ 64 → length bytes ≡ 32
    → ((k : ℕ) → k < 32 → get_or bytes k 0 ≡ byte_at squares k) → packed squares ≡ bytes
packed-is squares bytes board size pieces =
    ext_get_or 0 (packed squares) bytes (board_length squares board ∙ sym size)
    (λ k below. let on : k < 32 = subst (λ n. k < n) (board_length squares board) below in packed-byte squares k board on ∙ sym (pieces k on))

pub bytes_of-board : (squares : List (Option Piece)) (state en_passant k : ℕ) → length squares ≡ 64 → k < 32
    → get_or (bytes_of squares state en_passant) k 0 ≡ byte_at squares k
bytes_of-board squares state en_passant k board below =
    get_or-append (packed squares) _ 0 k (omega (arith, board_length squares board, below))
    ∙ (packed_at squares k (2 * k) 0 (omega arith) (omega (arith, board, below))
    ∙ ap (λ n. byte_of (get_or squares (2 * k) None) (get_or squares n None)) (sym (add-one (2 * k))))

last_two : (xs : List ℕ) (y z n : ℕ) → length xs ≡ n → (get_or (xs ++ y ∷ z ∷ []) n 0 ≡ y) × (get_or (xs ++ y ∷ z ∷ []) (suc n) 0 ≡ z)
last_two [] y z zero e = (refl, refl)
last_two [] y z (suc n) e = absurd (omega (arith, e))
last_two (x ∷ xs) y z zero e = absurd (omega (arith, e))
last_two (x ∷ xs) y z (suc n) e = last_two xs y z n (omega (arith, e))

pub bytes_of-state : (squares : List (Option Piece)) (state en_passant : ℕ) → length squares ≡ 64
    → get_or (bytes_of squares state en_passant) 32 0 ≡ state
bytes_of-state squares state en_passant board = (last_two (packed squares) _ _ 32 (board_length squares board)).0

pub bytes_of-en_passant : (squares : List (Option Piece)) (state en_passant : ℕ) → length squares ≡ 64
    → get_or (bytes_of squares state en_passant) 33 0 ≡ en_passant
bytes_of-en_passant squares state en_passant board = (last_two (packed squares) _ _ 32 (board_length squares board)).1

add_two : (xs : List ℕ) (y z n : ℕ) → length xs ≡ n → length (xs ++ y ∷ z ∷ []) ≡ n + 2
add_two xs y z n e = grind (arith, common_steps, e)

bytes_of-length : (squares : List (Option Piece)) (state en_passant : ℕ) → length squares ≡ 64 → length (bytes_of squares state en_passant) ≡ 34
bytes_of-length squares state en_passant board = add_two (packed squares) _ _ 32 (board_length squares board)

-- the last two places of 34
place : (k : ℕ) → k < 34 → (k < 32) ⊎ (k ≡ 32) ⊎ (k ≡ 33)
place k below = elim (eq-or-lt_of_le {n = k} {m = 33} (omega (arith, below))) [
  | inl e ↦ inr (inr e)
  | inr less ↦ elim (eq-or-lt_of_le {n = k} {m = 32} (omega (arith, less))) [
    | inl e ↦ inr (inl e)
    | inr below_both ↦ inl below_both
  ]
]

-- 34 bytes are told one by one
pub bytes_of-is : (squares : List (Option Piece)) (state en_passant : ℕ) (bytes : List ℕ) → length squares ≡ 64 → length bytes ≡ 34
    → ((k : ℕ) → k < 32 → get_or bytes k 0 ≡ byte_at squares k)
    → get_or bytes 32 0 ≡ state
    → get_or bytes 33 0 ≡ en_passant
    → bytes_of squares state en_passant ≡ bytes
bytes_of-is squares state en_passant bytes board size pieces is_state is_en_passant =
    ext_get_or 0 (bytes_of squares state en_passant) bytes (bytes_of-length squares state en_passant board ∙ sym size)
    (λ k below. at k (subst (λ n. k < n) (bytes_of-length squares state en_passant board) below))
  where
    at : (k : ℕ) → k < 34 → get_or (bytes_of squares state en_passant) k 0 ≡ get_or bytes k 0
    at k below = elim (place k below) [
      | inl less ↦ bytes_of-board squares state en_passant k board less ∙ sym (pieces k less)
      | inr (inl e) ↦
          subst (λ n. get_or (bytes_of squares state en_passant) n 0 ≡ get_or bytes n 0) (sym e)
          (bytes_of-state squares state en_passant board ∙ sym is_state)
      | inr (inr e) ↦
          subst (λ n. get_or (bytes_of squares state en_passant) n 0 ≡ get_or bytes n 0) (sym e)
          (bytes_of-en_passant squares state en_passant board ∙ sym is_en_passant)
    ]

-- The loop over the bytes of a key that is read.

byte_of-eq : {a b c d : Option Piece} → a ≡ c → b ≡ d → byte_of a b ≡ byte_of c d
byte_of-eq e f = λ i. byte_of (e i) (f i)

kept : (xs : List (Option Piece)) (i n : ℕ) (a b : Option Piece) → n < i → get_or (set (set xs i a) (i + 1) b) n None ≡ get_or xs n None
kept xs i n a b less =
    get_or-set_other (set xs i a) (i + 1) n b None (omega (arith, less)) ∙ get_or-set_other xs i n a None (omega (arith, less))

first : (xs : List (Option Piece)) (i : ℕ) (a b : Option Piece) → i < length xs → get_or (set (set xs i a) (i + 1) b) i None ≡ a
first xs i a b h = get_or-set_other (set xs i a) (i + 1) i b None (omega arith) ∙ get_or-set_same xs i a None h

second : (xs : List (Option Piece)) (i : ℕ) (a b : Option Piece) → i + 1 < length xs → get_or (set (set xs i a) (i + 1) b) (i + 1) None ≡ b
second xs i a b h = get_or-set_same (set xs i a) (i + 1) b None (omega (arith, h, length-set xs i a))

-- the two squares of one more byte are written
pub squares_written : (squares : List (Option Piece)) (bytes : List ℕ) (i : ℕ) (low high : Option Piece) → 2 * i + 1 < length squares
    → get_or bytes i 0 ≡ byte_of low high
    → ((k : ℕ) → k < i → get_or bytes k 0 ≡ byte_at squares k)
    → (k : ℕ) → k < i + 1 → get_or bytes k 0 ≡ byte_at (set (set squares (2 * i) low) (2 * i + 1) high) k
squares_written squares bytes i low high h is before k below = elim (eq-or-lt_of_le {n = k} {m = i} (omega (arith, below))) [
  | inr less ↦
      before k less
      ∙ sym (byte_of-eq (kept squares (2 * i) (2 * k) low high (omega (arith, less))) (kept squares (2 * i) (2 * k + 1) low high (omega (arith, less))))
  | inl e ↦
      subst (λ n. get_or bytes n 0 ≡ byte_at (set (set squares (2 * i) low) (2 * i + 1) high) n) (sym e)
      (is ∙ sym (byte_of-eq (first squares (2 * i) low high (omega (arith, h))) (second squares (2 * i) low high h)))
]

-- One square is written.

set_size : (bytes : List ℕ) (i value : ℕ) → length bytes ≡ 32 → length (set bytes i value) ≡ 32
set_size bytes i value size = length-set bytes i value ∙ size

board_size : (squares : List (Option Piece)) (i : ℕ) (occupant : Option Piece) → length squares ≡ 64 → length (set squares i occupant) ≡ 64
board_size squares i occupant board = length-set squares i occupant ∙ board

same_byte : (squares : List (Option Piece)) (s k : ℕ) (occupant : Option Piece) → (2 * k ≡ s → ⊥) → (2 * k + 1 ≡ s → ⊥)
    → byte_at (set squares s occupant) k ≡ byte_at squares k
same_byte squares s k occupant low high =
    byte_of-eq (get_or-set_other squares s (2 * k) occupant None low) (get_or-set_other squares s (2 * k + 1) occupant None high)

odd : (k n : ℕ) → (2 * k ≡ 2 * n + 1) → ⊥
odd k n e = absurd (omega (arith, e))

apart_low : (k n : ℕ) → (k ≡ n → ⊥) → (2 * k ≡ 2 * n → ⊥)
apart_low k n apart e = apart (omega (arith, e))

apart_high : (k n : ℕ) → (k ≡ n → ⊥) → (2 * k + 1 ≡ 2 * n + 1 → ⊥)
apart_high k n apart e = apart (omega (arith, e))

-- the byte n with another piece in its low half
low_byte : (a b low high : ℕ) → a ≡ low + 16 * high → low ≤ 12 → a / 16 * 16 + b ≡ b + 16 * high
low_byte a b low high e small = omega (arith, e, small)

-- the byte n with another piece in its high half
high_byte : (a b low high : ℕ) → a ≡ low + 16 * high → low ≤ 12 → a % 16 + 16 * b ≡ low + 16 * b
high_byte a b low high e small = omega (arith, e, small)

low_is : (squares : List (Option Piece)) (n : ℕ) (occupant : Option Piece) → length squares ≡ 64 → n < 32
    → byte_at (set squares (2 * n) occupant) n ≡ byte_of occupant (get_or squares (2 * n + 1) None)
low_is squares n occupant board on =
    byte_of-eq (get_or-set_same squares (2 * n) occupant None (omega (arith, board, on)))
    (get_or-set_other squares (2 * n) (2 * n + 1) occupant None (λ e. odd n n (sym e)))

high_is : (squares : List (Option Piece)) (n : ℕ) (occupant : Option Piece) → length squares ≡ 64 → n < 32
    → byte_at (set squares (2 * n + 1) occupant) n ≡ byte_of (get_or squares (2 * n) None) occupant
high_is squares n occupant board on =
    byte_of-eq (get_or-set_other squares (2 * n + 1) (2 * n) occupant None (odd n n))
    (get_or-set_same squares (2 * n + 1) occupant None (omega (arith, board, on)))

-- one byte of the squares is written
written : (squares : List (Option Piece)) (s n value : ℕ) (occupant : Option Piece) → length squares ≡ 64 → n < 32
    → ((k : ℕ) → (k ≡ n → ⊥) → byte_at (set squares s occupant) k ≡ byte_at squares k)
    → value ≡ byte_at (set squares s occupant) n
    → set (packed squares) n value ≡ packed (set squares s occupant)
written squares s n value occupant board on others is =
    sym (packed-is (set squares s occupant) (set (packed squares) n value) (board_size squares s occupant board)
    (set_size (packed squares) n value (board_length squares board)) at)
  where
    at : (k : ℕ) → k < 32 → get_or (set (packed squares) n value) k 0 ≡ byte_at (set squares s occupant) k
    at k below = elim (cases_eq k n) [
      | inl e ↦
          subst (λ j. get_or (set (packed squares) n value) j 0 ≡ byte_at (set squares s occupant) j) (sym e)
          (get_or-set_same (packed squares) n value 0 (omega (arith, on, board_length squares board)) ∙ is)
      | inr apart ↦
          get_or-set_other (packed squares) n k value 0 apart ∙ packed-byte squares k board below ∙ sym (others k apart)
    ]

written_low : (squares : List (Option Piece)) (n : ℕ) (occupant : Option Piece) → length squares ≡ 64 → n < 32
    → set (packed squares) n (get_or (packed squares) n 0 / 16 * 16 + piece_code occupant) ≡ packed (set squares (2 * n) occupant)
written_low squares n occupant board on =
    written squares (2 * n) n _ occupant board on
    (λ k apart. same_byte squares (2 * n) k occupant (apart_low k n apart) (λ e. odd n k (sym e)))
    (low_byte _ _ _ _ (packed-byte squares n board on) (piece_code-small (get_or squares (2 * n) None)) ∙ sym (low_is squares n occupant board on))

written_high : (squares : List (Option Piece)) (n : ℕ) (occupant : Option Piece) → length squares ≡ 64 → n < 32
    → set (packed squares) n (get_or (packed squares) n 0 % 16 + 16 * piece_code occupant) ≡ packed (set squares (2 * n + 1) occupant)
written_high squares n occupant board on =
    written squares (2 * n + 1) n _ occupant board on
    (λ k apart. same_byte squares (2 * n + 1) k occupant (odd k n) (apart_high k n apart))
    (high_byte _ _ _ _ (packed-byte squares n board on) (piece_code-small (get_or squares (2 * n) None)) ∙ sym (high_is squares n occupant board on))

pub low_written : (squares : List (Option Piece)) (s at : ℕ) (occupant : Option Piece) → length squares ≡ 64 → s < 64 → at ≡ s / 2 → s % 2 ≡ 0
    → set (packed squares) at (get_or (packed squares) at 0 / 16 * 16 + piece_code occupant) ≡ packed (set squares s occupant)
low_written squares s at occupant board on is even =
    let twice : 2 * at ≡ s = omega (arith, is, even) in
    written_low squares at occupant board (omega (arith, is, on)) ∙ ap (λ i. packed (set squares i occupant)) twice

pub high_written : (squares : List (Option Piece)) (s at : ℕ) (occupant : Option Piece) → length squares ≡ 64 → s < 64 → at ≡ s / 2 → (s % 2 ≡ 0 → ⊥)
    → set (packed squares) at (get_or (packed squares) at 0 % 16 + 16 * piece_code occupant) ≡ packed (set squares s occupant)
high_written squares s at occupant board on is odd_square =
    let twice : 2 * at + 1 ≡ s = omega (arith, is, odd_square) in
    written_high squares at occupant board (omega (arith, is, on)) ∙ ap (λ i. packed (set squares i occupant)) twice
