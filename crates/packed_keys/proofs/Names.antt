-- A key names its position, and which bytes are no position's key.
use Rattle.std.proofs.Common.{◌≡◌, ◌≢◌, ℕ, ◌+◌, ◌*◌, ◌<◌, ◌/◌, ◌%◌, List, ◌++◌, length, get_or, take, sym, None, subst, ap, ◌∙◌, arith}
use Rattle.std.proofs.Math.Seq.{take-append_seam}
use Rattle.explorer_model.specs.declared.chess.Position.{Position}
use Rattle.explorer_model.specs.Keys.{key, packed, state_code, en_passant_code}
use Rattle.packed_keys.proofs.Packed.{byte_at, board_length, bytes_of-board, bytes_of-state, bytes_of-en_passant}
use Rattle.packed_keys.proofs.CodeNames.{piece_code-small, state_code-small, state_code-names, en_passant_code-small, en_passant_code-names, packed-names}

front : (xs ys : List ℕ) (n : ℕ) → length xs ≡ n → take n (xs ++ ys) ≡ xs
front xs ys n e = subst (λ m. take m (xs ++ ys) ≡ xs) e (take-append_seam xs ys)

board_of_key : (p : Position) → length p.squares ≡ 64 → take 32 (key p) ≡ packed p.squares
board_of_key p board = front (packed p.squares) _ 32 (board_length p.squares board)

key-board : (p : Position) (k : ℕ) → length p.squares ≡ 64 → k < 32 → get_or (key p) k 0 ≡ byte_at p.squares k
key-board p k board below = bytes_of-board p.squares _ _ k board below

key-state : (p : Position) → length p.squares ≡ 64 → get_or (key p) 32 0 ≡ state_code p.turn p.rights
key-state p board = bytes_of-state p.squares _ _ board

key-en_passant : (p : Position) → length p.squares ≡ 64 → get_or (key p) 33 0 ≡ en_passant_code p.en_passant
key-en_passant p board = bytes_of-en_passant p.squares _ _ board

pub key-names : (p q : Position) → length p.squares ≡ 64 → length q.squares ≡ 64 → key p ≡ key q → p ≡ q
key-names p q p_board q_board e =
    let squares : p.squares ≡ q.squares = packed-names p.squares q.squares 32 p_board q_board
    (sym (board_of_key p p_board) ∙ (ap (λ bytes. take 32 bytes) e ∙ board_of_key q q_board)) in
    let state = state_code-names p.turn q.turn p.rights q.rights (sym (key-state p p_board) ∙ (ap (λ bytes. get_or bytes 32 0) e ∙ key-state q q_board)) in
    let en_passant =
    en_passant_code-names p.en_passant q.en_passant (sym (key-en_passant p p_board) ∙ (ap (λ bytes. get_or bytes 33 0) e ∙ key-en_passant q q_board)) in
    λ i. record { squares = squares i; turn = state.0 i; rights = state.1 i; en_passant = en_passant i }

pub no_state : (p : Position) (bytes : List ℕ) → length p.squares ≡ 64 → 31 < get_or bytes 32 0 → key p ≢ bytes
no_state p bytes board large e =
    absurd (omega (arith, large, ap (λ xs. get_or xs 32 0) e, key-state p board, state_code-small p.turn p.rights))

pub no_en_passant : (p : Position) (bytes : List ℕ) → length p.squares ≡ 64 → 64 < get_or bytes 33 0 → key p ≢ bytes
no_en_passant p bytes board large e =
    absurd (omega (arith, large, ap (λ xs. get_or xs 33 0) e, key-en_passant p board, en_passant_code-small p.en_passant))

pub no_low_piece : (p : Position) (bytes : List ℕ) (k : ℕ) → length p.squares ≡ 64 → k < 32 → 12 < get_or bytes k 0 % 16 → key p ≢ bytes
no_low_piece p bytes k board below large e =
    absurd (omega (arith, large, ap (λ xs. get_or xs k 0) e, key-board p k board below, piece_code-small (get_or p.squares (2 * k) None)))

pub no_high_piece : (p : Position) (bytes : List ℕ) (k : ℕ) → length p.squares ≡ 64 → k < 32 → 12 < get_or bytes k 0 / 16 → key p ≢ bytes
no_high_piece p bytes k board below large e =
    absurd (omega (arith, large, ap (λ xs. get_or xs k 0) e, key-board p k board below, piece_code-small (get_or p.squares (2 * k) None), piece_code-small (get_or p.squares (2 * k + 1) None)))
