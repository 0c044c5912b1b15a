-- Codes name what they are made of.
use Rattle.std.proofs.Common.{slice_index_or, ◌≡◌, ℕ, zero, suc, ◌+◌, ◌*◌, ◌≤◌, Bool, true, false, List, [], ◌∷◌, length, drop, Option, Some, None, refl, sym, ap, ◌∙◌, arith}
use Rattle.explorer_model.specs.declared.chess.Color.{Color}
use Rattle.explorer_model.specs.declared.chess.Color.TheVariants.{White, Black}
use Rattle.explorer_model.specs.declared.chess.Role.{Role}
use Rattle.explorer_model.specs.declared.chess.Role.TheVariants.{Pawn, Knight, Bishop, Rook, Queen, King}
use Rattle.explorer_model.specs.declared.chess.Piece.{Piece}
use Rattle.explorer_model.specs.declared.chess.Rights.{Rights}
use Rattle.explorer_model.specs.declared.square.Square.{Square}
use Rattle.explorer_model.specs.Board.{piece_of}
use Rattle.explorer_model.specs.Keys.{packed, role_code, color_code, piece_code, turn_code, bit_of, state_code, en_passant_code}
use Rattle.explorer_model.proofs.Squares.{square_eq}

-- the pieces in the order of their codes
pieces : List (Option Piece)
pieces =
    None ∷ piece_of White Pawn ∷ piece_of White Knight ∷ piece_of White Bishop ∷ piece_of White Rook ∷ piece_of White Queen ∷ piece_of White King
    ∷ piece_of Black Pawn ∷ piece_of Black Knight ∷ piece_of Black Bishop ∷ piece_of Black Rook ∷ piece_of Black Queen ∷ piece_of Black King ∷ []

piece_at_its_code : (color : Color) (role : Role) → slice_index_or pieces (color_code color + role_code role) None ≡ piece_of color role
unfolding pieces
piece_at_its_code White Pawn = refl
piece_at_its_code White Knight = refl
piece_at_its_code White Bishop = refl
piece_at_its_code White Rook = refl
piece_at_its_code White Queen = refl
piece_at_its_code White King = refl
piece_at_its_code Black Pawn = refl
piece_at_its_code Black Knight = refl
piece_at_its_code Black Bishop = refl
piece_at_its_code Black Rook = refl
piece_at_its_code Black Queen = refl
piece_at_its_code Black King = refl

piece_at_code : (occupant : Option Piece) → slice_index_or pieces (piece_code occupant) None ≡ occupant
unfolding pieces
piece_at_code None = refl
piece_at_code (Some occupant) = piece_at_its_code occupant.color occupant.role

piece_code-names : (a b : Option Piece) → piece_code a ≡ piece_code b → a ≡ b
piece_code-names a b e = sym (piece_at_code a) ∙ (ap (λ n. slice_index_or pieces n None) e ∙ piece_at_code b)

role_code-small : (role : Role) → role_code role ≤ 6
role_code-small Pawn = omega arith
role_code-small Knight = omega arith
role_code-small Bishop = omega arith
role_code-small Rook = omega arith
role_code-small Queen = omega arith
role_code-small King = omega arith

color_code-small : (color : Color) → color_code color ≤ 6
color_code-small White = omega arith
color_code-small Black = omega arith

pub piece_code-small : (occupant : Option Piece) → piece_code occupant ≤ 12
piece_code-small None = omega arith
piece_code-small (Some occupant) = omega (arith, color_code-small occupant.color, role_code-small occupant.role)

-- a board of an even number of squares is told by its bytes
pub packed-names : (xs ys : List (Option Piece)) (n : ℕ) → length xs ≡ n + n → length ys ≡ n + n → packed xs ≡ packed ys → xs ≡ ys
packed-names [] [] n e f same = refl
packed-names [] (y ∷ ys) n e f same = absurd (omega (arith, e, f))
packed-names (x ∷ xs) [] n e f same = absurd (omega (arith, e, f))
packed-names (x ∷ []) ys n e f same = absurd (omega (arith, e))
packed-names (x ∷ z ∷ xs) (y ∷ []) n e f same = absurd (omega (arith, f))
packed-names (x ∷ z ∷ xs) (y ∷ w ∷ ys) zero e f same = absurd (omega (arith, e))
packed-names (x ∷ z ∷ xs) (y ∷ w ∷ ys) (suc n) e f same =
    let byte : piece_code x + 16 * piece_code z ≡ piece_code y + 16 * piece_code w = ap (λ bytes. slice_index_or bytes 0 0) same in
    let rest : xs ≡ ys = packed-names xs ys n (omega (arith, e)) (omega (arith, f)) (ap (λ bytes. drop 1 bytes) same) in
    let low : x ≡ y = piece_code-names x y (omega (arith, byte, piece_code-small x, piece_code-small y)) in
    let high : z ≡ w = piece_code-names z w (omega (arith, byte, piece_code-small x, piece_code-small y)) in
    λ i. low i ∷ high i ∷ rest i

-- The state.

turn_code-small : (turn : Color) → turn_code turn ≤ 1
turn_code-small White = omega arith
turn_code-small Black = omega arith

bit_of-small : (b : Bool) → bit_of b ≤ 1
bit_of-small true = omega arith
bit_of-small false = omega arith

turn_code-names : (a b : Color) → turn_code a ≡ turn_code b → a ≡ b
turn_code-names White White e = refl
turn_code-names White Black e = absurd (omega (arith, e))
turn_code-names Black White e = absurd (omega (arith, e))
turn_code-names Black Black e = refl

bit_of-names : (a b : Bool) → bit_of a ≡ bit_of b → a ≡ b
bit_of-names true true e = refl
bit_of-names true false e = absurd (omega (arith, e))
bit_of-names false true e = absurd (omega (arith, e))
bit_of-names false false e = refl

pub state_code-small : (turn : Color) (rights : Rights) → state_code turn rights ≤ 31
state_code-small turn rights =
    omega (arith, turn_code-small turn, bit_of-small rights.white_short, bit_of-small rights.white_long, bit_of-small rights.black_short, bit_of-small rights.black_long)

-- the lowest bit of a number, and the rest
lowest : (a b m n : ℕ) → a ≤ 1 → b ≤ 1 → a + 2 * m ≡ b + 2 * n → (a ≡ b) × (m ≡ n)
lowest a b m n h k e = (omega (arith, h, k, e), omega (arith, h, k, e))

-- what the bits above the turn's say
rights_code : Rights → ℕ
rights_code r = bit_of r.white_short + 2 * (bit_of r.white_long + 2 * (bit_of r.black_short + 2 * bit_of r.black_long))

rights_code-names : (r s : Rights) → rights_code r ≡ rights_code s → r ≡ s
unfolding rights_code
rights_code-names r s e =
    let first = lowest (bit_of r.white_short) (bit_of s.white_short) _ _ (bit_of-small _) (bit_of-small _) e in
    let second = lowest (bit_of r.white_long) (bit_of s.white_long) _ _ (bit_of-small _) (bit_of-small _) first.1 in
    let third = lowest (bit_of r.black_short) (bit_of s.black_short) _ _ (bit_of-small _) (bit_of-small _) second.1 in
    let white_short = bit_of-names _ _ first.0 in
    let white_long = bit_of-names _ _ second.0 in
    let black_short = bit_of-names _ _ third.0 in
    let black_long = bit_of-names _ _ third.1 in
    λ i. record { white_short = white_short i; white_long = white_long i; black_short = black_short i; black_long = black_long i }

state_code-is : (turn : Color) (rights : Rights) → state_code turn rights ≡ turn_code turn + 2 * rights_code rights
unfolding rights_code
state_code-is turn rights = omega arith

pub state_code-names : (turn other : Color) (rights others : Rights)
    → state_code turn rights ≡ state_code other others → (turn ≡ other) × (rights ≡ others)
state_code-names turn other rights others e =
    let parts = lowest (turn_code turn) (turn_code other) (rights_code rights) (rights_code others) (turn_code-small turn) (turn_code-small other)
    (sym (state_code-is turn rights) ∙ (e ∙ state_code-is other others)) in
    (turn_code-names turn other parts.0, rights_code-names rights others parts.1)

pub en_passant_code-small : (square : Option Square) → en_passant_code square ≤ 64
en_passant_code-small None = omega arith
en_passant_code-small (Some square) = omega (arith, square.on_board)

pub en_passant_code-names : (a b : Option Square) → en_passant_code a ≡ en_passant_code b → a ≡ b
en_passant_code-names None None e = refl
en_passant_code-names None (Some b) e = absurd (omega (arith, e))
en_passant_code-names (Some a) None e = absurd (omega (arith, e))
en_passant_code-names (Some a) (Some b) e = ap (λ s. Some s) (square_eq a b (omega (arith, e)))
