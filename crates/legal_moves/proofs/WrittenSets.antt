-- The bitboards of a board after a pseudo-legal move, by the writes that make its squares.
use Rattle.std.proofs.Common.{◌≡◌, ◌≢◌, ℕ, ◌<◌, ◌⊎◌, true, false, List, length, set, Option, Some, None, refl, sym, subst, inl, inr}
use Rattle.explorer_model.specs.declared.chess.Color.{Color}
use Rattle.explorer_model.specs.declared.chess.Role.{Role}
use Rattle.explorer_model.specs.declared.chess.Role.TheVariants.{Pawn, Knight, Bishop, Rook, Queen, King}
use Rattle.explorer_model.specs.declared.chess.Piece.{Piece}
use Rattle.explorer_model.specs.declared.chess.Position.{Position}
use Rattle.explorer_model.specs.declared.chess.Move.{Move}
use Rattle.explorer_model.specs.Board.{halfway, opponent, piece_of, piece_at, IsPiece}
use Rattle.explorer_model.specs.Chess.{rook_home, takes_en_passant, captured_en_passant, is_castling, castling_side, arriving, squares_after}
use Rattle.legal_moves.specs.declared.enemy_sets.EnemySets.{EnemySets}
use Rattle.legal_moves.specs.EnemySets.{IsOccupied, IsDiagonal, IsStraight, Describes, IsEmptied, IsFilled}
use Rattle.legal_moves.proofs.Writes.{moved, length-set_64, rook_home_on_board, passed_pawn_on_board, halfway_on_board, plain_writes, taking_writes, castling_writes}
use Rattle.legal_moves.proofs.Facts.{Mover, opponent-other}
use Rattle.legal_moves.proofs.BitboardFacts.{bitboard-without, bitboard-with}

neither : ⊥ ⊎ ⊥ → ⊥
neither (inl h) = h
neither (inr h) = h

describes-emptied : (xs : List (Option Piece)) (enemy : Color) (i : ℕ) (before after : EnemySets) → length xs ≡ 64 → i < 64
    → Describes xs enemy before → IsEmptied before i after → Describes (set xs i None) enemy after
describes-emptied xs enemy i before after whole on d e = record {
  occupied = bitboard-without IsOccupied xs i _ _ None whole on (λ h. h) d.occupied e.occupied;
  pawns = bitboard-without (IsPiece enemy Pawn) xs i _ _ None whole on (λ h. h) d.pawns e.pawns;
  knights = bitboard-without (IsPiece enemy Knight) xs i _ _ None whole on (λ h. h) d.knights e.knights;
  diagonals = bitboard-without (IsDiagonal enemy) xs i _ _ None whole on neither d.diagonals e.diagonals;
  straights = bitboard-without (IsStraight enemy) xs i _ _ None whole on neither d.straights e.straights;
  king = bitboard-without (IsPiece enemy King) xs i _ _ None whole on (λ h. h) d.king e.king;
}

describes-filled : (xs : List (Option Piece)) (own enemy : Color) (role : Role) (i : ℕ) (before after : EnemySets) → own ≢ enemy → length xs ≡ 64 → i < 64
    → Describes xs enemy before → IsFilled before i after → Describes (set xs i (piece_of own role)) enemy after
describes-filled xs own enemy role i before after apart whole on d e = record {
  occupied = bitboard-with IsOccupied xs i _ _ (piece_of own role) whole on tt d.occupied e.occupied;
  pawns = bitboard-without (IsPiece enemy Pawn) xs i _ _ (piece_of own role) whole on (λ h. apart h.0) d.pawns e.pawns;
  knights = bitboard-without (IsPiece enemy Knight) xs i _ _ (piece_of own role) whole on (λ h. apart h.0) d.knights e.knights;
  diagonals = bitboard-without (IsDiagonal enemy) xs i _ _ (piece_of own role) whole on (other Bishop Queen) d.diagonals e.diagonals;
  straights = bitboard-without (IsStraight enemy) xs i _ _ (piece_of own role) whole on (other Rook Queen) d.straights e.straights;
  king = bitboard-without (IsPiece enemy King) xs i _ _ (piece_of own role) whole on (λ h. apart h.0) d.king e.king;
}
  where
    other : (r q : Role) → IsPiece enemy r (piece_of own role) ⊎ IsPiece enemy q (piece_of own role) → ⊥
    other r q (inl h) = apart h.0
    other r q (inr h) = apart h.0

-- the piece that arrives is the mover's own
pub record Arrives (turn : Color) (occupant : Option Piece) : Type 0 where
  pub role : Role
  pub is : occupant ≡ piece_of turn role

arrives_by : (turn : Color) (role : Role) (promotion : Option Role) → Arrives turn (arriving (piece_of turn role) promotion)
arrives_by turn role None = record { role = role; is = refl }
arrives_by turn role (Some other) = record { role = other; is = refl }

pub arrives : (p : Position) (m : Move) → Mover p m → Arrives p.turn (arriving (piece_at p.squares m.from.index) m.promotion)
arrives p m mover =
    let P : Option Piece → Type 0 = λ o. Arrives p.turn (arriving o m.promotion) in subst P (sym mover.stands) (arrives_by p.turn mover.role m.promotion)

own_apart : (turn : Color) → turn ≢ opponent turn
own_apart turn e = opponent-other turn (sym e)

describes-moved : (p : Position) (m : Move) (xs : List (Option Piece)) (before between after : EnemySets) → Mover p m → length xs ≡ 64
    → Describes xs (opponent p.turn) before → IsEmptied before m.from.index between → IsFilled between m.to.index after
    → Describes (moved xs m.from.index m.to.index (arriving (piece_at p.squares m.from.index) m.promotion)) (opponent p.turn) after
describes-moved p m xs before between after mover whole d emptied filled =
    let arrived : Arrives p.turn (arriving (piece_at p.squares m.from.index) m.promotion) = arrives p m mover in
    let P : Option Piece → Type 0 = λ o. Describes (moved xs m.from.index m.to.index o) (opponent p.turn) after in
    subst P (sym arrived.is)
    (describes-filled (set xs m.from.index None) p.turn (opponent p.turn) arrived.role m.to.index between after (own_apart p.turn)
    (length-set_64 xs m.from.index None whole) m.to.on_board
    (describes-emptied xs (opponent p.turn) m.from.index before between whole m.from.on_board d emptied) filled)

pub describes-plain : (p : Position) (m : Move) (before between after : EnemySets) → Mover p m → length p.squares ≡ 64
    → takes_en_passant p m ≡ false → is_castling p m ≡ false
    → Describes p.squares (opponent p.turn) before → IsEmptied before m.from.index between → IsFilled between m.to.index after
    → Describes (squares_after p m) (opponent p.turn) after
describes-plain p m before between after mover whole no_taking no_castling d emptied filled =
    let P : List (Option Piece) → Type 0 = λ xs. Describes xs (opponent p.turn) after in
    subst P (plain_writes p m whole no_taking no_castling) (describes-moved p m p.squares before between after mover whole d emptied filled)

pub describes-taking : (p : Position) (m : Move) (before passed between after : EnemySets) → Mover p m → length p.squares ≡ 64
    → takes_en_passant p m ≡ true
    → Describes p.squares (opponent p.turn) before → IsEmptied before (captured_en_passant m) passed
    → IsEmptied passed m.from.index between → IsFilled between m.to.index after
    → Describes (squares_after p m) (opponent p.turn) after
describes-taking p m before passed between after mover whole taking d gone emptied filled =
    let P : List (Option Piece) → Type 0 = λ xs. Describes xs (opponent p.turn) after in
    subst P (taking_writes p m whole taking)
    (describes-moved p m (set p.squares (captured_en_passant m) None) passed between after mover (length-set_64 p.squares (captured_en_passant m) None whole)
    (describes-emptied p.squares (opponent p.turn) (captured_en_passant m) before passed whole (passed_pawn_on_board m) d gone) emptied filled)

pub describes-castling : (p : Position) (m : Move) (before crossed home between after : EnemySets) → Mover p m → length p.squares ≡ 64
    → takes_en_passant p m ≡ false → is_castling p m ≡ true
    → Describes p.squares (opponent p.turn) before
    → IsFilled before (halfway m.from.index m.to.index) crossed
    → IsEmptied crossed (rook_home p.turn (castling_side m)) home
    → IsEmptied home m.from.index between → IsFilled between m.to.index after
    → Describes (squares_after p m) (opponent p.turn) after
describes-castling p m before crossed home between after mover whole no_taking castled d put gone emptied filled =
    let there : ℕ = halfway m.from.index m.to.index in
    let corner : ℕ = rook_home p.turn (castling_side m) in
    let xs : List (Option Piece) = set p.squares there (piece_of p.turn Rook) in
    let whole_xs : length xs ≡ 64 = length-set_64 p.squares there (piece_of p.turn Rook) whole in
    let P : List (Option Piece) → Type 0 = λ ys. Describes ys (opponent p.turn) after in
    subst P (castling_writes p m whole no_taking castled)
    (describes-moved p m (set xs corner None) home between after mover (length-set_64 xs corner None whole_xs)
    (describes-emptied xs (opponent p.turn) corner crossed home whole_xs (rook_home_on_board p.turn (castling_side m))
    (describes-filled p.squares p.turn (opponent p.turn) Rook there before crossed (own_apart p.turn) whole
    (halfway_on_board _ _ m.from.on_board m.to.on_board) d put)
    gone)
    emptied filled)
