-- Statement: the order in which legal moves are listed, and what a list of the first of them has.
use Rattle.std.specs.Prelude.{◌≡◌, ℕ, ◌+◌, ◌*◌, ◌<◌, ◌⊎◌, List, Option, Some, None}
use Rattle.std.specs.List.{Contains, AllPairs}
use Rattle.explorer_model.specs.declared.chess.Role.{Role}
use Rattle.explorer_model.specs.declared.chess.Role.TheVariants.{Pawn, Knight, Bishop, Rook, Queen, King}
use Rattle.explorer_model.specs.declared.chess.Piece.{Piece}
use Rattle.explorer_model.specs.declared.chess.Position.{Position}
use Rattle.explorer_model.specs.declared.chess.Move.{Move}
use Rattle.explorer_model.specs.Board.{rank_of, piece_at, IsOfColor, IsPiece, Attacks}
use Rattle.explorer_model.specs.Chess.{last_rank, PawnSteps, PawnDoubleSteps, PawnCaptures, Castles, Legal}

abbrev pub promotion_place : Option Role → ℕ
promotion_place None = 0
promotion_place (Some Knight) = 1
promotion_place (Some Bishop) = 2
promotion_place (Some Rook) = 3
promotion_place (Some Queen) = 4
promotion_place (Some Pawn) = 5
promotion_place (Some King) = 6

-- where a move comes in the order: by the square that it begins on, then by the one that it ends
-- on, then by what is promoted. No two moves have one place.
abbrev pub place_of : Move → ℕ
place_of m = 512 * m.from.index + 8 * m.to.index + promotion_place m.promotion

-- the legal moves whose place is below n, each once
pub record ListsBelow (p : Position) (n : ℕ) (moves : List Move) : Type 0 where
  pub sound : (m : Move) → Contains moves m → Legal p m
  pub below : (m : Move) → Contains moves m → place_of m < n
  pub complete : (m : Move) → Legal p m → place_of m < n → Contains moves m
  pub rising : AllPairs (λ a b. place_of a < place_of b) moves

-- where a piece of this role may go, whatever a pawn then becomes
abbrev pub RoleReaches : Position → Role → Move → Type 0
RoleReaches p Pawn m = PawnSteps p m ⊎ PawnDoubleSteps p m ⊎ PawnCaptures p m
RoleReaches p King m = Attacks p.squares m.from.index m.to.index ⊎ Castles p m
RoleReaches p _ m = Attacks p.squares m.from.index m.to.index

abbrev pub PieceReaches : Position → Option Piece → Move → Type 0
PieceReaches p None m = ⊥
PieceReaches p (Some piece) m = RoleReaches p piece.role m

-- a move that is pseudo-legal where it promotes as it must
abbrev pub IsDestination : Position → Move → Type 0
IsDestination p m =
    IsOfColor p.turn (piece_at p.squares m.from.index)
    × (¬ IsOfColor p.turn (piece_at p.squares m.to.index))
    × PieceReaches p (piece_at p.squares m.from.index) m

-- a pawn goes to its last rank
abbrev pub IsPromoting : Position → ℕ → ℕ → Type 0
IsPromoting p from to =
    (rank_of to ≡ last_rank p.turn) × IsPiece p.turn Pawn (piece_at p.squares from)
