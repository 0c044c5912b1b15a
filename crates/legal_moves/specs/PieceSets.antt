-- Bridge: where the pieces of a board stand, as sets of squares: bit s of a set stands for square
-- s.
use Rattle.std.specs.Prelude.{◌≡◌, ℕ, ◌+◌, ◌*◌, Bool, true, false, ◌||◌, ◌==◌, cond, List, [], ◌∷◌, length, slice_set, Option, Some, None}
use Rattle.explorer_model.specs.declared.chess.Color.TheVariants.{White, Black}
use Rattle.explorer_model.specs.declared.chess.Role.{Role}
use Rattle.explorer_model.specs.declared.chess.Role.TheVariants.{Pawn, Knight, Bishop, Rook, Queen, King}
use Rattle.explorer_model.specs.declared.chess.Piece.{Piece}
use Rattle.explorer_model.specs.declared.chess.Position.{Position}
use Rattle.explorer_model.specs.declared.chess.Move.{Move}
use Rattle.explorer_model.specs.Board.{piece_at}
use Rattle.explorer_model.specs.Chess.{is_of_color, IsValid, takes_en_passant, is_castling}
use Rattle.legal_moves.specs.declared.piece_sets.PieceSets.{PieceSets}

abbrev pub is_role : Role → Role → Bool
is_role Pawn Pawn = true
is_role Knight Knight = true
is_role Bishop Bishop = true
is_role Rook Rook = true
is_role Queen Queen = true
is_role King King = true
is_role _ _ = false

-- a piece of this role, of either colour
abbrev pub is_of : Role → Option Piece → Bool
is_of role None = false
is_of role (Some piece) = is_role role piece.role

-- the set of the squares whose pieces pass the test, of squares in their order
unfoldable pub set_of : (Option Piece → Bool) → List (Option Piece) → ℕ
set_of test [] = 0
set_of test (occupant ∷ squares) = cond (test occupant) 1 0 + 2 * set_of test squares

-- the pieces on these squares
unfoldable pub sets_in : List (Option Piece) → PieceSets
sets_in squares = record {
  white = set_of (is_of_color White) squares;
  black = set_of (is_of_color Black) squares;
  pawns = set_of (is_of Pawn) squares;
  knights = set_of (is_of Knight) squares;
  bishops = set_of (is_of Bishop) squares;
  rooks = set_of (is_of Rook) squares;
  queens = set_of (is_of Queen) squares;
  kings = set_of (is_of King) squares;
}

-- the set of such pieces once a piece, which is such or not, or none, stands on the square s
abbrev pub IsSetWritten : ℕ → ℕ → Bool → ℕ → Type 0
IsSetWritten before s there after =
    (test : Option Piece → Bool) (squares : List (Option Piece)) (occupant : Option Piece)
    → length squares ≡ 64 → test None ≡ false → there ≡ test occupant
    → before ≡ set_of test squares → after ≡ set_of test (slice_set squares s occupant)

-- the pieces once this piece, or none, stands on the square s
abbrev pub AreWritten : PieceSets → ℕ → Option Piece → PieceSets → Type 0
AreWritten before s occupant after =
    (squares : List (Option Piece)) → length squares ≡ 64 → before ≡ sets_in squares
    → after ≡ sets_in (slice_set squares s occupant)

-- the set of such pieces once what stands on one square is put onto another one
abbrev pub IsSetCarried : ℕ → ℕ → ℕ → ℕ → Type 0
IsSetCarried before from to after =
    (test : Option Piece → Bool) (squares : List (Option Piece))
    → length squares ≡ 64 → test None ≡ false → before ≡ set_of test squares
    → after ≡ set_of test (slice_set (slice_set squares from None) to (piece_at squares from))

-- the pieces once what stands on one square is put onto another one
abbrev pub AreCarried : PieceSets → ℕ → ℕ → PieceSets → Type 0
AreCarried before from to after =
    (squares : List (Option Piece)) → length squares ≡ 64 → before ≡ sets_in squares
    → after ≡ sets_in (slice_set (slice_set squares from None) to (piece_at squares from))

-- a king or a rook that may castle stands there at first
abbrev pub is_home : ℕ → Bool
is_home s = s == 0 || s == 4 || s == 7 || s == 56 || s == 60 || s == 63

-- the move only puts a piece onto another square
abbrev pub IsPlain : Position → Move → Type 0
IsPlain p m = (takes_en_passant p m ≡ false) × (is_castling p m ≡ false) × (m.promotion ≡ None)

-- what a board is made of
pub record IsKept (position : Position) (sets : PieceSets) : Type 0 where
  pub valid : IsValid position
  pub told : sets ≡ sets_in position.squares
