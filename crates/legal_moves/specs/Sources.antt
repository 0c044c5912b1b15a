-- Bridge: from where the pieces of one role go to one square.
use Rattle.std.specs.Prelude.{◌≡◌, ℕ, ◌<◌, ◌⊎◌, ◌&&◌, ◌||◌, Bool, false, is_some, Option, None}
use Rattle.step_tables.specs.Bitboard.{Holds}
use Rattle.explorer_model.specs.declared.chess.Role.{Role}
use Rattle.explorer_model.specs.declared.chess.Role.TheVariants.{Pawn}
use Rattle.explorer_model.specs.declared.chess.Color.{Color}
use Rattle.explorer_model.specs.declared.chess.Position.{Position}
use Rattle.explorer_model.specs.declared.chess.Move.{Move}
use Rattle.explorer_model.specs.declared.square.Square.{Square}
use Rattle.explorer_model.specs.Board.{piece_at, IsPiece, RoleAttacks}
use Rattle.explorer_model.specs.Chess.{Promotes, PawnSteps, PawnDoubleSteps, PawnCaptures, is_pawn, is_square, is_castling, Legal}

abbrev pub move_from : Square → Square → Option Role → Move
move_from from to promotion = record { from = from; to = to; promotion = promotion }

-- a piece of this role stands on the square, and it can legally go to `to` and become what is
-- named, not by castling
abbrev pub IsSource : Position → Role → Square → Option Role → Square → Type 0
IsSource p role to promotion from =
    IsPiece p.turn role (piece_at p.squares from.index)
    × (is_castling p (move_from from to promotion) ≡ false)
    × Legal p (move_from from to promotion)

-- a piece of this role that goes to s takes something there, or a pawn en passant
abbrev pub takes_on : Position → Role → ℕ → Bool
takes_on p role s = is_some (piece_at p.squares s) || (is_pawn role && is_square p.en_passant s)

-- how a piece of this role goes, castling aside, whatever stands where it goes
abbrev pub Lands : Position → Role → Move → Type 0
Lands p Pawn m = PawnSteps p m ⊎ PawnDoubleSteps p m ⊎ PawnCaptures p m
Lands p role m = RoleAttacks p.squares p.turn role m.from.index m.to.index

-- what a piece of this role may become there
abbrev pub BecomesAs : Color → Role → Move → Type 0
BecomesAs color Pawn m = Promotes color m
BecomesAs color role m = m.promotion ≡ None

-- of the squares of a set some are left to be tried; the others are found where they pass
pub record AreSifted (all rest found : ℕ) (Passes : Square → Type 0) : Type 0 where
  pub within : (b : ℕ) → b < 64 → Holds rest b → Holds all b
  pub sound : (from : Square) → Holds found from.index → Holds all from.index × Passes from
  pub complete : (from : Square) → Holds all from.index → Passes from
      → Holds rest from.index ⊎ Holds found from.index
