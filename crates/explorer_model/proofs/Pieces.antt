-- What the tests of pieces and squares say.
use Rattle.std.proofs.Common.{◌≡◌, ℕ, ◌<◌, true, Option, Some, None, refl, lit<, arith}
use Rattle.explorer_model.specs.declared.chess.Color.{Color}
use Rattle.explorer_model.specs.declared.chess.Color.TheVariants.{White, Black}
use Rattle.explorer_model.specs.declared.chess.Role.{Role}
use Rattle.explorer_model.specs.declared.chess.Role.TheVariants.{Pawn, Knight, Bishop, Rook, Queen, King}
use Rattle.explorer_model.specs.declared.square.Square.{Square}
use Rattle.explorer_model.specs.Chess.{king_home, is_king, is_square, IsSquare}

pub king_role : (role : Role) → is_king role ≡ true → role ≡ King
king_role King e = refl
king_role Pawn e = cc
king_role Knight e = cc
king_role Bishop e = cc
king_role Rook e = cc
king_role Queen e = cc

pub square_true : (o : Option Square) (s : ℕ) → is_square o s ≡ true → IsSquare o s
square_true None s e = cc
square_true (Some square) s e = grind (arith, e)

pub king_home_on_board : (color : Color) → king_home color < 64
king_home_on_board White = lit< tt
king_home_on_board Black = lit< tt
