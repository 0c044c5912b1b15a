use Rattle.std.proofs.Common.{sym, subst}
use Rattle.explorer_model.specs.declared.chess.Color.{Color}
use Rattle.explorer_model.specs.Board.{IsOfColor}
use Rattle.legal_moves.specs.EnemySets.{IsBitboardOf}
use Rattle.legal_moves.proofs.PieceBitboards.{sets-place}
use Rattle.legal_moves.proofs.piece_sets.PieceSets.of_color.Goals as goal

pub returns-in-White : goal.returns-in-White
returns-in-White c = λ squares told.
    let P : Color → Type 0 = λ color. IsBitboardOf (IsOfColor color) squares c.args.self.now.white in
    subst P (sym c.in-White.is) (sets-place squares c.args.self.now told).white

pub returns-in-Black : goal.returns-in-Black
returns-in-Black c = λ squares told.
    let P : Color → Type 0 = λ color. IsBitboardOf (IsOfColor color) squares c.args.self.now.black in
    subst P (sym c.in-Black.is) (sets-place squares c.args.self.now told).black
