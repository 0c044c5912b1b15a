use Rattle.std.proofs.Common.{sym, subst}
use Rattle.explorer_model.specs.declared.chess.Role.{Role}
use Rattle.explorer_model.specs.San.{IsRole}
use Rattle.legal_moves.specs.EnemySets.{IsBitboardOf}
use Rattle.legal_moves.proofs.PieceBitboards.{sets-place}
use Rattle.legal_moves.proofs.piece_sets.PieceSets.of_role.Goals as goal

pub returns-in-Pawn : goal.returns-in-Pawn
returns-in-Pawn c = λ squares told.
    let P : Role → Type 0 = λ role. IsBitboardOf (IsRole role) squares c.args.self.now.pawns in
    subst P (sym c.in-Pawn.is) (sets-place squares c.args.self.now told).pawns

pub returns-in-Knight : goal.returns-in-Knight
returns-in-Knight c = λ squares told.
    let P : Role → Type 0 = λ role. IsBitboardOf (IsRole role) squares c.args.self.now.knights in
    subst P (sym c.in-Knight.is) (sets-place squares c.args.self.now told).knights

pub returns-in-Bishop : goal.returns-in-Bishop
returns-in-Bishop c = λ squares told.
    let P : Role → Type 0 = λ role. IsBitboardOf (IsRole role) squares c.args.self.now.bishops in
    subst P (sym c.in-Bishop.is) (sets-place squares c.args.self.now told).bishops

pub returns-in-Rook : goal.returns-in-Rook
returns-in-Rook c = λ squares told.
    let P : Role → Type 0 = λ role. IsBitboardOf (IsRole role) squares c.args.self.now.rooks in
    subst P (sym c.in-Rook.is) (sets-place squares c.args.self.now told).rooks

pub returns-in-Queen : goal.returns-in-Queen
returns-in-Queen c = λ squares told.
    let P : Role → Type 0 = λ role. IsBitboardOf (IsRole role) squares c.args.self.now.queens in
    subst P (sym c.in-Queen.is) (sets-place squares c.args.self.now told).queens

pub returns-in-King : goal.returns-in-King
returns-in-King c = λ squares told.
    let P : Role → Type 0 = λ role. IsBitboardOf (IsRole role) squares c.args.self.now.kings in
    subst P (sym c.in-King.is) (sets-place squares c.args.self.now told).kings
