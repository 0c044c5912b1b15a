use Rattle.std.proofs.Common.{ℕ, sym, subst}
use Rattle.explorer_model.specs.declared.chess.Role.TheVariants.{King}
use Rattle.explorer_model.specs.Board.{piece_at, IsPiece}
use Rattle.legal_moves.proofs.OneKing.{king_moved, king_stayed}
use Rattle.legal_moves.proofs.check_info.CheckInfo.king_after.Goals as goal

pub returns-then-m-self-clause-stands : goal.returns-then-m-self-clause-stands
returns-then-m-self-clause-stands c =
    let P : ℕ → Type 0 = λ s. IsPiece c.args.position.now.turn King (piece_at c.args.position.now.squares s) in
    king_moved c.args.position.now c.args.m c.requires.pseudo_legal (subst P (sym c.if-m-self.true) c.requires.informed.king)

pub returns-else-m-self-clause-stands : goal.returns-else-m-self-clause-stands
returns-else-m-self-clause-stands c =
    king_stayed c.args.position.now c.args.m c.args.self.now.king c.requires.informed.valid c.requires.pseudo_legal c.requires.informed.on_board
    c.requires.informed.king c.if-m-self.false
