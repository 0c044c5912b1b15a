use Rattle.std.proofs.Common.{◌↔◌, ℕ, IsTrue, Option, sym, ◌∙◌, subst}
use Rattle.explorer_model.specs.declared.chess.Piece.{Piece}
use Rattle.explorer_model.specs.declared.chess.Role.TheVariants.{King}
use Rattle.explorer_model.specs.Board.{IsPiece, IsOpen}
use Rattle.explorer_model.specs.Chess.{king_home, rook_home}
use Rattle.legal_moves.proofs.check_info.CheckInfo.castles_to.Goals as goal

pub returns : goal.returns
returns c =
    let Open : ℕ → ℕ → Type 0 = λ a b. IsTrue c.is_open.result ↔ IsOpen c.args.position.now.squares a b in
    let Stands : Option Piece → Type 0 = λ o. IsPiece c.args.position.now.turn King o in
    let home : ℕ = king_home c.args.position.now.turn in
    let From : ℕ → Type 0 = λ a. Open a c.rook_home.result in
    let says : Open home (rook_home c.args.position.now.turn c.args.side) = subst (Open home) c.rook_home.ensures (subst From c.king_home-2.ensures c.is_open.ensures) in (
      λ open_path. (
        sym c.has.ensures ∙ c.if-not-has.false,
        c.if-from-king_home.false ∙ c.king_home.ensures,
        c.if-m-king_target.false ∙ c.king_target.ensures,
        subst Stands c.piece_at.ensures (c.is_piece.ensures.0 c.if-not-is_piece.false),
        says.0 open_path,
      ),
      λ castles. says.1 castles.4,
    )
