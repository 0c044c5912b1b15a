use Rattle.std.proofs.Common.{refl, arith}
use Rattle.explorer_model.specs.declared.square.Square.{Square}
use Rattle.explorer_model.specs.declared.chess.Role.TheVariants.{Pawn}
use Rattle.explorer_model.specs.Board.{piece_at, IsPiece}
use Rattle.explorer_model.specs.Chess.{Legal, quiet}
use Rattle.explorer_model.proofs.Squares.{none_below-more}
use Rattle.explorer_model.proofs.EnPassant.{taken-found, taken-from}
use Rattle.chess_reference.proofs.legal.can_capture_en_passant.Goals as goal

pub returns-then-can_pawn_go : goal.returns-then-can_pawn_go
returns-then-can_pawn_go c = (
  λ _. taken-found c.args.position.now _ c.args.to c.requires.crossed (c.can_pawn_go.ensures.0 c.if-can_pawn_go.true),
  λ _. refl,
)

pub loop-index-preserved : goal.loop-index-preserved
loop-index-preserved c =
    let P : Square → Type 0 = λ from.
    IsPiece c.args.position.now.turn Pawn (piece_at c.args.position.now.squares from.index) × Legal c.args.position.now (quiet from c.args.to)
    in none_below-more P c.loop-index.index c.loop-index.invariant _ refl (λ found.
    let is = c.can_pawn_go.ensures.1 found in
    let isnt = c.if-can_pawn_go.false in cc)

pub returns : goal.returns
returns c = (
  λ no. absurd (let isnt = no in cc),
  λ taken.
      let from = taken-from c.args.position.now c.args.to c.requires.valid c.requires.crossed taken in
      absurd (c.loop-index.invariant from.0 (omega (arith, from.0.on_board, c.loop-index-test.false)) from.1),
)
