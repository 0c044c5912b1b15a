use Rattle.std.proofs.Common.{◌≡◌, ℕ, List, Option, None, set, sym, ap, ◌∙◌}
use Rattle.explorer_model.specs.declared.chess.Piece.{Piece}
use Rattle.explorer_model.specs.declared.chess.Position.{Position}
use Rattle.explorer_model.specs.declared.chess.Move.{Move}
use Rattle.explorer_model.specs.Board.{piece_at}
use Rattle.explorer_model.specs.Chess.{arriving, captured_en_passant, rook_home}
use Rattle.explorer_model.specs.Keys.{packed}
use Rattle.batch_tally.specs.KeyedBoard.{moved}
use Rattle.legal_moves.proofs.Writes.{length-set_64, plain_writes, taking_writes, castling_writes}
use Rattle.batch_tally.proofs.keyed_board.follow.Goals as goal

castled : (xs : List (Option Piece)) (i j k l : ℕ) (occupant other : Option Piece) → i ≡ j → k ≡ l → occupant ≡ other
    → set (set xs i occupant) k None ≡ set (set xs j other) l None
castled xs i j k l occupant other e f g =
    ap (λ i. set (set xs i occupant) k None) e ∙ ap (λ k. set (set xs j occupant) k None) f ∙ ap (λ occupant. set (set xs j occupant) l None) g

moved_from : Position → Move → List (Option Piece) → List (Option Piece)
moved_from p m xs = moved xs m.from.index m.to.index (arriving (piece_at p.squares m.from.index) m.promotion)

pub returns-then-takes_en_passant : goal.returns-then-takes_en_passant
returns-then-takes_en_passant c =
    let p = c.args.position.now in
    let m = c.args.m in
    c.move_packed.ensures (set p.squares (captured_en_passant m) None) (length-set_64 p.squares (captured_en_passant m) None c.requires.whole)
    (c.write_square.ensures p.squares c.requires.whole c.requires.told ∙ ap (λ i. packed (set p.squares i None)) c.captured_en_passant.ensures)
    ∙ ap (λ s. packed s) (taking_writes p m c.requires.whole (sym c.takes_en_passant.ensures ∙ c.if-takes_en_passant.true))

pub returns-then-is_castling : goal.returns-then-is_castling
unfolding moved_from
returns-then-is_castling c =
    let p = c.args.position.now in
    let m = c.args.m in
    let one = length-set_64 p.squares c.halfway-crossed.result c.piece_of.result c.requires.whole in
    let xs = set p.squares c.halfway-crossed.result c.piece_of.result in
    c.move_packed-then-is_castling.ensures (set xs c.rook_home-home.result None) (length-set_64 xs c.rook_home-home.result None one)
    (c.write_square-then-is_castling-2.ensures xs one (c.write_square-then-is_castling.ensures p.squares c.requires.whole c.requires.told))
    ∙ ap (λ s. packed (moved_from p m s))
    (castled p.squares _ _ _ _ _ _ c.halfway-crossed.ensures (c.rook_home-home.ensures ∙ ap (rook_home p.turn) c.castling_side.ensures) c.piece_of.ensures)
    ∙ ap (λ s. packed s) (castling_writes p m c.requires.whole (sym c.takes_en_passant.ensures ∙ c.if-takes_en_passant.false)
    (sym c.is_castling.ensures ∙ c.if-is_castling.true))

pub returns : goal.returns
returns c =
    let p = c.args.position.now in
    let m = c.args.m in
    c.move_packed-2.ensures p.squares c.requires.whole c.requires.told
    ∙ ap (λ s. packed s) (plain_writes p m c.requires.whole (sym c.takes_en_passant.ensures ∙ c.if-takes_en_passant.false)
    (sym c.is_castling.ensures ∙ c.if-is_castling.false))
