use Rattle.std.proofs.Common.{◌≡◌, ℕ, List, set, Option, None, sym, ap, ◌∙◌}
use Rattle.explorer_model.specs.declared.chess.Piece.{Piece}
use Rattle.explorer_model.specs.declared.chess.Position.{Position}
use Rattle.explorer_model.specs.declared.chess.Move.{Move}
use Rattle.explorer_model.specs.Board.{piece_at}
use Rattle.explorer_model.specs.Chess.{arriving, squares_after, rook_home}
use Rattle.legal_moves.proofs.Writes.{moved, plain_writes, taking_writes, castling_writes}
use Rattle.legal_moves.proofs.play.write_pieces.Goals as goal
use Rattle.legal_moves.proofs.play.write_pieces.Goals.{then-taking, else-taking+then-castles, else-taking+else-castles}

played : (p : Position) (m : Move) (xs ys : List (Option Piece)) (occupant : Option Piece) → xs ≡ ys → occupant ≡ arriving (piece_at p.squares m.from.index) m.promotion
    → moved ys m.from.index m.to.index (arriving (piece_at p.squares m.from.index) m.promotion) ≡ squares_after p m
    → moved xs m.from.index m.to.index occupant ≡ squares_after p m
played p m xs ys occupant same arrives writes =
    ap (λ xs. moved xs m.from.index m.to.index occupant) same ∙ ap (moved ys m.from.index m.to.index) arrives ∙ writes

castled : (xs : List (Option Piece)) (i j k l : ℕ) (occupant other : Option Piece) → i ≡ j → k ≡ l → occupant ≡ other
    → set (set xs i occupant) k None ≡ set (set xs j other) l None
castled xs i j k l occupant other e f g =
    ap (λ i. set (set xs i occupant) k None) e ∙ ap (λ k. set (set xs j occupant) k None) f ∙ ap (λ occupant. set (set xs j occupant) l None) g

written : (xs ys zs : List (Option Piece)) (i j : ℕ) (occupant : Option Piece) → ys ≡ set xs i None → zs ≡ set ys j occupant → zs ≡ moved xs i j occupant
written xs ys zs i j occupant first second = second ∙ ap (λ s. set s j occupant) first

pub returns-clause-squares : goal.returns-clause-squares
returns-clause-squares c =
    written c.if-taking.squares _ _ _ _ _ c.write-2.ensures.squares c.write-3.ensures.squares
    ∙ elim c.if-taking.branch [
      | then-taking w ↦
          played c.args.position.now c.args.m _ _ _
          (w.squares-is ∙ w.write.ensures.squares ∙ ap (λ i. set c.args.position.now.squares i None) w.captured_en_passant.ensures)
          c.arriving_piece-arrives.ensures
          (taking_writes _ _ c.requires.valid.board (sym c.takes_en_passant-taking.ensures ∙ w.if-taking.true))
      | else-taking+then-castles w ↦
          played c.args.position.now c.args.m _ _ _
          (w.squares-is ∙ w.write-then-castles-2.ensures.squares
          ∙ ap (λ xs. set xs w.rook_home.result None) w.write-then-castles.ensures.squares
          ∙ castled c.args.position.now.squares _ _ _ _ _ _ w.halfway.ensures
          (w.rook_home.ensures ∙ ap (rook_home c.args.position.now.turn) w.castling_side.ensures) w.piece_of.ensures)
          c.arriving_piece-arrives.ensures
          (castling_writes _ _ c.requires.valid.board (sym c.takes_en_passant-taking.ensures ∙ w.if-taking.false) (sym c.is_castling-castles.ensures ∙ w.if-castles.true))
      | else-taking+else-castles w ↦
          played c.args.position.now c.args.m _ _ _ w.squares-is c.arriving_piece-arrives.ensures
          (plain_writes _ _ c.requires.valid.board (sym c.takes_en_passant-taking.ensures ∙ w.if-taking.false) (sym c.is_castling-castles.ensures ∙ w.if-castles.false))
    ]
