-- A legal move leaves a valid position.
use Rattle.std.proofs.Common.{◌≡◌, subst, ap, ◌∙◌, List, Option}
use Rattle.explorer_model.specs.declared.chess.Color.{Color}
use Rattle.explorer_model.specs.declared.chess.Color.TheVariants.{White, Black}
use Rattle.explorer_model.specs.declared.chess.Piece.{Piece}
use Rattle.explorer_model.specs.declared.chess.Rights.{Rights}
use Rattle.explorer_model.specs.declared.square.Square.{Square}
use Rattle.explorer_model.specs.declared.chess.Position.{Position}
use Rattle.explorer_model.specs.declared.chess.Move.{Move}
use Rattle.explorer_model.specs.Board.{opponent, InCheck}
use Rattle.explorer_model.specs.Chess.{IsValid, Legal, squares_after, after}
use Rattle.legal_moves.proofs.Facts.{mover, opponent-opponent}
use Rattle.legal_moves.proofs.Victim.{victim}
use Rattle.legal_moves.proofs.Kept.{length-after, keeps_pieces, keeps_pawns_inside, keeps_rights, sets_en_passant}

-- the mover's king is not attacked, and the mover is then the side that is not to move
left_in_no_check : (p : Position) (m : Move) → Legal p m → InCheck (squares_after p m) (opponent (opponent p.turn)) → ⊥
left_in_no_check p m legal check =
    let P : Color → Type 0 = λ c. InCheck (squares_after p m) c in legal.1 (subst P (opponent-opponent p.turn) check)

pub legal_keeps_validity : (p : Position) (m : Move) → IsValid p → Legal p m → IsValid (after p m)
legal_keeps_validity p m v legal = record {
  board = length-after p m;
  white = keeps_pieces p m White legal.0 (victim p m v legal.0) v.white;
  black = keeps_pieces p m Black legal.0 (victim p m v legal.0) v.black;
  pawns = keeps_pawns_inside p m (mover p m legal.0) v.pawns;
  not_in_check = left_in_no_check p m legal;
  rights = keeps_rights p m v legal.0;
  en_passant = sets_en_passant p m (mover p m legal.0);
}

-- a position is its four parts
position_of : List (Option Piece) → Color → Rights → Option Square → Position
position_of squares turn rights en_passant = record { squares = squares; turn = turn; rights = rights; en_passant = en_passant }

pub position_eq : (p q : Position) → p.squares ≡ q.squares → p.turn ≡ q.turn → p.rights ≡ q.rights → p.en_passant ≡ q.en_passant → p ≡ q
unfolding position_of
position_eq p q squares turn rights en_passant =
    ap (λ x. position_of x p.turn p.rights p.en_passant) squares
    ∙ ap (λ x. position_of q.squares x p.rights p.en_passant) turn
    ∙ ap (λ x. position_of q.squares q.turn x p.en_passant) rights
    ∙ ap (λ x. position_of q.squares q.turn q.rights x) en_passant
