use Rattle.std.proofs.Common.{refl, ap}
use Rattle.explorer_model.specs.declared.chess.Color.TheVariants.{White, Black}
use Rattle.explorer_model.specs.declared.chess.Role.TheVariants.{Pawn, Knight, Bishop, Rook, Queen, King}
use Rattle.explorer_model.specs.Board.{piece_at}
use Rattle.explorer_model.specs.Chess.{is_of_color}
use Rattle.legal_moves.specs.PieceSets.{is_of, sets_in}
use Rattle.legal_moves.proofs.PieceSetLemmas.{sets_eq}
use Rattle.legal_moves.proofs.Writes.{moved}
use Rattle.legal_moves.proofs.piece_sets.PieceSets.carry.Goals as goal

pub returns : goal.returns
unfolding sets_in
returns c = λ squares whole told.
    sets_eq _ (sets_in (moved squares c.args.from c.args.to (piece_at squares c.args.from)))
    (c.carry_square-self.ensures (is_of_color White) squares whole refl (ap (λ sets. sets.white) told))
    (c.carry_square-self-2.ensures (is_of_color Black) squares whole refl (ap (λ sets. sets.black) told))
    (c.carry_square-self-3.ensures (is_of Pawn) squares whole refl (ap (λ sets. sets.pawns) told))
    (c.carry_square-self-4.ensures (is_of Knight) squares whole refl (ap (λ sets. sets.knights) told))
    (c.carry_square-self-5.ensures (is_of Bishop) squares whole refl (ap (λ sets. sets.bishops) told))
    (c.carry_square-self-6.ensures (is_of Rook) squares whole refl (ap (λ sets. sets.rooks) told))
    (c.carry_square-self-7.ensures (is_of Queen) squares whole refl (ap (λ sets. sets.queens) told))
    (c.carry_square-self-8.ensures (is_of King) squares whole refl (ap (λ sets. sets.kings) told))
