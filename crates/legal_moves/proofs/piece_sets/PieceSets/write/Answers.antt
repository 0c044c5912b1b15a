use Rattle.std.proofs.Common.{refl, ap, set}
use Rattle.explorer_model.specs.declared.chess.Color.TheVariants.{White, Black}
use Rattle.explorer_model.specs.declared.chess.Role.TheVariants.{Pawn, Knight, Bishop, Rook, Queen, King}
use Rattle.explorer_model.specs.Chess.{is_of_color}
use Rattle.legal_moves.specs.PieceSets.{is_of, sets_in}
use Rattle.legal_moves.proofs.PieceSetLemmas.{sets_eq}
use Rattle.legal_moves.proofs.piece_sets.PieceSets.write.Goals as goal

pub returns : goal.returns
unfolding sets_in
returns c = λ squares whole told.
    sets_eq _ (sets_in (set squares c.args.square c.args.occupant))
    (c.write_square-self.ensures (is_of_color White) squares c.args.occupant whole refl c.is_of_color.ensures.value (ap (λ sets. sets.white) told))
    (c.write_square-self-2.ensures (is_of_color Black) squares c.args.occupant whole refl c.is_of_color-2.ensures.value (ap (λ sets. sets.black) told))
    (c.write_square-self-3.ensures (is_of Pawn) squares c.args.occupant whole refl c.is_of.ensures (ap (λ sets. sets.pawns) told))
    (c.write_square-self-4.ensures (is_of Knight) squares c.args.occupant whole refl c.is_of-2.ensures (ap (λ sets. sets.knights) told))
    (c.write_square-self-5.ensures (is_of Bishop) squares c.args.occupant whole refl c.is_of-3.ensures (ap (λ sets. sets.bishops) told))
    (c.write_square-self-6.ensures (is_of Rook) squares c.args.occupant whole refl c.is_of-4.ensures (ap (λ sets. sets.rooks) told))
    (c.write_square-self-7.ensures (is_of Queen) squares c.args.occupant whole refl c.is_of-5.ensures (ap (λ sets. sets.queens) told))
    (c.write_square-self-8.ensures (is_of King) squares c.args.occupant whole refl c.is_of-6.ensures (ap (λ sets. sets.kings) told))
