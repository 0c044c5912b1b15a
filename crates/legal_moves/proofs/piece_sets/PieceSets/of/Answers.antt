use Rattle.legal_moves.specs.PieceSets.{sets_in}
use Rattle.legal_moves.proofs.PieceSetLemmas.{sets_eq}
use Rattle.legal_moves.proofs.piece_sets.PieceSets.of.Goals as goal

pub returns : goal.returns
unfolding sets_in
returns c =
    sets_eq _ (sets_in c.args.squares.now) c.squares_of_color.ensures c.squares_of_color-2.ensures c.squares_of_role.ensures c.squares_of_role-2.ensures
    c.squares_of_role-3.ensures c.squares_of_role-4.ensures c.squares_of_role-5.ensures c.squares_of_role-6.ensures
