use Rattle.legal_moves.proofs.PieceSetLemmas.{written_by}
use Rattle.legal_moves.proofs.piece_sets.write_square.Goals as goal

pub returns : goal.returns
returns c =
    written_by c.args.bitboard c.without.result c.only_if.result c.args.square c.args.there c.requires c.without.type_inv c.only_if.type_inv
    c.without.ensures.others c.only_if.ensures
