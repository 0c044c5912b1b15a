use Rattle.legal_moves.proofs.DestinationLemmas.{captures-says}
use Rattle.legal_moves.proofs.destinations.pawn_captures.Goals as goal

pub returns : goal.returns
returns c = λ m here.
    captures-says c.args.position.now m c.args.from c.pawn_diagonals.result c.args.info.now.enemies c.en_passant_square.result here c.pawn_diagonals.ensures
    c.requires.informed.enemies c.en_passant_square.ensures
