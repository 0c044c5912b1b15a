use Rattle.legal_moves.proofs.DestinationLemmas.{except-says}
use Rattle.legal_moves.proofs.destinations.except.Goals as goal

pub returns : goal.returns
returns c = λ s on. except-says c.args.bitboard c.args.others s c.ranges.others.fits on
