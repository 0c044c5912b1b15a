use Rattle.legal_moves.proofs.BitboardFacts.{meet-says}
use Rattle.legal_moves.proofs.enemy_sets.meet.Goals as goal

pub returns : goal.returns
returns c = meet-says c.args.bitboard c.args.other c.ranges.bitboard.fits
