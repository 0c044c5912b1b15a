use Rattle.spill_blobs.proofs.WrittenLemmas.{played}
use Rattle.spill_blobs.proofs.laws.rows_of_segments_are_played.Goals as goal

pub returns : goal.returns
returns c = played (record {
  keeps = c.legal_moves_keep_validity.ensures;
  begins = c.games_begin_validly.ensures;
})
