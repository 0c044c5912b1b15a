use Rattle.spill_blobs.proofs.RowLemmas.{one_row}
use Rattle.spill_blobs.proofs.laws.blocks_are_of_one_row.Goals as goal

pub returns : goal.returns
returns c = one_row
