use Rattle.segment_merge.proofs.MergedLemmas.{Tallied-merged}
use Rattle.segment_merge.proofs.laws.merged_rows_are_tallied.Goals as goal

pub returns : goal.returns
returns c = Tallied-merged
