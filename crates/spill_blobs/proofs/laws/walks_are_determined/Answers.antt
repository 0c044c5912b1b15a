use Rattle.spill_blobs.proofs.FoundLemmas.{walks-one}
use Rattle.spill_blobs.proofs.laws.walks_are_determined.Goals as goal

pub returns : goal.returns
returns c = walks-one
