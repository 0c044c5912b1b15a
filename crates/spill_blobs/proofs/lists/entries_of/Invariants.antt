use Rattle.std.proofs.Common.{◌-◌, length}
use Rattle.spill_blobs.proofs.ListLemmas.{IsTaking}
use Rattle.spill_blobs.proofs.lists.entries_of.Given as goal

abbrev pub invariant-loop-rest : goal.invariant-loop-rest
invariant-loop-rest l = IsTaking l.initial.rest l.rest l.count l.entries.items

abbrev pub decreases-loop-rest : goal.decreases-loop-rest
decreases-loop-rest l = l.count - length l.entries.items
