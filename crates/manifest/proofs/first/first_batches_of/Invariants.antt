use Rattle.std.specs.Vec.Iter.{into_iter_items}
use Rattle.manifest.proofs.FirstLemmas.{IsReadUpTo}
use Rattle.manifest.proofs.first.first_batches_of.Given as goal

abbrev pub invariant-loop-payload : goal.invariant-loop-payload
invariant-loop-payload l =
    (goal.iterator-loop-payload).can_next l.payload-iterator
    × (goal.iterator-loop-payload).is_finite l.payload-iterator
    × IsReadUpTo l.fn.payloads.items l.gate l.batches.items (into_iter_items l.payload-iterator)
