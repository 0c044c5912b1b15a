use Rattle.outside.proofs.ByteLemmas.{slice_from, gives_next}
use Rattle.outside.proofs.memory.MemSourceSource.read.Goals as goal

pub returns-clause-gives : goal.returns-clause-gives
returns-clause-gives c =
    let source = c.self.inside in
    let rest = slice_from source.at source.bytes.items in
    let copied = rw (c.deref.ensures.value, rest) at c.copy_from_slice.ensures.after in
    let count = rw (rw (c.deref.ensures.value, rest) at c.min.ensures) at c.min-count.ensures in
    rw (← c.self.view_is)
    (gives_next source.bytes.items c.args.into.now _ source.at source.most c.min-count.result source.faults
    copied count c.self.invariant.1 c.requires)
