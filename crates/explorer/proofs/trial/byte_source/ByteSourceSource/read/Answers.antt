use Rattle.plain_laws.specs.Lists.{take-rest}
use Rattle.explorer.proofs.TrialLemmas.Bytes.{gives_next}
use Rattle.explorer.proofs.trial.byte_source.ByteSourceSource.read.Goals as goal

pub returns-clause-gives : goal.returns-clause-gives
returns-clause-gives c =
    let source = c.self.inside in
    let rest = take-rest source.at source.bytes.items in
    let copied = rw (c.deref.ensures.value, rest) at c.copy_from_slice.ensures.after in
    let count = rw (c.deref.ensures.value, rest) at c.min-count.ensures in
    rw (← c.self.view_is)
    (gives_next source.bytes.items c.args.into.now _ source.at c.min-count.result copied count c.requires)
