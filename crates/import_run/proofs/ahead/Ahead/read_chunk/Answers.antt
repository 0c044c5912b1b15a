use Rattle.std.proofs.Common.{refl, arith}
use Rattle.plain_laws.specs.Results.{OnErr-from}
use Rattle.import_run.specs.declared.ahead.ReadEnd.TheVariants.{Ended, Failed}
use Rattle.import_run.proofs.ChunkLemmas.{chunk_ended, chunk_failed, chunk_lacks_last, left_ended, left_reading, ready_ended}
use Rattle.import_run.proofs.ahead.Ahead.read_chunk.Goals as goal

pub returns-in_default-clause-ready : goal.returns-in_default-clause-ready
returns-in_default-clause-ready g c =
    let ready = c.requires.ready in
    ready_ended c.args.self.now.group.label _ (Failed c.read_faults-before.result c.read_faults-after.result) refl ready.below ready.takes refl ready.under

pub returns-in_default-clause-holds : goal.returns-in_default-clause-holds
returns-in_default-clause-holds g c = λ none before given h.
    chunk_failed before (g.S.Source.source c.args.source.now) (g.S.Source.source c.read.new.self) given c.args.self.now c.requires.reading h
    c.read_faults-before.result c.read_faults-after.result c.read_faults-before.ensures c.read_faults-after.ensures c.in_default.ensures.fails

pub returns-in_default-clause-less : goal.returns-in_default-clause-less
returns-in_default-clause-less g c = λ none. let left = left_reading c.args.self.now c.requires.reading in omega (arith, left)

pub returns-in_default-clause-few : goal.returns-in_default-clause-few
returns-in_default-clause-few g c = omega arith

pub returns-in_err-finish-clause-lacks : goal.returns-in_err-finish-clause-lacks
returns-in_err-finish-clause-lacks g c = OnErr-from c.from_residual.result _ (λ before given h.
    chunk_lacks_last before (g.S.Source.source c.args.source.now) (g.S.Source.source c.read.new.self) given c.args.self.now c.requires.reading h
    c.in-Ok.count c.read.new.into c.in-Ok.ensures.gives (omega arith) c.requires.ready.below)

pub returns-clause-ready : goal.returns-clause-ready
returns-clause-ready g c =
    let ready = c.requires.ready in
    let done = c.in_ok-finish.ensures in
    ready_ended c.args.self.now.group.label c.finish.new.self Ended done.end (omega (arith, ready.below, done.taken)) done.ready done.label (done.under ready.under)

pub returns-clause-holds : goal.returns-clause-holds
returns-clause-holds g c = λ none before given h.
    let done = c.in_ok-finish.ensures in
    chunk_ended before (g.S.Source.source c.args.source.now) (g.S.Source.source c.read.new.self) given c.args.self.now c.requires.reading h
    c.in-Ok.count c.read.new.into c.in-Ok.ensures.gives (omega arith) c.finish.new.self done.end done.taken done.all

pub returns-clause-less : goal.returns-clause-less
returns-clause-less g c = λ none.
    let left = left_reading c.args.self.now c.requires.reading in
    let ended = left_ended c.finish.new.self Ended c.in_ok-finish.ensures.end in
    omega (arith, left, ended)

pub returns-clause-few : goal.returns-clause-few
returns-clause-few g c =
    let left = left_reading c.args.self.now c.requires.reading in
    let ended = left_ended c.finish.new.self Ended c.in_ok-finish.ensures.end in
    omega (arith, left, ended, c.in_ok-finish.ensures.few)
