use Rattle.std.proofs.lemmas.Result.{err_from_is_err_and}
use Rattle.explorer_model.specs.StoreFile.{gate_limit}
use Rattle.manifest.proofs.StoringLemmas.{next-fits, next-leaves, next-stops, next-stored}
use Rattle.manifest.proofs.manifest.Manifest.store_all.Goals as goal

pub store-requires-clause-low : goal.store-requires-clause-low
store-requires-clause-low g c =
    let l = c.loop-batch in
    next-fits g.D.Disk.disk g.D.Disk.left_since c.args.batches.now l.batch-index c.batch-item.result c.batch-item.is
    c.loop-batch-test.true c.args.self.now l.self l.self l.invariant gate_limit c.requires.low

pub returns-in_err-store-clause-cases : goal.returns-in_err-store-clause-cases
returns-in_err-store-clause-cases g c =
    let l = c.loop-batch in
    let p = err_from_is_err_and c.from_residual.result c.from_residual.ensures.1 in
    rw (p.1, p.2)
    (next-stops g.D.Disk.disk g.D.Disk.left_since c.args.batches.now l.batch-index c.batch-item.result c.batch-item.is
    c.loop-batch-test.true c.args.self.now l.self c.store.new.self l.invariant c.in_err-store.field-0.0 c.in_err-store.ensures.cases)

pub returns-in_err-store-clause-any_moment : goal.returns-in_err-store-clause-any_moment
returns-in_err-store-clause-any_moment g c =
    let l = c.loop-batch in
    next-leaves g.D.Disk.disk g.D.Disk.left_since c.args.batches.now l.batch-index c.batch-item.result c.batch-item.is
    c.loop-batch-test.true c.args.self.now l.self c.store.new.self l.invariant c.store.ensures.any_moment

pub loop-batch-preserved : goal.loop-batch-preserved
loop-batch-preserved g c =
    let l = c.loop-batch in
    next-stored g.D.Disk.disk g.D.Disk.left_since c.args.batches.now l.batch-index c.batch-item.result c.batch-item.is
    c.loop-batch-test.true c.args.self.now l.self c.store.new.self l.invariant c.in_ok-store.ensures.cases c.in_ok-store.ensures.stored
    c.store.ensures.any_moment
