use Rattle.std.proofs.Common.{List, ℕ, length, ap, ◌∙◌, arith}
use Rattle.record_log.specs.declared.format.Format.{Format}
use Rattle.manifest.proofs.PayloadLemmas.{payload-fits}
use Rattle.manifest.proofs.JournalLemmas.{stored-by, leaves-journal}
use Rattle.manifest.proofs.manifest.Manifest.store.Goals as goal

pub append-requires-clause-length : goal.append-requires-clause-length
append-requires-clause-length g c =
    let same = ap (λ (l : List ℕ). length l) (c.deref.ensures.value ∙ c.in-Ok.ensures) in
    let most = ap (λ (f : Format). f.most) c.self.invariant in
    let fits = payload-fits c.args.batch.now c.requires.storable in
    (omega (arith, fits.0, same), omega (arith, fits.1, same, most))

pub returns-clause-stored : goal.returns-clause-stored
returns-clause-stored g c =
    rw (← c.self.view_is)
    (stored-by g.D.Disk.disk g.D.Disk.left_since c.args.batch.now c.requires.storable c.self.inside.log c.append.new.self
    c.deref.result.now (c.deref.ensures.value ∙ c.in-Ok.ensures) c.append.result c.append.ensures.cases c.append.ensures.added)

pub returns-clause-any_moment : goal.returns-clause-any_moment
returns-clause-any_moment g c =
    rw (← c.self.view_is)
    (leaves-journal g.D.Disk.disk g.D.Disk.left_since c.args.batch.now c.requires.storable c.self.inside.log c.append.new.self
    c.deref.result.now (c.deref.ensures.value ∙ c.in-Ok.ensures) c.append.ensures.any_moment)
