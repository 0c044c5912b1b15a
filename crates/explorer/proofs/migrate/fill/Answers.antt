use Rattle.std.proofs.Common.{[], subst, sym}
use Rattle.explorer.specs.declared.fault.Fault.{Fault}
use Rattle.explorer.specs.Lines.{Stopped}
use Rattle.explorer.specs.Migrate.{IsMadeBy}
use Rattle.explorer.proofs.MigrateLemmas.{filled, has_room, stopped}
use Rattle.explorer.proofs.migrate.fill.Goals as goal

pub store_all-requires-clause-low : goal.store_all-requires-clause-low
store_all-requires-clause-low g c = has_room c.args.made.gate c.args.journal.now c.requires.without_batch.place c.requires.room

pub returns-in-Ok-clause-fills : goal.returns-in-Ok-clause-fills
returns-in-Ok-clause-fills g c = λ handed begins.
    rw c.into_disk.ensures
    (filled g.D.Disk.disk g.D.Disk.left_since g.met.D.Disk.told_left g.met.D.Disk.counts_now c.args.journal.now c.args.made c.store_all.new.self c.requires.without_batch c.in-Ok.ensures.cases handed begins)

pub returns-in-Ok-clause-since : goal.returns-in-Ok-clause-since
returns-in-Ok-clause-since g c = rw c.into_disk.ensures (c.store_all.ensures.any_moment [] c.requires.without_batch)

pub returns-in-Err-clause-fills : goal.returns-in-Err-clause-fills
returns-in-Err-clause-fills g c = λ handed begins.
    let disk = g.D.Disk.disk in
    let made = c.store_all.new.self in
    let leaves = c.store_all.ensures.any_moment [] c.requires.without_batch in
    let stops = stopped disk g.D.Disk.left_since g.met.D.Disk.told_left g.met.D.Disk.counts_now c.args.journal.now c.args.made made leaves handed begins c.requires.without_batch c.in-Err.fault c.in-Err.ensures.cases in
    subst (λ d. IsMadeBy c.args.journal.now handed (disk d) (Stopped c.fault_of_append.result)) (sym c.into_disk-in-Err.ensures)
    (subst (λ (f : Fault). IsMadeBy c.args.journal.now handed (disk made.disk) (Stopped f)) (sym c.fault_of_append.ensures) stops)

pub returns-in-Err-clause-since : goal.returns-in-Err-clause-since
returns-in-Err-clause-since g c = rw c.into_disk-in-Err.ensures (c.store_all.ensures.any_moment [] c.requires.without_batch)
