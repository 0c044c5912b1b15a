use Rattle.std.proofs.Common.{List, subst}
use Rattle.std.proofs.lemmas.Result.{err_from_is_err_and}
use Rattle.explorer_model.specs.declared.archive.Batch.{Batch}
use Rattle.manifest.specs.First.{IsBare, IsWithinFirst, PassesFirst}
use Rattle.manifest.proofs.FirstLemmas.{not-opened-first, first-passed, first-read, first-refused}
use Rattle.manifest.proofs.FirstLimits.{has-room}
use Rattle.manifest.proofs.first.open_first.Goals as goal

pub returns-in_err-log-clause-refused : goal.returns-in_err-log-clause-refused
returns-in_err-log-clause-refused g c =
    let p = err_from_is_err_and c.from_residual.result c.from_residual.ensures.1 in
    rw (p.1, p.2)
    (not-opened-first g.D.Disk.disk c.in_err-log.field-0.0.fault c.args.disk c.in_err-log.field-0.0.disk c.in_err-log.ensures.refused)

pub returns-in_default-clause-read : goal.returns-in_default-clause-read
returns-in_default-clause-read g c =
    first-read g.D.Disk.disk g.D.Disk.left_since c.in_ok-log.field-0.payloads.items c.args.disk c.in_ok-log.field-0.log
    c.in_ok-log.ensures.opened c.in-Ok.journal.items c.in-Ok.ensures.read

pub returns-in-Some-clause-refused : goal.returns-in-Some-clause-refused
returns-in-Some-clause-refused g c =
    first-passed g.D.Disk.disk g.D.Disk.left_since c.in_ok-log.field-0.payloads.items c.args.disk c.in_ok-log.field-0.log
    c.in_ok-log.ensures.opened c.in-Ok.journal.items c.in-Some.at c.in-Ok.ensures.read
    (subst (λ (l : List Batch). PassesFirst l c.in-Some.at) c.as_slice.ensures.value c.in-Some.ensures)

pub returns-in-Err-clause-refused : goal.returns-in-Err-clause-refused
returns-in-Err-clause-refused g c =
    rw c.fault_of-fault.ensures
    (first-refused g.D.Disk.disk g.D.Disk.left_since c.in_ok-log.field-0.payloads.items c.args.disk c.in_ok-log.field-0.log
    c.in_ok-log.ensures.opened c.in-Err.stop c.into_disk-disk-in-Err.result c.in-Err.ensures.read)

pub returns-in_default-clause-room : goal.returns-in_default-clause-room
returns-in_default-clause-room g c =
    has-room c.in-Ok.journal.items c.in-Ok.ensures.bare
    (subst (λ (l : List Batch). IsWithinFirst l) c.as_slice.ensures.value c.in_default.ensures)
