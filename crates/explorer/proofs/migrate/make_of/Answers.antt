use Rattle.std.proofs.Common.{refl}
use Rattle.explorer.specs.Lines.{ending_of}
use Rattle.explorer.proofs.MigrateLemmas.{begun, not_begun, safe_by}
use Rattle.explorer.proofs.StoreLemmas.{is_sized, made_by, not_made}
use Rattle.explorer.proofs.migrate.make_of.Goals as goal

pub returns-in-Ok-clause-sized : goal.returns-in-Ok-clause-sized
returns-in-Ok-clause-sized g c = is_sized g.D.Disk.disk g.met.D.Disk.told_size c.args.disk

pub returns-in-Ok-clause-makes : goal.returns-in-Ok-clause-makes
returns-in-Ok-clause-makes g c =
    c.fill.ensures.fills (g.D.Disk.disk c.args.disk) (begun g.D.Disk.disk g.D.Disk.left_since c.args.journal.now c.args.disk c.in-Ok.made c.in-Ok.ensures.created c.in-Ok.ensures.no_fault)

pub returns-in-Ok-clause-safe : goal.returns-in-Ok-clause-safe
returns-in-Ok-clause-safe g c =
    let disk = g.D.Disk.disk in
    let left_since = g.D.Disk.left_since in
    let journal = c.args.journal.now in
    let made = c.in-Ok.made in
    let fills = c.fill.ensures.fills (disk c.args.disk) (begun disk left_since journal c.args.disk made c.in-Ok.ensures.created c.in-Ok.ensures.no_fault) in
    safe_by disk left_since journal c.args.disk made.disk c.fill.result.disk
    (made_by disk left_since g.met.D.Disk.told_left c.args.disk made.disk made c.in-Ok.ensures.created c.in-Ok.ensures.no_fault refl)
    c.in-Ok.ensures.any_moment c.fill.ensures.since (ending_of c.fill.result.outcome) fills

pub returns-in-Err-clause-sized : goal.returns-in-Err-clause-sized
returns-in-Err-clause-sized g c = is_sized g.D.Disk.disk g.met.D.Disk.told_size c.args.disk

pub returns-in-Err-clause-makes : goal.returns-in-Err-clause-makes
returns-in-Err-clause-makes g c =
    let not = not_made g.D.Disk.disk c.in-Err.back.fault c.args.disk c.in-Err.back.disk c.in-Err.ensures.refused in
    rw c.fault_of_creation.ensures (not_begun g.D.Disk.disk g.D.Disk.left_since c.args.journal.now c.args.disk c.in-Err.back.disk c.in-Err.ensures.quiet_refused c.in-Err.ensures.any_moment_refused c.in-Err.back.fault not).0

pub returns-in-Err-clause-safe : goal.returns-in-Err-clause-safe
returns-in-Err-clause-safe g c =
    let not = not_made g.D.Disk.disk c.in-Err.back.fault c.args.disk c.in-Err.back.disk c.in-Err.ensures.refused in
    rw c.fault_of_creation.ensures (not_begun g.D.Disk.disk g.D.Disk.left_since c.args.journal.now c.args.disk c.in-Err.back.disk c.in-Err.ensures.quiet_refused c.in-Err.ensures.any_moment_refused c.in-Err.back.fault not).1
