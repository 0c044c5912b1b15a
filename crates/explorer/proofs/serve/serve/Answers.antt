use Rattle.std.proofs.Common.{refl, ap}
use Rattle.disk_model.specs.Disk.{DiskState}
use Rattle.explorer.specs.Serve.Serving.{service_of}
use Rattle.explorer.proofs.ServeLemmas.{breaks, not-opened, refuses-store}
use Rattle.explorer.proofs.serve.serve.Goals as goal

pub returns-then-failed : goal.returns-then-failed
returns-then-failed g c = λ input.
    breaks (service_of c.args.order) (g.H.Host.host c.args.host.now) (g.H.Host.host c.disk.new.self) (g.H.Host.host c.close.new.self)
    (g.H.Disk.Disk.disk c.in-Ok.disk) (g.H.Disk.Disk.disk c.in-Err.back.disk) (rw c.as_str-name.ensures.value at c.in-Ok.ensures.hands) (rw c.as_str-name.ensures.value at c.close.ensures)
    (ap (λ (d : DiskState). d.content) c.in-Err.ensures.quiet_refused.rest) input _ _ (c.has_failed-failed.ensures.yes c.if-failed.true)

pub returns-in-Ok-open : goal.returns-in-Ok-open
returns-in-Ok-open g c = λ input.
    c.serve_store.ensures (g.H.Disk.Disk.disk c.in-Ok.disk) (g.H.Host.host c.args.host.now) input (rw c.as_str-name.ensures.value at c.in-Ok.ensures.hands)
    c.in-Ok-open.ensures.read (ap (λ (d : DiskState). d.content) c.in-Ok-open.ensures.quiet.rest) c.in-Ok-open.ensures.no_fault

pub returns-else-failed : goal.returns-else-failed
returns-else-failed g c = λ input.
    not-opened (service_of c.args.order) (g.H.Host.host c.args.host.now) (g.H.Host.host c.disk.new.self) (g.H.Host.host c.close.new.self)
    (g.H.Disk.Disk.disk c.in-Ok.disk) (g.H.Disk.Disk.disk c.in-Err.back.disk) (rw c.as_str-name.ensures.value at c.in-Ok.ensures.hands) (rw c.as_str-name.ensures.value at c.close.ensures)
    (ap (λ (d : DiskState). d.content) c.in-Err.ensures.quiet_refused.rest) input _ _ g.H.Disk.Disk.disk c.in-Ok.disk c.in-Err.back.disk
    c.in-Err.back.fault c.fault_of_opening.result c.fault_of_opening.ensures refl refl (c.has_failed-failed.ensures.no c.if-failed.false)
    c.in-Err.ensures.refused

pub returns-in_default : goal.returns-in_default
returns-in_default g c = λ input.
    refuses-store (service_of c.args.order) (g.H.Host.host c.args.host.now) (g.H.Host.host c.disk.new.self) input _ _ c.args.order.store
    (rw c.as_str-name.ensures.value at c.in_default.ensures.refuses) refl
