use Rattle.std.proofs.Common.{◌≡◌, ◌<◌, ◌∙◌, length, Err, arith}
use Rattle.std.proofs.lemmas.Result.{err_from_is_err_and}
use Rattle.plain_laws.specs.Options.{IfSome-at, IfSome-from}
use Rattle.record_log.specs.Log.{reading_of}
use Rattle.record_log.specs.Reading.{IsDamaged}
use Rattle.record_log.proofs.Told.{kept_content}
use Rattle.record_log.proofs.Records.{damaged_there, ends_there, stop_behind}
use Rattle.record_log.proofs.opening.read_records.Goals as goal

pub returns-in_err-payload-clause-stops : goal.returns-in_err-payload-clause-stops
returns-in_err-payload-clause-stops g c =
    let p = err_from_is_err_and c.from_residual.result c.from_residual.ensures.1 in
    let l = c.loop-payloads in
    let so_far = l.invariant.up_to in
    rw (p.1, p.2)
    (stop_behind (IsDamaged c.args.format.most l.gate) (λ fault file. reading_of c.args.format file ≡ Err fault)
    c.in_err-payload.field-0.0 (g.D.Disk.disk c.args.disk.now) (g.D.Disk.disk l.disk) (g.D.Disk.disk c.read_record.new.disk)
    (kept_content g.D.Disk.disk g.D.Disk.left_since c.args.disk.now l.disk l.invariant.quiet) l.invariant.quiet.never_falls
    (λ fault file is bad.
    let inside : l.gate < length file = omega (arith, g.met.D.Disk.told_size c.args.disk.now file is, c.requires.size, so_far.inside) in
    damaged_there c.args.format l.payloads.items l.gate file (IfSome-at _ _ file is l.invariant.begins) fault
    so_far.can_stand so_far.place inside bad)
    c.in_err-payload.ensures.stops)

pub returns-clause-read : goal.returns-clause-read
returns-clause-read g c =
    let l = c.loop-payloads in
    let found = rw c.in_default.is at c.in_ok-payload.ensures.found in
    let kept = kept_content g.D.Disk.disk g.D.Disk.left_since c.args.disk.now l.disk l.invariant.quiet in
    IfSome-from _ _ (λ file is.
    ends_there c.args.format l.payloads.items l.gate file (IfSome-at _ _ file is l.invariant.begins)
    l.invariant.up_to.can_stand (IfSome-at _ _ file (kept ∙ is) found))
