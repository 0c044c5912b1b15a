use Rattle.std.proofs.Common.{◌≡◌, ◌∙◌, arith}
use Rattle.std.proofs.lemmas.Result.{err_from_is_err_and}
use Rattle.plain_laws.specs.Options.{IfSome-at, IfSome-from}
use Rattle.record_log.specs.Reading.{IsBadCount, IsDamaged}
use Rattle.record_log.proofs.Told.{kept_content}
use Rattle.record_log.proofs.Records.{damaged, stands_some, stop_behind}
use Rattle.record_log.proofs.reading.read_record.Goals as goal

pub returns-in_err-count-clause-stops : goal.returns-in_err-count-clause-stops
returns-in_err-count-clause-stops g c =
    let p = err_from_is_err_and c.from_residual-in_err-count.result c.from_residual-in_err-count.ensures.1 in
    let first = c.read_gate.ensures.quiet in
    let one : c.in_ok-read_gate.field-0 ≡ 1 = omega arith in
    rw (p.1, p.2)
    (stop_behind (IsBadCount c.args.most c.args.gate) (IsDamaged c.args.most c.args.gate) c.in_err-count.field-0.0
    (g.D.Disk.disk c.args.disk.now) (g.D.Disk.disk c.read_gate.new.disk) (g.D.Disk.disk c.read_count.new.disk)
    (kept_content g.D.Disk.disk g.D.Disk.left_since c.args.disk.now c.read_gate.new.disk first) first.never_falls
    (λ fault file is bad.
    damaged file c.args.gate c.in_ok-read_gate.field-0 (IfSome-at _ _ file is c.in_ok-read_gate.ensures.byte) one c.args.most fault bad)
    c.in_err-count.ensures.stops)

pub returns-clause-found : goal.returns-clause-found
returns-clause-found g c =
    let one : c.in_ok-read_gate.field-0 ≡ 1 = omega arith in
    let first = kept_content g.D.Disk.disk g.D.Disk.left_since c.args.disk.now c.read_gate.new.disk c.read_gate.ensures.quiet in
    let second = kept_content g.D.Disk.disk g.D.Disk.left_since c.read_gate.new.disk c.read_count.new.disk c.read_count.ensures.quiet in
    rw c.from_vec.ensures
    (IfSome-from _ _ (λ file is.
    stands_some file c.args.gate c.in_ok-read_gate.field-0 (IfSome-at _ _ file is c.in_ok-read_gate.ensures.byte) one
    c.in_ok-count.count c.in_ok-payload.payload.items
    (IfSome-at _ _ file (first ∙ is) c.in_ok-count.ensures.number)
    (IfSome-at _ _ file (second ∙ first ∙ is) c.in_ok-payload.ensures.bytes)
    c.in_ok-payload.ensures.size))
