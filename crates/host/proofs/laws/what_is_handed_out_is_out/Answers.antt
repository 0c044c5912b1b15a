use Rattle.std.proofs.Common.{refl, ap, arith}
use Rattle.plain_laws.specs.Bytes.{bytes_eq-self}
use Rattle.host.specs.Hosts.{HostState, ADisk, ADoor, AFile, APort, DiskOut, DoorsOut, FileOut, PortOut}
use Rattle.host.proofs.Things.{out_is}
use Rattle.host.proofs.laws.what_is_handed_out_is_out.Goals as goal

pub returns-clause-disk : goal.returns-clause-disk
returns-clause-disk c = λ name disk before after hands.
    out_is (ADisk name) (DiskOut name) before.calls after.calls (ap (λ (h : HostState). h.calls) hands.rest) (rw (bytes_eq-self name) (omega arith)) refl

pub returns-clause-file : goal.returns-clause-file
returns-clause-file c = λ name file before after hands.
    out_is (AFile name) (FileOut name) before.calls after.calls (ap (λ (h : HostState). h.calls) hands.rest) (rw (bytes_eq-self name) (omega arith)) refl

pub returns-clause-doors : goal.returns-clause-doors
returns-clause-doors c = λ address readers connections doors before after some hands.
    out_is ADoor (DoorsOut address readers connections) before.calls after.calls (ap (λ (h : HostState). h.calls) hands.rest) some refl

pub returns-clause-port : goal.returns-clause-port
returns-clause-port c = λ name port before after hands.
    out_is (APort name) (PortOut name) before.calls after.calls (ap (λ (h : HostState). h.calls) hands.rest) (rw (bytes_eq-self name) (omega arith)) refl
