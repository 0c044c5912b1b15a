use Rattle.std.proofs.Common.{None, ◌≤◌, vec_capacity}
use Rattle.host.specs.Hosts.{AreFresh}
use Rattle.host.proofs.real.listen.Given as goal

abbrev pub invariant-loop : goal.invariant-loop
invariant-loop g l = AreFresh l.counter l.connections (λ _. None) l.doors.items × (l.readers ≤ vec_capacity l.doors)
