use Rattle.std.proofs.Common.{◌≡◌, drop}
use Rattle.explorer.specs.Serve.Workers.{fault_in}
use Rattle.explorer.proofs.serve.workers.first_fault.Given as goal

abbrev pub invariant-loop-worker : goal.invariant-loop-worker
invariant-loop-worker g l = fault_in (drop l.worker-index l.workers) ≡ fault_in l.workers
