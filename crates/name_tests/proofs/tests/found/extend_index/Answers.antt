use Rattle.std.proofs.Common.{refl}
use Rattle.name_tests.proofs.tests.found.extend_index.Goals as goal

pub loop-step-init : goal.loop-step-init
loop-step-init g c = rw c.new-index.ensures (record { rest = c.args.pass.now.seen; is = refl })
