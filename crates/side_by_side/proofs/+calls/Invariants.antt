use Rattle.std.proofs.Common.{◌+◌, ◌*◌}
use Rattle.side_by_side.proofs.+calls.Given as goal

abbrev pub decreases-behind : goal.decreases-behind
decreases-behind g l = 2 * l.rest + 1

abbrev pub decreases-calls_from : goal.decreases-calls_from
decreases-calls_from g l = 2 * l.count
