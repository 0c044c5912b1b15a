use Rattle.std.proofs.Common.{◌+◌, ◌*◌, vec_len}
use Rattle.disk_model.proofs.memory.+leaving.Given as goal

abbrev pub decreases-leave : goal.decreases-leave
decreases-leave l = 2 * vec_len l.calls.now

abbrev pub decreases-leave_earlier : goal.decreases-leave_earlier
decreases-leave_earlier l = 2 * vec_len l.calls.now + 1
