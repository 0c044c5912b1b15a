use Rattle.std.proofs.Common.{◌≡◌, ◌≤◌, take, reverse, vec_len, vec_capacity}
use Rattle.disk_model.specs.Memory.{content_of}
use Rattle.disk_model.proofs.memory.replay.Given as goal

abbrev pub invariant-loop-call : goal.invariant-loop-call
invariant-loop-call l =
    (l.bytes.items ≡ content_of (reverse (take l.call-index l.calls)))
    × (vec_len l.bytes ≤ l.room) × (l.room ≤ vec_capacity l.bytes)
