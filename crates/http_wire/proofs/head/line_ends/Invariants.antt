use Rattle.std.proofs.Common.{◌≡◌, ◌+◌, ◌-◌, ◌≤◌, length, drop}
use Rattle.std.specs.List.{prefix_len}
use Rattle.explorer_model.specs.Items.{ends_line}
use Rattle.http_wire.proofs.head.line_ends.Given as goal

abbrev pub invariant-loop-count : goal.invariant-loop-count
invariant-loop-count l =
    (l.count ≤ length l.bytes)
    × (prefix_len ends_line l.bytes ≡ l.count + prefix_len ends_line (drop l.count l.bytes))

abbrev pub decreases-loop-count : goal.decreases-loop-count
decreases-loop-count l = length l.bytes - l.count
