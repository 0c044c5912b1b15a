use Rattle.std.proofs.Common.{◌-◌, ◌<◌, ◌≤◌, length}
use Rattle.segment_blocks.proofs.HeldLemmas.{games_before}
use Rattle.segment_blocks.proofs.held_batch.game_at.Given as goal

abbrev pub invariant-loop-high : goal.invariant-loop-high
invariant-loop-high l = record {
  some : l.low < l.high;
  within : l.high ≤ length l.held;
  starts : games_before l.low l.held ≤ l.n;
  ends : l.n < games_before l.high l.held;
}

abbrev pub decreases-loop-high : goal.decreases-loop-high
decreases-loop-high l = l.high - l.low
