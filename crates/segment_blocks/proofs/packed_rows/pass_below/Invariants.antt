use Rattle.std.proofs.Common.{◌≡◌, ◌+◌, ◌≤◌, length}
use Rattle.segment_blocks.specs.Walk.{from_key}
use Rattle.segment_blocks.proofs.packed_rows.pass_below.Given as goal

abbrev pub invariant-loop-held : goal.invariant-loop-held
invariant-loop-held g l = record {
  rows : from_key l.key l.place ≡ from_key l.key l.initial.place;
  cost : l.steps + length l.place ≤ l.initial.steps + length l.initial.place;
}

abbrev pub decreases-loop-held : goal.decreases-loop-held
decreases-loop-held g l = length l.place
