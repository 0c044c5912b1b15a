use Rattle.std.specs.Prelude.{◌≡◌, ◌+◌, ◌-◌, ◌≤◌, length, drop}
use Rattle.pgn_cut.specs.Solid.{solid}
use Rattle.pgn_cut.proofs.front.first_solid.Given as goal

abbrev pub invariant-loop-at : goal.invariant-loop-at
invariant-loop-at l = (l.at ≤ length l.bytes) × (solid (l.place + l.at) (drop l.at l.bytes) ≡ solid l.place l.bytes)

abbrev pub decreases-loop-at : goal.decreases-loop-at
decreases-loop-at l = length l.bytes - l.at
