use Rattle.std.specs.Prelude.{◌≡◌, ◌-◌, ◌≤◌, ◌++◌, length, drop, map}
use Rattle.explorer_model.specs.Cuts.{cuts}
use Rattle.pgn_cut.specs.Cut.{meaning}
use Rattle.pgn_cut.specs.Cutter.{cuts_of_rest, came}
use Rattle.notation_tests.proofs.tests.cuts.cuts_in_pieces.Given as goal

abbrev pub invariant-loop-at : goal.invariant-loop-at
invariant-loop-at l = (l.at ≤ length l.stream) × (came l.cutter ≡ l.at)
    × (map meaning l.found.items ++ cuts_of_rest l.cutter (drop l.at l.stream) ≡ cuts l.stream)

abbrev pub decreases-loop-at : goal.decreases-loop-at
decreases-loop-at l = length l.stream - l.at
