use Rattle.std.proofs.Common.{length}
use Rattle.segment_tests.proofs.tests.merges.rows_with_a_move.Given as goal

abbrev pub decreases-loop-held : goal.decreases-loop-held
decreases-loop-held g l = length l.rows
