use Rattle.std.proofs.Common.{length}
use Rattle.segment_tests.proofs.tests.merges.all_rows.Given as goal

abbrev pub decreases-loop-row : goal.decreases-loop-row
decreases-loop-row g l = length l.rows
