use Rattle.std.proofs.Common.{length}
use Rattle.store_tests.proofs.tests.merges.listed_games.Given as goal

abbrev pub decreases-loop-held : goal.decreases-loop-held
decreases-loop-held g l = length l.rows
