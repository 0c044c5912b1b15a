use Rattle.std.specs.Prelude.{◌-◌, length}
use Rattle.pgn_cut.specs.Line.{Scanned}
use Rattle.pgn_cut.proofs.scan.find_start.Given as goal

abbrev pub invariant-loop-scan : goal.invariant-loop-scan
invariant-loop-scan l = Scanned l.fn.matched l.piece l.scan.taken l.scan.matched

abbrev pub decreases-loop-scan : goal.decreases-loop-scan
decreases-loop-scan l = length l.piece - l.scan.taken
