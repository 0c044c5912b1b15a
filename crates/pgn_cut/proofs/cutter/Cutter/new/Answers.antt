use Rattle.pgn_cut.proofs.Blanks.{blank}
use Rattle.pgn_cut.proofs.cutter.Cutter.new.Goals as goal

pub returns-clause-blank : goal.returns-clause-blank
returns-clause-blank c = blank
