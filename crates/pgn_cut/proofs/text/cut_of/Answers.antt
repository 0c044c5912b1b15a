use Rattle.std.proofs.Common.{arith}
use Rattle.std.proofs.lemmas.Bool.Decides.{nat_tests}
use Rattle.std.proofs.lemmas.Grind.{common_steps}
use Rattle.pgn_cut.specs.Text.{cut_with}
use Rattle.pgn_cut.proofs.text.cut_of.Goals as goal

pub returns-then-length : goal.returns-then-length
unfolding cut_with
returns-then-length c = grind (arith, nat_tests, common_steps)

pub returns : goal.returns
unfolding cut_with
returns c = grind (arith, nat_tests, common_steps)
