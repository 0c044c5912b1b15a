use Rattle.std.proofs.Common.{arith}
use Rattle.std.proofs.lemmas.Bool.Decides.{nat_tests}
use Rattle.std.proofs.lemmas.Grind.{common_steps}
use Rattle.explorer_model.specs.Cuts.{is_white_space}
use Rattle.pgn_cut.proofs.front.is_white_space.Goals as goal

pub returns-in_default : goal.returns-in_default
unfolding is_white_space
returns-in_default c = grind (arith, nat_tests, common_steps)

pub returns-in_default-2 : goal.returns-in_default-2
unfolding is_white_space
returns-in_default-2 c = grind (arith, nat_tests, common_steps)

pub returns-in-9-to-13 : goal.returns-in-9-to-13
unfolding is_white_space
returns-in-9-to-13 c = grind (arith, nat_tests, common_steps)

pub returns-in-9-to-13-2 : goal.returns-in-9-to-13-2
unfolding is_white_space
returns-in-9-to-13-2 c = grind (arith, nat_tests, common_steps)
