use Rattle.std.proofs.Common.{lit≤, refl}
use Rattle.step_tables.specs.Test.{all_below}
use Rattle.step_tables.proofs.StepBits.{union, ahead, has_lines-from, has_sights-from}
use Rattle.step_tables.proofs.pieces.queen.Goals as goal

pub invariant_of-result : goal.invariant_of-result
unfolding all_below union ahead
invariant_of-result c = record {
  few = lit≤ tt;
  right_lines = has_lines-from _ _ _ refl;
  right_bitboards = has_sights-from _ _ refl;
}
