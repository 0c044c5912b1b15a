use Rattle.std.proofs.Common.{◌≡◌, length, arith}
use Rattle.std.proofs.lemmas.Bool.Decides.{nat_tests}
use Rattle.fen_uci.proofs.Splitting.{none_left, some_left}
use Rattle.fen_uci.proofs.fields.count_fields.Goals as goal

pub returns-then-is_empty : goal.returns-then-is_empty
returns-then-is_empty c =
    let none : length c.split_field.result.0.now ≡ 0 = grind (arith, nat_tests) in
    let left = none_left c.loop-after.rest.now c.split_field.result.0.now c.split_field.ensures.first none in
    omega (arith, c.loop-after.invariant.counted, left)

pub loop-after-preserved : goal.loop-after-preserved
loop-after-preserved c =
    let some : ¬ length c.split_field.result.0.now ≡ 0 = grind (arith, nat_tests) in
    let left = some_left c.loop-after.rest.now c.split_field.result.0.now c.split_field.result.1.now c.split_field.ensures.first some c.split_field.ensures.rest in record {
      counted = omega (arith, c.loop-after.invariant.counted, left);
      room = omega (arith, c.loop-after.invariant.room, c.split_field.ensures.shorter, some);
    }
