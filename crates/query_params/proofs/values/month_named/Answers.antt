use Rattle.std.proofs.Common.{arith, ◌≡◌, get_or}
use Rattle.std.proofs.lemmas.Str.{IsCharBoundary-after_ascii}
use Rattle.query_params.proofs.values.month_named.Goals as goal

pub range_from-requires : goal.range_from-requires
range_from-requires c = λ _.
    let dash : get_or c.args.text.now 4 0 ≡ 45 = rw c.as_bytes.ensures.value at c.if-as_bytes-ne45.false in
    IsCharBoundary-after_ascii c.args.text.now 4 c.utf8.text (omega (arith, c.if-text-ne7.false)) (omega (arith, dash))
