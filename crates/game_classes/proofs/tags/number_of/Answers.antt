use Rattle.std.proofs.Common.{arith}
use Rattle.plain_laws.specs.Numbers.{ten-rises}
use Rattle.game_classes.proofs.tags.number_of.Goals as goal

pub returns-clause-short : goal.returns-clause-short
returns-clause-short c =
    let more = ten-rises _ _ c.if-most-text.false in
    omega (arith, more, c.digits_value.ensures.short)
