use Rattle.std.proofs.Common.{arith, ◌∙◌}
use Rattle.std.proofs.lemmas.Str.Pattern.{starts_char}
use Rattle.query_params.proofs.Numbers.{short, parsed}
use Rattle.query_params.proofs.values.number_of.Goals as goal

pub returns-clause-value : goal.returns-clause-value
returns-clause-value c =
    let sign = starts_char 43 c.args.text.now c.starts_with.result c.starts_with.ensures.cases (omega arith) (omega arith) in
    c.ok.ensures.value ∙ parsed c.args.most c.args.text.now c.parse.result c.requires (omega (arith, c.if-most-text.false)) (λ is. cc (sign.1 is, c.if-starts_with.false)) c.parse.ensures.value.0

pub returns-clause-short : goal.returns-clause-short
returns-clause-short c =
    short c.args.most c.args.text.now c.ok.result (returns-clause-value c)
