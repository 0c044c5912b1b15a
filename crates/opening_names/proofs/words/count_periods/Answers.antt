use Rattle.std.proofs.Common.{sym, ◌∙◌, length, arith}
use Rattle.explorer_model.specs.Openings.{is_period}
use Rattle.std.proofs.lemmas.List.Sums.{prefix_len_is}
use Rattle.opening_names.proofs.words.count_periods.Goals as goal

pub returns-then-not-is_period-clause-count : goal.returns-then-not-is_period-clause-count
returns-then-not-is_period-clause-count c =
    sym (prefix_len_is is_period c.args.word.now c.loop-at.at 0 (omega arith) c.loop-at.invariant (λ lt. sym c.is_period.ensures ∙ c.if-not-is_period.true))

pub returns-clause-count : goal.returns-clause-count
returns-clause-count c =
    sym (prefix_len_is is_period c.args.word.now (length c.args.word.now) 0 (omega arith) (λ k lt. c.loop-at.invariant k (omega arith)) (λ lt. absurd (omega (arith, lt))))
