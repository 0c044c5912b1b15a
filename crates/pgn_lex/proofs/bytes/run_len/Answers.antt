use Rattle.std.proofs.Common.{sym, ◌∙◌, length, arith}
use Rattle.std.proofs.lemmas.List.Sums.{prefix_len_is}
use Rattle.pgn_lex.specs.Bytes.{is_of}
use Rattle.pgn_lex.proofs.bytes.run_len.Goals as goal

pub returns-then-not-has-clause-count : goal.returns-then-not-has-clause-count
returns-then-not-has-clause-count c =
    sym (prefix_len_is (is_of c.args.class) c.args.bytes.now c.loop-at.at 0 (omega arith) c.loop-at.invariant (λ lt. sym c.has.ensures ∙ c.if-not-has.true))

pub returns-clause-count : goal.returns-clause-count
returns-clause-count c =
    sym (prefix_len_is (is_of c.args.class) c.args.bytes.now (length c.args.bytes.now) 0 (omega arith) (λ k lt. c.loop-at.invariant k (omega arith)) (λ lt. absurd (omega (arith, lt))))
