use Rattle.std.proofs.Common.{◌≡◌, ℕ, ◌+◌, ◌-◌, ◌++◌, List, take, length, ap, ◌∙◌, arith}
use Rattle.std.proofs.Math.Seq.{take-append-add}
use Rattle.segment_blocks.proofs.encoded_rows.push_end.Goals as goal

-- of bytes behind others the first ones are kept
kept : (tails more : List ℕ) (n own len : ℕ) → own ≡ n → len ≡ length tails → take (len + own) (tails ++ more) ≡ tails ++ take n more
kept tails more n own len e l = (λ i. take (l i + e i) (tails ++ more)) ∙ take-append-add tails more n

pub returns-clause-items : goal.returns-clause-items
returns-clause-items c =
    let tails = c.args.tails.now in
    let from = c.args.from in
    c.truncate.ensures.items ∙ ap (take (c.len-len.result + (34 - c.from-own.result))) c.in_ok-extend_from_slice.ensures.items
    ∙ kept tails.items c.end.result.now (34 - from) (34 - c.from-own.result) c.len-len.result (ap (λ n. 34 - n) c.from-own.ensures) (omega (arith, c.len-len.ensures, tails.ok))
    ∙ ap (λ l. tails.items ++ l) c.end.ensures.end
