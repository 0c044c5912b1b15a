use Rattle.std.proofs.Common.{◌≡◌, ◌+◌, ◌*◌, ◌≤◌, sym, ap, ◌∙◌, arith}
use Rattle.std.specs.Ordering.{nat_cmp}
use Rattle.segment_blocks.proofs.KeyOrderLemmas.{left, word-decides, word-same}
use Rattle.segment_blocks.proofs.key_order.order_of_keys.Goals as goal

pub returns-then-first-second : goal.returns-then-first-second
returns-then-first-second c =
    let a = c.args.a.now in
    let b = c.args.b.now in
    let at = 8 * c.loop-word.word in
    let first = c.word_at-first.ensures in
    let second = c.word_at-second.ensures in
    let within : at + 8 ≤ 34 = omega (arith, c.loop-word-test.true) in
    c.cmp.ensures ∙ (λ i. nat_cmp (first.value i) (second.value i))
    ∙ sym (word-decides a b c.told-a c.told-b first.bytes second.bytes at within (λ e. c.if-first-second.true (first.value ∙ e ∙ sym second.value)))
    ∙ sym c.loop-word.invariant

pub loop-word-preserved : goal.loop-word-preserved
loop-word-preserved c =
    let a = c.args.a.now in
    let b = c.args.b.now in
    let at = 8 * c.loop-word.word in
    let first = c.word_at-first.ensures in
    let second = c.word_at-second.ensures in
    let within : at + 8 ≤ 34 = omega (arith, c.loop-word-test.true) in
    let next : at + 8 ≡ 8 * (c.loop-word.word + 1) = omega arith in
    c.loop-word.invariant
    ∙ word-same a b c.told-a c.told-b first.bytes second.bytes at within (sym first.value ∙ c.if-first-second.false ∙ second.value)
    ∙ ap (left a b) next
