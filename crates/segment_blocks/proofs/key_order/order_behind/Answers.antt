use Rattle.std.proofs.Common.{◌<◌, get_or, sym, ap, ◌∙◌, arith}
use Rattle.std.specs.Cmp.{tied_itself}
use Rattle.std.specs.Cmp.Lexicographic.{nat_list_cmp_total}
use Rattle.std.specs.Ordering.{nat_cmp}
use Rattle.segment_blocks.proofs.KeyLemmas.{key_order}
use Rattle.segment_blocks.proofs.PrefixLemmas.{common-decides, common-whole}
use Rattle.segment_blocks.proofs.key_order.order_behind.Goals as goal

pub returns-then-shared-eq34 : goal.returns-then-shared-eq34
returns-then-shared-eq34 c =
    let a = c.args.a.now in
    let b = c.args.b.now in
    let same = common-whole a b c.told-a c.told-b (sym c.requires.shared ∙ c.if-shared-eq34.true) in
    sym (ap (key_order a) (sym same) ∙ tied_itself nat_list_cmp_total a)

pub returns : goal.returns
returns c =
    let a = c.args.a.now in
    let b = c.args.b.now in
    let s = c.args.shared in
    let inside : s < 34 = omega (arith, c.requires.within, c.if-shared-eq34.false) in
    c.cmp.ensures ∙ ap (λ n. nat_cmp (get_or a n 0) (get_or b n 0)) c.from-at.ensures
    ∙ sym (common-decides s a b (omega (arith, inside, c.told-a)) (omega (arith, inside, c.told-b)) (sym c.requires.shared))
