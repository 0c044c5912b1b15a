use Rattle.std.proofs.Common.{refl, sym, ◌∙◌, arith, true≢false}
use Rattle.spill_blobs.proofs.SoundLemmas.{order-broken, steps-more, steps-order}
use Rattle.spill_blobs.proofs.sound_rows.are_in_order.Goals as goal

pub loop-next-preserved : goal.loop-next-preserved
loop-next-preserved c =
    let l = c.loop-next in
    steps-more c.args.rows.now l.next c.index-rows-next.result c.index-rows-next-in-loop-next.result (omega (arith, l.auto.next))
    (omega (arith, c.loop-next-test.true)) c.index-rows-next.is c.index-rows-next-in-loop-next.is (sym c.stands_before.ensures ∙ c.if-not-stands_before.false)
    l.invariant

pub returns-then-not-stands_before : goal.returns-then-not-stands_before
returns-then-not-stands_before c =
    let l = c.loop-next in (
      λ h. absurd (true≢false (sym h)),
      λ sorted. absurd (order-broken c.args.rows.now l.next c.index-rows-next.result c.index-rows-next-in-loop-next.result (omega (arith, l.auto.next))
          (omega (arith, c.loop-next-test.true)) c.index-rows-next.is c.index-rows-next-in-loop-next.is (sym c.stands_before.ensures ∙ c.if-not-stands_before.true)
          sorted),
    )

pub returns : goal.returns
returns c =
    let l = c.loop-next in
    (λ h. steps-order c.args.rows.now (λ k d within. l.invariant k d (omega (arith, c.loop-next-test.false, within))), λ sorted. refl)
