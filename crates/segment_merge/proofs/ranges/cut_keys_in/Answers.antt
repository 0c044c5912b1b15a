use Rattle.std.proofs.Common.{◌++◌, [], ◌∷◌, length, length-append, sym, ap, subst, arith}
use Rattle.segment_merge.specs.Ranges.{AreRising}
use Rattle.segment_merge.proofs.RisingLemmas.{rising-more, rising-front}
use Rattle.segment_merge.proofs.ranges.cut_keys_in.Goals as goal

pub loop-part-preserved : goal.loop-part-preserved
loop-part-preserved g c =
    let keys = c.loop-part.keys.items in
    let old = c.loop-part.last in
    let new = c.later_key-next.result in
    let items = c.in_ok-push.ensures.items in
    record {
      count = omega (arith, ap length items, length-append keys (new ∷ []), c.loop-part.invariant.count);
      rising = subst (λ l. AreRising (l ++ new ∷ [])) (sym items) (rising-more keys old new c.loop-part.invariant.rising c.later_key-next.ensures);
    }

pub returns-clause-rising : goal.returns-clause-rising
returns-clause-rising g c = rising-front c.loop-part.keys.items c.loop-part.last c.loop-part.invariant.rising
