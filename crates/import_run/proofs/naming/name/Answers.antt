use Rattle.std.proofs.Common.{arith, length, sym, ap, ◌∙◌, refl}
use Rattle.import_run.proofs.PairLemmas.{named_step, other_step}
use Rattle.import_run.proofs.naming.name.Goals as goal
use Rattle.import_run.proofs.naming.name.Goals.{in-Some-named_at+in_ok-push-in-Some-named_at, in-None-named_at+in_ok-push-in-None-named_at}

pub naming-preserved : goal.naming-preserved
naming-preserved c =
    let l = c.naming in
    let steps = c.in-Some.ensures.steps.0 in
    let shorter = ap length steps in
    elim c.match-named_at.branch [
      | in-Some-named_at+in_ok-push-in-Some-named_at w ↦ record {
        count = omega (arith, shorter, l.invariant.count);
        next_within = rw w.next-is (omega (arith, w.in-Some-named_at.ensures.within));
        so_far = λ candidates number texts places pairs.
            let before = rw steps at (l.invariant.so_far candidates number texts places pairs) in
            rw (w.refused-is, w.rest-is, w.next-is, w.in_ok-push-in-Some-named_at.ensures.items)
            (named_step number candidates c.in-Some.bytes c.next.new.self.rest.items c.args.pairs.now l.at l.next _ l.refused.items l.rest.items c.args.places.now
            before places refl w.in-Some-named_at.number (sym w.in-Some-named_at.is ∙ c.named_at.ensures.number));
      }
      | in-None-named_at+in_ok-push-in-None-named_at w ↦ record {
        count = omega (arith, shorter, l.invariant.count);
        next_within = rw w.next-is l.invariant.next_within;
        so_far = λ candidates number texts places pairs.
            let before = rw steps at (l.invariant.so_far candidates number texts places pairs) in
            rw (w.refused-is, w.rest-is, w.next-is, w.in_ok-push-in-None-named_at.ensures.items)
            (other_step number candidates c.in-Some.bytes c.next.new.self.rest.items c.args.pairs.now l.at l.next _ l.refused.items l.rest.items c.args.places.now
            before places refl (sym w.in-None-named_at.is ∙ c.named_at.ensures.number));
      }
    ]
