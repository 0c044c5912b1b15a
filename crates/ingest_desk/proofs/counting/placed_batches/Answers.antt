use Rattle.std.proofs.Common.{ℕ, length, refl, sym, ap, ◌∙◌, subst, arith, length-append}
use Rattle.ingest_desk.specs.Recounts.{IsAt}
use Rattle.ingest_desk.proofs.CountingLemmas.{LeadFrom, all-from, one-from}
use Rattle.ingest_desk.proofs.counting.placed_batches.Goals as goal

pub loop-batch-preserved : goal.loop-batch-preserved
loop-batch-preserved c =
    let l = c.loop-batch in
    let pushed = c.in_ok-push.ensures.items in
    let all = c.args.journal.items in
    subst (λ (n : ℕ). LeadFrom IsAt all c.push.new.self.items n c.next.new.self.rest.items)
    (sym (ap length pushed ∙ length-append l.batches.items _))
    (one-from IsAt all l.batch-iterator.rest.items _ l.batches.items _ (length l.batches.items) c.in-Some.batch _
    c.in-Some.ensures.steps.0 pushed
    (record {
      batch_is = refl;
      place_is = λ below. omega (arith, below, c.min-place.ensures, c.len-in-loop-batch.ensures, l.batches.ok.0);
      fits = omega (arith, c.min-place.ensures);
    }) l.invariant)

pub returns : goal.returns
returns c =
    let l = c.loop-batch in
    all-from IsAt c.args.journal.items l.batch-iterator.rest.items l.batches.items (length l.batches.items)
    (sym l.batch-iterator.rest.ok.0 ∙ c.in-None.ensures.steps.0) l.invariant
