use Rattle.std.proofs.Common.{◌≡◌, ◌+◌, ℕ, [], ◌∙◌, map, sym, ap, arith}
use Rattle.std.proofs.lemmas.Grind.{common_steps}
use Rattle.std.specs.Vec.Iter.{into_iter_items}
use Rattle.explorer_model.specs.StoreFile.{first_batch_in}
use Rattle.manifest.proofs.FirstLemmas.{first-all, first-damaged, first-more}
use Rattle.manifest.proofs.first.first_batches_of.Goals as goal

pub returns-in_default-clause-read : goal.returns-in_default-clause-read
returns-in_default-clause-read c =
    let l = c.loop-payload in
    first-damaged c.args.payloads.items l.gate l.batches.items c.in-Some.payload (into_iter_items l.payload-iterator)
    (into_iter_items c.next.new.self) l.invariant.2 c.in-Some.ensures.steps.0
    ((rw c.in_default.is at c.in_ok-batch.ensures.found) ∙ ap first_batch_in c.as_slice.ensures)

pub loop-payload-preserved : goal.loop-payload-preserved
loop-payload-preserved c =
    let l = c.loop-payload in
    let bare = rw c.in-Some-2.is at c.in_ok-batch.ensures.bare in
    rw (c.push_reserved.ensures.items, c.in_ok-reserve.ensures.items) (
      tt,
      tt,
      first-more c.args.payloads.items l.gate l.batches.items c.in-Some.payload (into_iter_items l.payload-iterator)
          (into_iter_items c.next.new.self) l.invariant.2 c.in-Some.ensures.steps.0 c.in-Some-2.batch (l.gate + (5 + c.len.result))
          bare ((rw c.in-Some-2.is at c.in_ok-batch.ensures.found) ∙ ap first_batch_in c.as_slice.ensures)
          (ap (λ (n : ℕ). l.gate + (5 + n)) c.len.ensures),
    )

pub returns-clause-read : goal.returns-clause-read
returns-clause-read c =
    let l = c.loop-payload in
    let none : into_iter_items l.payload-iterator ≡ [] = grind (arith, common_steps) in
    first-all c.args.payloads.items l.gate l.batches.items (into_iter_items l.payload-iterator) l.invariant.2 none
