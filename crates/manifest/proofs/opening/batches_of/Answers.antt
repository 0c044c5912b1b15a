use Rattle.std.proofs.Common.{◌≡◌, ◌+◌, ℕ, ◌∙◌, map, sym, ap, arith}
use Rattle.std.proofs.lemmas.Grind.{common_steps}
use Rattle.std.specs.Vec.Iter.{into_iter_items}
use Rattle.explorer_model.specs.StoreFile.{payload_of, batch_in}
use Rattle.manifest.proofs.JournalLemmas.{decoded-more, decoded-damaged, decoded-read}
use Rattle.manifest.proofs.opening.batches_of.Goals as goal

pub returns-in_default-clause-read : goal.returns-in_default-clause-read
returns-in_default-clause-read c =
    let l = c.loop-payload in
    decoded-damaged c.args.payloads.items l.gate l.batches.items c.in-Some.payload (into_iter_items l.payload-iterator)
    (into_iter_items c.next.new.self) l.invariant.2 c.in-Some.ensures.steps.0
    ((rw c.in_default.is at c.in_ok-batch.ensures.found) ∙ ap batch_in c.as_slice.ensures)

pub loop-payload-preserved : goal.loop-payload-preserved
loop-payload-preserved c =
    let l = c.loop-payload in
    let stored = rw c.in-Some-2.is at c.in_ok-batch.ensures.stored in
    rw (c.push_reserved.ensures.items, c.in_ok-reserve.ensures.items) (
      tt,
      tt,
      decoded-more c.args.payloads.items l.gate l.batches.items c.in-Some.payload (into_iter_items l.payload-iterator)
          (into_iter_items c.next.new.self) l.invariant.2 c.in-Some.ensures.steps.0 c.in-Some-2.batch (l.gate + (5 + c.len.result))
          stored.0 (sym c.as_slice.ensures ∙ stored.1) (ap (λ (n : ℕ). l.gate + (5 + n)) c.len.ensures),
    )

pub returns-clause-read : goal.returns-clause-read
returns-clause-read c =
    let l = c.loop-payload in
    let are : c.args.payloads.items ≡ map payload_of l.batches.items = grind (arith, common_steps) in
    decoded-read c.args.payloads.items l.batches.items l.invariant.2.storable are
