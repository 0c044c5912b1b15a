use Rattle.std.proofs.Common.{rules, ◌+◌, List, refl, sym, ap, ◌∙◌, subst, arith}
use Rattle.std.proofs.lemmas.Result.{err_from_is_err_and}
use Rattle.explorer_model.specs.declared.archive.Batch.{Batch}
use Rattle.outside.specs.Ports.{Scratch}
use Rattle.segment_blocks.specs.Segment.{CountedSpan}
use Rattle.spill_blobs.specs.Sets.{set_bytes, HasJust}
use Rattle.ingest_desk.proofs.SpillLemmas.{IsSpilledUpTo, adjoin-next, few-next, low-next, spill-begins, spilled-all, spilled-more, stops-spilling, storable-next, unsound-next}
use Rattle.ingest_desk.proofs.spilling.spill_journal.Goals as goal

pub loop-batch-init : goal.loop-batch-init
loop-batch-init g c = record {
  spilled = subst (λ (l : List Batch). IsSpilledUpTo c.args.journal.items 12 c.new-register.result c.new-set.result l) (search rules)
      (spill-begins c.args.journal.items c.new-register.result c.new-set.result c.new-set.ensures c.new-register.ensures);
  just = subst (λ (s : List CountedSpan). HasJust (g.P.Port.port c.args.port.now) (set_bytes s)) (sym c.new-set.ensures) c.requires.empty;
  faults = refl;
}

pub payload_size-size-requires : goal.payload_size-size-requires
payload_size-size-requires g c =
    let l = c.loop-batch in
    storable-next c.args.journal.items l.gate l.register l.set _ _ c.in-Some.batch l.invariant.spilled c.in-Some.ensures.steps.0 c.requires.storable

pub next_segment-requires-clause-storable : goal.next_segment-requires-clause-storable
next_segment-requires-clause-storable g c = λ κs within.
    let l = c.loop-batch in
    storable-next c.args.journal.items l.gate l.register l.set _ _ c.in-Some.batch l.invariant.spilled c.in-Some.ensures.steps.0 c.requires.storable

pub next_segment-requires-clause-knows : goal.next_segment-requires-clause-knows
next_segment-requires-clause-knows g c = λ κs within.
    (c.loop-batch.invariant.spilled.before, c.loop-batch.invariant.spilled.knows)

pub returns-in_default-clause-refused : goal.returns-in_default-clause-refused
returns-in_default-clause-refused g c =
    let l = c.loop-batch in
    let is = l.invariant.spilled in (
      unsound-next c.args.journal.items l.gate l.register l.set _ _ c.in-Some.batch is c.in-Some.ensures.steps.0
          (rw c.in_default.is at (c.in_ok-segment.ensures is.before is.knows)),
      l.invariant.faults,
    )

pub add-requires-clause-adjoin : goal.add-requires-clause-adjoin
add-requires-clause-adjoin g c =
    let l = c.loop-batch in
    let is = l.invariant.spilled in
    adjoin-next c.args.journal.items l.gate l.register l.set _ _ c.in-Some.batch is c.in-Some.ensures.steps.0 c.next_segment.new.register c.in-Some-2.segment
    (rw c.in-Some-2.is at (c.in_ok-segment.ensures is.before is.knows))

pub add-requires-clause-few : goal.add-requires-clause-few
add-requires-clause-few g c =
    let l = c.loop-batch in
    let is = l.invariant.spilled in
    few-next c.args.journal.items l.gate l.register l.set _ _ c.in-Some.batch is c.in-Some.ensures.steps.0 c.next_segment.new.register c.in-Some-2.segment
    (rw c.in-Some-2.is at (c.in_ok-segment.ensures is.before is.knows))

pub returns-in_err-add-clause-refused : goal.returns-in_err-add-clause-refused
returns-in_err-add-clause-refused g c =
    let l = c.loop-batch in
    let p = err_from_is_err_and c.from_residual-in_err-add.result c.from_residual-in_err-add.ensures.1 in
    rw (p.1, p.2)
    (stops-spilling c.args.journal.items c.in_err-add.field-0.0 _ (g.P.Port.port c.args.port.now) (g.P.Port.port l.port)
    (g.P.Port.port c.add.new.port) c.in_err-add.ensures.refused l.invariant.faults)

pub overflow_add-gate : goal.overflow_add-gate
overflow_add-gate g c =
    let l = c.loop-batch in
    let low = low-next c.args.journal.items l.gate l.register l.set _ _ c.in-Some.batch l.invariant.spilled c.in-Some.ensures.steps.0 c.requires.low in
    omega (arith, low, c.payload_size-size.ensures)

pub overflow_add-gate-in-loop-batch : goal.overflow_add-gate-in-loop-batch
overflow_add-gate-in-loop-batch g c =
    let l = c.loop-batch in
    let low = low-next c.args.journal.items l.gate l.register l.set _ _ c.in-Some.batch l.invariant.spilled c.in-Some.ensures.steps.0 c.requires.low in
    omega (arith, low, c.payload_size-size.ensures)

pub loop-batch-preserved : goal.loop-batch-preserved
loop-batch-preserved g c =
    let l = c.loop-batch in
    let is = l.invariant.spilled in
    record {
      spilled = spilled-more c.args.journal.items l.gate l.register l.set _ _ c.in-Some.batch is c.in-Some.ensures.steps.0 c.next_segment.new.register
          c.in-Some-2.segment (rw c.in-Some-2.is at (c.in_ok-segment.ensures is.before is.knows)) c.add.new.self _ c.in_ok-add.ensures.added
          (ap (λ n. l.gate + (5 + n)) c.payload_size-size.ensures);
      just = c.in_ok-add.ensures.just;
      faults = ap (λ (s : Scratch). s.faults) c.in_ok-add.ensures.appended ∙ l.invariant.faults;
    }

pub returns-clause-set : goal.returns-clause-set
returns-clause-set g c =
    let l = c.loop-batch in
    spilled-all c.args.journal.items l.gate l.register l.set l.batch-iterator.rest.items
    (sym l.batch-iterator.rest.ok.0 ∙ c.in-None.ensures.steps.0) l.invariant.spilled
