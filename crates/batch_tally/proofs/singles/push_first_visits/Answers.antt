use Rattle.std.proofs.Common.{true, [], ◌∷◌, ◌++◌, sym, ap, ◌∙◌, arith}
use Rattle.std.proofs.lemmas.List.{length-set}
use Rattle.batch_tally.proofs.MarkLemmas.{marked_more}
use Rattle.batch_tally.proofs.Pushing.{known-step, new-step}
use Rattle.batch_tally.proofs.singles.push_first_visits.Goals as goal
use Rattle.batch_tally.proofs.singles.push_first_visits.Goals.{then-not-known+in_ok-push, else-not-known}

pub loop-place-preserved : goal.loop-place-preserved
loop-place-preserved c = (
  elim c.if-not-known.branch [
    | then-not-known+in_ok-push w ↦
        rw w.singles-is (new-step _ 0 c.args.steps.now _ c.loop-place.singles.items _ c.loop-place.place c.index-steps-place.result c.loop-place-test.true
        (sym c.index-steps-place.is) (sym c.is_visited-known.ensures ∙ w.if-not-known.true)
        (w.in_ok-push.ensures.items ∙ ap (λ s. c.loop-place.singles.items ++ s ∷ []) w.single_of.ensures) c.loop-place.invariant.0)
    | else-not-known w ↦
        rw w.singles-is (known-step _ 0 c.args.steps.now _ c.loop-place.singles.items c.loop-place.place c.index-steps-place.result c.loop-place-test.true
        (sym c.index-steps-place.is) (sym c.is_visited-known.ensures ∙ w.if-not-known.false) c.loop-place.invariant.0)
  ],
  marked_more c.loop-place.marks c.args.steps.now c.loop-place.place c.index-steps-place.result c.mark_of.result c.loop-place-test.true (sym c.index-steps-place.is)
      c.mark_of.ensures.value (omega (arith, c.mark_of.ensures.small, c.loop-place.invariant.2)) c.loop-place.invariant.1,
  length-set c.loop-place.marks c.mark_of.result true ∙ c.loop-place.invariant.2,
)
