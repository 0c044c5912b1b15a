use Rattle.std.proofs.Common.{ap, sym, ◌∙◌, subst, arith, List}
use Rattle.std.specs.List.{AllZip}
use Rattle.explorer_model.specs.Visits.{stage_limit}
use Rattle.batch_tally.specs.declared.step.Step.{Step}
use Rattle.batch_tally.specs.Steps.{IsStepAt, stages_within}
use Rattle.batch_tally.proofs.Stages.{legal-next, step-at, one-step, last-step, all-steps}
use Rattle.batch_tally.proofs.steps.steps_of.Goals as goal
use Rattle.batch_tally.proofs.steps.steps_of.Goals.{else-loop-ply-test, then-loop-ply-test+in_ok-push+in-None}

pub play_on-requires : goal.play_on-requires
play_on-requires c =
    legal-next c.loop-ply.board c.args.moves.now c.loop-ply.ply c.in-Some.step (sym c.move_at-next.ensures ∙ c.in-Some.is) c.loop-ply.invariant.legal

pub loop-ply-preserved : goal.loop-ply-preserved
loop-ply-preserved c =
    one-step c.args.root.now c.args.moves.now c.loop-ply.board c.play_on.new.self c.loop-ply.steps.items _ c.loop-ply.ply c.in-Some.step _
    (omega (arith, c.loop-ply-test.true)) (sym c.move_at-next.ensures ∙ c.in-Some.is) c.play_on.ensures c.in_ok-push.ensures.items
    (step-at c.loop-ply.board c.tidy_key-key.ensures.0 _ (record { key = c.tidy_key-key.result; next = c.move_at-next.result; tag = c.tag_of-tag.result; told = c.tag_of-tag.ensures }) c.tidy_key-key.ensures.1 c.tidy_key-key.ensures.2 c.in-Some.is)
    c.loop-ply.invariant

pub returns : goal.returns
returns c =
    let Whole : List Step → Type 0 = λ s. AllZip IsStepAt (stages_within stage_limit c.args.root.now c.args.moves.now) s in
    elim c.loop-ply-test.branch [
      | else-loop-ply-test w ↦ subst Whole (sym (ap (λ v. v.items) w.steps-is))
          (all-steps c.args.root.now c.args.moves.now c.loop-ply.board c.loop-ply.steps.items c.loop-ply.ply (omega (arith, w.loop-ply-test.false)) c.loop-ply.invariant)
      | then-loop-ply-test+in_ok-push+in-None w ↦ subst Whole (sym (ap (λ v. v.items) w.steps-is))
          (last-step c.args.root.now c.args.moves.now c.loop-ply.board c.loop-ply.steps.items _ c.loop-ply.ply _
          (omega (arith, w.loop-ply-test.true)) (sym w.move_at-next.ensures ∙ w.in-None.is) w.in_ok-push.ensures.items
          (step-at c.loop-ply.board w.tidy_key-key.ensures.0 _ (record { key = w.tidy_key-key.result; next = w.move_at-next.result; tag = w.tag_of-tag.result; told = w.tag_of-tag.ensures }) w.tidy_key-key.ensures.1 w.tidy_key-key.ensures.2 w.in-None.is)
          c.loop-ply.invariant)
    ]
