use Rattle.std.proofs.Common.{List, subst}
use Rattle.std.specs.List.{AllZip}
use Rattle.std.proofs.lemmas.Result.{IfOk-weaker}
use Rattle.explorer_model.specs.declared.chess.Move.{Move}
use Rattle.explorer_model.specs.Visits.{stage_limit}
use Rattle.batch_tally.specs.Steps.{IsStepAt, stages_within}
use Rattle.batch_tally.proofs.Counting.{singles-pushed}
use Rattle.batch_tally.proofs.singles.push_singles.Goals as goal

pub returns : goal.returns
returns c =
    let game = c.args.game.now in
    let steps = c.in_ok-steps.steps.items in
    let stepped : AllZip IsStepAt (stages_within stage_limit game.root game.moves) steps =
    subst (λ (moves : List Move). AllZip IsStepAt (stages_within stage_limit game.root moves) steps) c.as_slice.ensures c.in_ok-steps.ensures in
    IfOk-weaker c.push_first_visits.result _ _ (λ _ pushed. singles-pushed game steps _ _ _ stepped c.as_slice-2.ensures.value pushed) c.push_first_visits.ensures
