use Rattle.std.proofs.Common.{rules}
use Rattle.plain_laws.specs.Lists.{drop-read}
use Rattle.explorer.proofs.TrialLemmas.LastGame.{next_legal}
use Rattle.explorer.proofs.trial.board_behind.Goals as goal

pub play_on-requires : goal.play_on-requires
play_on-requires c =
    next_legal c.args.root.now c.args.moves.now c.loop-step.board c.loop-step.step-index c.step-item.result c.loop-step.invariant
    (drop-read c.args.moves.now c.loop-step.step-index c.step-item.result c.loop-step-test.true (search rules))
