use Rattle.std.proofs.Common.{sym, ap, ◌∙◌}
use Rattle.batch_tally.proofs.RunLemmas.{one-content, contents-are}
use Rattle.batch_tally.proofs.reading.contents_of.Goals as goal

pub loop-game-preserved : goal.loop-game-preserved
loop-game-preserved c =
    one-content _ c.args.parts.items c.loop-game.made.items _ _ _ _ c.in-Some.ensures.steps.0 c.in_ok-push.ensures.items
    c.in_ok-of_run.ensures c.loop-game.invariant

pub returns : goal.returns
returns c =
    contents-are _ _ _ _ _ (ap (λ v. v.items) c.in_ok-run.ensures.singles) c.in_ok-run.ensures.words
    (sym c.loop-game.game-iterator.rest.ok.0 ∙ c.in-None.ensures.steps.0) c.loop-game.invariant
