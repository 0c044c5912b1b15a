use Rattle.std.proofs.Common.{rules, refl, ap, ◌∙◌, arith}
use Rattle.std.proofs.lemmas.List.{take_all}
use Rattle.batch_tally.specs.Singles.{singles_in}
use Rattle.batch_tally.proofs.RangeLemmas.{one-game}
use Rattle.batch_tally.proofs.ranges.singles_within.Goals as goal

pub loop-accepted-preserved : goal.loop-accepted-preserved
loop-accepted-preserved c =
    one-game c.args.range c.args.games.now c.requires.counted c.loop-accepted.singles.items c.push_within.new.singles.items
    c.loop-accepted.number _ c.loop-accepted.accepted-index c.accepted-item.result (search rules) (search rules)
    c.in_ok-push_within.ensures refl c.loop-accepted.invariant

pub returns-clause-singles : goal.returns-clause-singles
returns-clause-singles c =
    c.loop-accepted.invariant.singles_are
    ∙ ap (singles_in c.args.range 0) (take_all c.loop-accepted.accepted-index c.args.games.now (omega (arith, c.loop-accepted-test.false)))

pub returns-clause-few : goal.returns-clause-few
returns-clause-few c = omega (arith, c.loop-accepted.invariant.few, c.loop-accepted.invariant.within, c.requires.few)
