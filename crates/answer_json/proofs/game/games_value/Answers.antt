use Rattle.std.proofs.Common.{arith, ap, ◌∙◌}
use Rattle.explorer_model.specs.Answer.{listed_value}
use Rattle.answer_json.proofs.Values.{all_valued, one_more}
use Rattle.answer_json.proofs.game.games_value.Goals as goal

pub returns : goal.returns
returns c = all_valued listed_value c.loop-game.values c.args.games.now c.loop-game.game-index (omega arith) c.loop-game.invariant

pub loop-game-preserved : goal.loop-game-preserved
loop-game-preserved c =
    one_more listed_value c.loop-game.values.items c.push.new.self.items c.in_ok-listed_value.field-0 c.args.games.now c.loop-game.game-index c.game-item.result c.loop-game.invariant c.loop-game-test.true
    (c.in_ok-listed_value.ensures ∙ ap listed_value c.game-item.is) (c.in_ok-push.ensures.items)
