use Rattle.std.proofs.Common.{not, ap, ◌∙◌, arith}
use Rattle.segment_merge.proofs.RoomLemmas.{number-fits, game-shifted, ended-game-shifted}
use Rattle.segment_merge.proofs.shifting.shifted_game.Goals as goal

pub returns-then-is_none : goal.returns-then-is_none
returns-then-is_none c = ended-game-shifted c.args.by c.args.game.now (c.is_none.ensures ∙ ap not c.if-is_none.true)

pub overflow_add-result : goal.overflow_add-result
overflow_add-result c = omega (arith, number-fits c.args.by c.args.game.now c.requires (c.is_none.ensures ∙ ap not c.if-is_none.false))

pub returns : goal.returns
returns c = game-shifted c.args.by c.args.game.now
