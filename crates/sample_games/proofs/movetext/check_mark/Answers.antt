use Rattle.std.proofs.Common.{arith}
use Rattle.sample_games.proofs.movetext.check_mark.Goals as goal

pub returns-then-has_move : goal.returns-then-has_move
returns-then-has_move c = (c.checked.ensures.0 c.if-not-checked.false, c.has_move.ensures.0 c.if-has_move.true)

pub returns-else-has_move : goal.returns-else-has_move
returns-else-has_move c =
    (c.checked.ensures.0 c.if-not-checked.false, λ m legal. absurd (let yes = c.has_move.ensures.1 (m, legal) in grind (arith, yes, c.if-has_move.false)))
