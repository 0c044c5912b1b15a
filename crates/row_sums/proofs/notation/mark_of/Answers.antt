use Rattle.std.proofs.Common.{refl, sym, true≢false}
use Rattle.row_sums.proofs.notation.mark_of.Goals as goal

pub returns-then-has_move : goal.returns-then-has_move
returns-then-has_move c = (c.if-not-checked.ensures.0 refl, c.if-has_move.ensures.0 refl)

pub returns-else-has_move : goal.returns-else-has_move
returns-else-has_move c = (c.if-not-checked.ensures.0 refl, λ m legal. true≢false (sym (c.if-has_move.ensures.1 (m, legal))))
