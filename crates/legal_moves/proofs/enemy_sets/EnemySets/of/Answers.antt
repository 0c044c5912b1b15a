use Rattle.legal_moves.proofs.PieceBitboards.{sets-place, describes-sets}
use Rattle.legal_moves.proofs.enemy_sets.EnemySets.of.Goals as goal

pub returns : goal.returns
returns c = λ squares told.
    describes-sets squares c.args.sets.now c.args.enemy c.of_color-theirs.result (sets-place squares c.args.sets.now told) (c.of_color-theirs.ensures squares told)
