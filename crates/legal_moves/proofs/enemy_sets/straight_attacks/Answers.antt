use Rattle.explorer_model.specs.Board.{RookLine}
use Rattle.legal_moves.specs.EnemySets.{IsClear}
use Rattle.legal_moves.proofs.AttackSets.{rook_back}
use Rattle.legal_moves.proofs.BitboardFacts.{both-ways, line-by}
use Rattle.legal_moves.proofs.enemy_sets.straight_attacks.Goals as goal

pub returns : goal.returns
returns c =
    both-ways c.is_one_clear.ensures
    (line-by c.args.straights c.rook_targets.result (λ a. RookLine c.args.square a) (λ a. RookLine a c.args.square) (λ a. IsClear c.args.occupied a c.args.square)
    c.rook_targets.ensures (λ a. rook_back c.args.square a))
