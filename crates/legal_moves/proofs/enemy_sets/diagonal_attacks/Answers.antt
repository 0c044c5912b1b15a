use Rattle.explorer_model.specs.Board.{BishopLine}
use Rattle.legal_moves.specs.EnemySets.{IsClear}
use Rattle.legal_moves.proofs.AttackSets.{bishop_back}
use Rattle.legal_moves.proofs.BitboardFacts.{both-ways, line-by}
use Rattle.legal_moves.proofs.enemy_sets.diagonal_attacks.Goals as goal

pub returns : goal.returns
returns c =
    both-ways c.is_one_clear.ensures
    (line-by c.args.diagonals c.bishop_targets.result (λ a. BishopLine c.args.square a) (λ a. BishopLine a c.args.square) (λ a. IsClear c.args.occupied a c.args.square)
    c.bishop_targets.ensures (λ a. bishop_back c.args.square a))
