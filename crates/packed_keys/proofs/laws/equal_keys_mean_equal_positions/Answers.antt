use Rattle.std.proofs.Common.{ap}
use Rattle.explorer_model.specs.Keys.{key}
use Rattle.packed_keys.proofs.Names.{key-names}
use Rattle.packed_keys.proofs.laws.equal_keys_mean_equal_positions.Goals as goal

pub returns : goal.returns
returns c = λ p q p_board q_board. (key-names p q p_board q_board, λ e. ap (λ x. key x) e)
