use Rattle.std.proofs.Common.{sym, ◌∙◌}
use Rattle.packed_keys.proofs.Names.{key-names}
use Rattle.packed_keys.proofs.laws.unpacked_is_determined.Goals as goal

pub returns : goal.returns
returns c = λ bytes p q p_has q_has. key-names p q p_has.0 q_has.0 (p_has.1 ∙ sym q_has.1)
