use Rattle.explorer_model.specs.declared.chess.Color.TheVariants.{White}
use Rattle.legal_moves.proofs.valid.rights_stand.Goals as goal

pub returns-else-rights_of_stand : goal.returns-else-rights_of_stand
returns-else-rights_of_stand c = (
  λ stand. absurd (let isnt = c.if-rights_of_stand.false in cc),
  λ all. c.rights_of_stand.ensures.1 (all White),
)
