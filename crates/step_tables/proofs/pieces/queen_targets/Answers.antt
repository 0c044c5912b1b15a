use Rattle.std.proofs.Common.{List, ◌↔◌, subst}
use Rattle.step_tables.specs.Bitboard.{Holds}
use Rattle.step_tables.specs.Step.{IsInSight}
use Rattle.step_tables.specs.declared.step.Step.{Step}
use Rattle.step_tables.proofs.Rule.{queen_rule, both}
use Rattle.step_tables.proofs.pieces.queen_targets.Goals as goal

pub returns : goal.returns
returns c = λ b h.
    let Seen : List Step → Type 0 = λ directions. Holds c.targets.result b ↔ IsInSight directions c.args.square b in
    both (subst Seen c.queen.ensures (c.targets.ensures b h)) (queen_rule c.args.square b c.requires h)
