use Rattle.std.proofs.Common.{◌↔◌, refl}
use Rattle.step_tables.specs.Bitboard.{Holds}
use Rattle.step_tables.specs.Step.{IsReached}
use Rattle.step_tables.specs.Piece.{black_pawn_steps}
use Rattle.step_tables.specs.Test.{all_below}
use Rattle.step_tables.proofs.StepBits.{union, has_reached-from}
use Rattle.step_tables.proofs.Rule.{black_pawn_rule, both}
use Rattle.step_tables.proofs.pieces.black_pawn_targets.Goals as goal

pub invariant_of-table : goal.invariant_of-table
unfolding all_below union
invariant_of-table c = record { right = has_reached-from _ _ refl }

pub returns : goal.returns
returns c = λ b h.
    let reached : Holds c.targets.result b ↔ IsReached black_pawn_steps c.args.square b = c.targets.ensures b h in
    both reached (black_pawn_rule c.args.square b c.requires h)
