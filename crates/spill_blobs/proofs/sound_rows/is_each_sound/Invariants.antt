use Rattle.std.proofs.Common.{take}
use Rattle.std.specs.List.{AllByRecursion}
use Rattle.explorer_model.specs.declared.chess.Position.{Position}
use Rattle.explorer_model.specs.Tidy.{IsTidyKey}
use Rattle.spill_blobs.specs.SoundRows.{AreLegalMoves, IsSoundRow}
use Rattle.spill_blobs.proofs.sound_rows.is_each_sound.Given as goal

abbrev pub invariant-loop-row : goal.invariant-loop-row
invariant-loop-row l = (at : Position) → AreLegalMoves at l.moves → AllByRecursion (λ row. IsTidyKey at row.key) l.rows
    → AllByRecursion (IsSoundRow at l.n) (take l.row-index l.rows)
