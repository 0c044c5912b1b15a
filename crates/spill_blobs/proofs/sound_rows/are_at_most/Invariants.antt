use Rattle.std.proofs.Common.{◌≡◌, ◌+◌, take}
use Rattle.std.specs.List.{sum_by}
use Rattle.spill_blobs.specs.SoundRows.{games_of}
use Rattle.spill_blobs.proofs.sound_rows.are_at_most.Given as goal

abbrev pub invariant-loop-row : goal.invariant-loop-row
invariant-loop-row l = l.left + sum_by games_of (take l.row-index l.rows) ≡ l.n
