use Rattle.std.proofs.Common.{◌≡◌, drop}
use Rattle.tally_rows.specs.Grid.{plus, total, chosen}
use Rattle.tally_rows.proofs.grid.Grid.sum_of.Given as goal

abbrev pub invariant-loop-speed : goal.invariant-loop-speed
invariant-loop-speed g l =
    plus l.sum (total (chosen (drop l.speed l.speeds) l.groups (drop l.speed l.lines))) ≡ total (chosen l.speeds l.groups l.lines)
