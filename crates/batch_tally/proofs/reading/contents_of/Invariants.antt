use Rattle.std.proofs.Common.{◌≡◌, ◌++◌, map}
use Rattle.std.specs.Arc.{arc_value}
use Rattle.std.specs.List.{All}
use Rattle.batch_tally.proofs.RunLemmas.{IsOfRun, part_as}
use Rattle.batch_tally.proofs.reading.contents_of.Given as goal

abbrev pub invariant-loop-game : goal.invariant-loop-game
invariant-loop-game l =
    (map part_as l.made.items ++ l.game-iterator.rest.items ≡ l.fn.parts.items)
    × All (IsOfRun (arc_value l.run)) l.made.items
