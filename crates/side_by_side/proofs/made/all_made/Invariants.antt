use Rattle.std.proofs.Common.{◌≡◌, ◌++◌, Ok, map}
use Rattle.side_by_side.proofs.made.all_made.Given as goal

abbrev pub invariant-loop-part : goal.invariant-loop-part
invariant-loop-part g l = map Ok l.parts.items ++ l.part-iterator.rest.items ≡ l.fn.results.items
