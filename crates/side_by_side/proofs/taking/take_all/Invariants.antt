use Rattle.std.specs.List.{All}
use Rattle.side_by_side.specs.Taking.{IsGiven}
use Rattle.side_by_side.proofs.taking.take_all.Given as goal

abbrev pub invariant-loop : goal.invariant-loop
invariant-loop g l = All (IsGiven g.F.Fn l.f) l.taken.items
