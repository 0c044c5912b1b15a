use Rattle.std.specs.List.{All}
use Rattle.std.specs.Fork.{GivesJob}
use Rattle.side_by_side.proofs.each.take_each.Given as goal

abbrev pub invariant-loop : goal.invariant-loop
invariant-loop g l = All (λ one. GivesJob g.F.Fn l.f g.B.Given.jobs one.0 one.1) l.taken.items
