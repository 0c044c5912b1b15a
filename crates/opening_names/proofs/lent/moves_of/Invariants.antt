use Rattle.std.proofs.Common.{◌≡◌, map, take}
use Rattle.opening_names.proofs.lent.moves_of.Given as goal

abbrev pub invariant-loop-line : goal.invariant-loop-line
invariant-loop-line l = l.moves.items ≡ map (λ line. line.next) (take l.line-index l.lines)
