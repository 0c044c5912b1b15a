use Rattle.legal_moves.proofs.Lists.{IsWalked}
use Rattle.legal_moves.proofs.generate.list_from.Given as goal

abbrev pub invariant-loop-rest : goal.invariant-loop-rest
invariant-loop-rest l = IsWalked l.position l.from.index l.all l.rest l.moves.items

abbrev pub decreases-loop-rest : goal.decreases-loop-rest
decreases-loop-rest l = l.rest
