use Rattle.player_lookup.proofs.Looking.{Looking}
use Rattle.player_lookup.proofs.visit.visit_of.Given as goal

abbrev pub invariant-loop-ply : goal.invariant-loop-ply
invariant-loop-ply l = Looking l.tidy l.root l.moves l.board l.ply
