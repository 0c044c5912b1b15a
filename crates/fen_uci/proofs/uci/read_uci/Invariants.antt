use Rattle.fen_uci.proofs.Searching.{NoneMeant}
use Rattle.fen_uci.proofs.uci.read_uci.Given as goal

abbrev pub invariant-loop-m : goal.invariant-loop-m
invariant-loop-m l = NoneMeant l.position l.form l.m-items l.m-index
