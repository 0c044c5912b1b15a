use Rattle.std.proofs.Common.{◌≡◌, ◌++◌, replicate, None}
use Rattle.fen_uci.proofs.placement.push_empty.Given as goal

abbrev pub invariant-loop-square : goal.invariant-loop-square
invariant-loop-square l = l.rank.items ≡ l.fn.rank.items ++ replicate l._square None
