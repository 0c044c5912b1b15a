use Rattle.std.proofs.Common.{◌≡◌, ◌++◌, false, drop}
use Rattle.explorer_model.specs.Items.{unescaped}
use Rattle.pgn_lex.proofs.pair.unescape.Given as goal

abbrev pub invariant-loop-at : goal.invariant-loop-at
invariant-loop-at l = l.value.items ++ unescaped l.escaped (drop l.at l.string) ≡ unescaped false l.string
