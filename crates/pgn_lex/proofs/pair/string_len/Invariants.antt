use Rattle.std.proofs.Common.{◌≡◌, ◌+◌, false, drop, option_map}
use Rattle.explorer_model.specs.Items.{string_len}
use Rattle.pgn_lex.proofs.pair.string_len.Given as goal

abbrev pub invariant-loop-at : goal.invariant-loop-at
invariant-loop-at l = option_map (λ count. l.at + count) (string_len l.escaped (drop l.at l.bytes)) ≡ string_len false l.bytes
