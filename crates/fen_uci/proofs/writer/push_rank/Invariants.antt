use Rattle.std.proofs.Common.{◌≡◌, ◌+◌, ◌≤◌, ◌++◌, length, drop}
use Rattle.explorer_model.specs.Fen.{run_text}
use Rattle.fen_uci.proofs.writer.push_rank.Given as goal

abbrev pub invariant-loop-occupant : goal.invariant-loop-occupant
invariant-loop-occupant l = record {
  text : l.text.items ++ run_text l.run (drop l.occupant-index l.squares) ≡ l.fn.text.items ++ run_text 0 l.squares;
  run : l.run ≤ l.occupant-index;
  room : length l.text.items + l.run ≤ length l.fn.text.items + l.occupant-index;
}
