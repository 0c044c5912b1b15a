use Rattle.std.proofs.Common.{◌≡◌, ◌+◌, ◌*◌, ◌≤◌, ◌++◌, length}
use Rattle.explorer_model.specs.Fen.{ranks_text}
use Rattle.fen_uci.proofs.Written.{below_text}
use Rattle.fen_uci.proofs.writer.push_ranks.Given as goal

abbrev pub invariant-loop-rank : goal.invariant-loop-rank
invariant-loop-rank l = record {
  text : l.text.items ++ below_text l.squares l.rank ≡ l.fn.text.items ++ ranks_text l.squares 7;
  room : length l.text.items + 9 * l.rank ≤ length l.fn.text.items + 71;
}
