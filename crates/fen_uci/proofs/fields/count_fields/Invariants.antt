use Rattle.std.proofs.Common.{◌≡◌, ◌+◌, ◌≤◌, length}
use Rattle.explorer_model.specs.Fen.{fields}
use Rattle.fen_uci.proofs.fields.count_fields.Given as goal

abbrev pub invariant-loop-after : goal.invariant-loop-after
invariant-loop-after l = record {
  counted : l.count + length (fields l.rest) ≡ length (fields l.fn.text);
  room : l.count + length l.rest ≤ length l.fn.text;
}

abbrev pub decreases-loop-after : goal.decreases-loop-after
decreases-loop-after l = length l.rest
