use Rattle.std.proofs.Common.{◌≡◌, ◌≤◌, length}
use Rattle.explorer_model.specs.Fen.{fields}
use Rattle.fen_uci.proofs.fields.trim_spaces.Given as goal

abbrev pub invariant-loop-after : goal.invariant-loop-after
invariant-loop-after l = record { same : fields l.rest ≡ fields l.fn.text; shorter : length l.rest ≤ length l.fn.text }

abbrev pub decreases-loop-after : goal.decreases-loop-after
decreases-loop-after l = length l.rest
