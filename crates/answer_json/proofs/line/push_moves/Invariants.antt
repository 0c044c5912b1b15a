use Rattle.std.proofs.Common.{map}
use Rattle.std.specs.Option.{option_copied}
use Rattle.answer_json.proofs.Writing.{AreLinesWritten}
use Rattle.answer_json.proofs.line.push_moves.Given as goal

abbrev pub invariant-loop-place : goal.invariant-loop-place
invariant-loop-place g l =
    AreLinesWritten g.L.LineOfMove.value l.lines (map option_copied l.openings) l.place l.initial.body.items l.body.items l.comma
