use Rattle.explorer_model.specs.Answer.{month_value}
use Rattle.answer_json.proofs.Writing.{AreWritten}
use Rattle.answer_json.proofs.line.push_months.Given as goal

abbrev pub invariant-loop-line : goal.invariant-loop-line
invariant-loop-line l = AreWritten month_value l.lines l.line-index l.initial.body.items l.body.items l.comma
