use Rattle.explorer_model.specs.Replies.{refusal_value}
use Rattle.answer_json.proofs.Writing.{AreWritten}
use Rattle.answer_json.proofs.stored.push_refusals.Given as goal

abbrev pub invariant-loop-refusal : goal.invariant-loop-refusal
invariant-loop-refusal l = AreWritten refusal_value l.refused l.refusal-index l.initial.body.items l.body.items l.comma
