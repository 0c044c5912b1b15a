use Rattle.explorer_model.specs.Answer.{array_by}
use Rattle.explorer_model.specs.Replies.{refusal_value, stored_body}
use Rattle.answer_json.proofs.Writing.{stored-pieces}
use Rattle.answer_json.proofs.stored.stored_body.Goals as goal

pub returns : goal.returns
unfolding stored_body
returns c =
    rw (
      c.in_ok-push.ensures.items,
      c.in_ok-push_value-2.ensures,
      c.from-2.ensures,
      c.in_ok-push_refusals.ensures,
      c.in_ok-extend_from_slice.ensures.items,
      c.in_ok-push_value.ensures,
      c.from.ensures,
      c.new-body.ensures.items,
    )
    (stored-pieces c.args.batches c.args.stored (array_by refusal_value c.args.refused.now))
