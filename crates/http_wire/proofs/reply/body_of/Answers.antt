use Rattle.std.proofs.Common.{inl, inr}
use Rattle.explorer_model.specs.Replies.{reply_body}
use Rattle.http_wire.proofs.reply.body_of.Goals as goal

pub returns-in-Found : goal.returns-in-Found
unfolding reply_body
returns-in-Found c =
    elim c.in-Found.is [ inl (batches, is) ↦ rw is c.as_slice.ensures | inr (batches, is) ↦ rw is c.as_slice.ensures ]
