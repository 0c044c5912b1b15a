use Rattle.std.proofs.Common.{◌++◌, codes, ap, ◌∙◌, append_assoc}
use Rattle.serde_json.proofs.OnLiterals.{serde_json_on_literals}
use Rattle.explorer_model.specs.Replies.{reply_body}
use Rattle.http_wire.proofs.Sending.{parameter-is, player-parameter-is}
use Rattle.http_wire.proofs.reply.own_body.Goals as goal

pub returns-in-BadParameter : goal.returns-in-BadParameter
returns-in-BadParameter c =
    rw c.in-BadParameter.is
    (c.parameter_body.ensures
    ∙ ap (λ text. codes "{\"error\":\"malformed parameter\",\"parameter\":\"" ++ text ++ codes "\"}") c.as_str.ensures
    ∙ parameter-is c.in-BadParameter.name)

pub returns-in-BadPlayerParameter : goal.returns-in-BadPlayerParameter
returns-in-BadPlayerParameter c =
    rw c.in-BadPlayerParameter.is
    (c.parameter_body-in-BadPlayerParameter.ensures
    ∙ ap (λ text. codes "{\"error\":\"malformed parameter\",\"parameter\":\"" ++ text ++ codes "\"}")
    c.as_str-in-BadPlayerParameter.ensures
    ∙ player-parameter-is c.in-BadPlayerParameter.name)

pub returns-in-BadRequest : goal.returns-in-BadRequest
unfolding reply_body serde_json_on_literals
returns-in-BadRequest c = rw c.in-BadRequest.is c.body_from.ensures

pub returns-in-NotFound : goal.returns-in-NotFound
unfolding reply_body serde_json_on_literals
returns-in-NotFound c = rw c.in-NotFound.is c.body_from-in-NotFound.ensures

pub returns-in-NotAllowed : goal.returns-in-NotAllowed
unfolding reply_body serde_json_on_literals
returns-in-NotAllowed c = rw c.in-NotAllowed.is c.body_from-in-NotAllowed.ensures

pub returns-in-TooLarge : goal.returns-in-TooLarge
unfolding reply_body serde_json_on_literals
returns-in-TooLarge c = rw c.in-TooLarge.is c.body_from-in-TooLarge.ensures

pub returns-in-HeadTooLarge : goal.returns-in-HeadTooLarge
unfolding reply_body serde_json_on_literals
returns-in-HeadTooLarge c = rw c.in-HeadTooLarge.is c.body_from-in-HeadTooLarge.ensures

pub returns-in-DiskFault : goal.returns-in-DiskFault
unfolding reply_body serde_json_on_literals
returns-in-DiskFault c = rw c.in-DiskFault.is c.body_with_number.ensures

pub returns-in-Closed : goal.returns-in-Closed
unfolding reply_body serde_json_on_literals
returns-in-Closed c = rw c.in-Closed.is c.body_with_number-in-Closed.ensures

pub returns-in-NoMemory : goal.returns-in-NoMemory
unfolding reply_body serde_json_on_literals
returns-in-NoMemory c = rw c.in-NoMemory.is c.body_from-in-NoMemory.ensures

pub returns-in-Unread : goal.returns-in-Unread
unfolding reply_body serde_json_on_literals
returns-in-Unread c = rw c.in-Unread.is c.body_from-in-Unread.ensures

pub returns-in-Full : goal.returns-in-Full
unfolding reply_body serde_json_on_literals
returns-in-Full c = rw c.in-Full.is (c.full_body.ensures ∙ simp append_assoc)
