use Rattle.std.proofs.Common.{◌++◌, codes, ap, ◌∙◌}
use Rattle.http_wire.proofs.reply.parameter_body.Goals as goal

pub returns : goal.returns
returns c =
    c.push-2.ensures.text
    ∙ ap (λ text. text ++ codes "\"}")
    (c.push.ensures.text
    ∙ ap (λ text. text ++ c.as_bytes.result.now) c.body_from-body.ensures
    ∙ ap (λ text. codes "{\"error\":\"malformed parameter\",\"parameter\":\"" ++ text) c.as_bytes.ensures.value)
