use Rattle.std.proofs.Common.{List, ℕ, OnOk, OnErr, refl, ◌∙◌, subst}
use Rattle.outside.specs.Stream.{Takes, FailsToTake}
use Rattle.http_wire.proofs.Sending.{chunks-are}
use Rattle.http_wire.proofs.reply.write_reply.Goals as goal

pub returns-then-remaining_capacity-body-clause-takes : goal.returns-then-remaining_capacity-body-clause-takes
returns-then-remaining_capacity-body-clause-takes g c =
    subst (λ (text : List ℕ). OnOk c.send_both.result
    (Takes text (g.L.Source.source c.args.link.now) (g.L.Source.source c.send_both.new.link)))
    (chunks-are c.args.reply.now c.args.last _ _ c.body_of-body.result.now
    c.as_slice-then-remaining_capacity-body.ensures.value c.push_head.ensures c.body_of-body.ensures)
    c.send_both.ensures.takes

pub returns-then-remaining_capacity-body-clause-fails : goal.returns-then-remaining_capacity-body-clause-fails
returns-then-remaining_capacity-body-clause-fails g c =
    subst (λ (text : List ℕ). OnErr c.send_both.result
    (FailsToTake text (g.L.Source.source c.args.link.now) (g.L.Source.source c.send_both.new.link)))
    (chunks-are c.args.reply.now c.args.last _ _ c.body_of-body.result.now
    c.as_slice-then-remaining_capacity-body.ensures.value c.push_head.ensures c.body_of-body.ensures)
    c.send_both.ensures.fails

pub returns-clause-takes : goal.returns-clause-takes
returns-clause-takes g c =
    subst (λ (text : List ℕ). OnOk c.send.result
    (Takes text (g.L.Source.source c.args.link.now) (g.L.Source.source c.send.new.link)))
    (c.as_slice-2.ensures.value ∙ c.push.ensures.text
    ∙ chunks-are c.args.reply.now c.args.last c.push_head.new.text.items c.push_head.new.text.items c.body_of-body.result.now
    refl c.push_head.ensures c.body_of-body.ensures)
    c.send.ensures.takes

pub returns-clause-fails : goal.returns-clause-fails
returns-clause-fails g c =
    subst (λ (text : List ℕ). OnErr c.send.result
    (FailsToTake text (g.L.Source.source c.args.link.now) (g.L.Source.source c.send.new.link)))
    (c.as_slice-2.ensures.value ∙ c.push.ensures.text
    ∙ chunks-are c.args.reply.now c.args.last c.push_head.new.text.items c.push_head.new.text.items c.body_of-body.result.now
    refl c.push_head.ensures c.body_of-body.ensures)
    c.send.ensures.fails
