use Rattle.std.proofs.Common.{◌∙◌}
use Rattle.answer_json.proofs.Strings.{one-lent}
use Rattle.answer_json.proofs.opening.lend.Goals as goal

pub loop-opening-preserved : goal.loop-opening-preserved
loop-opening-preserved c =
    let l = c.loop-opening in
    one-lent l.lent.items c.push.new.self.items c.as_ref.result c.args.openings.now l.opening-index c.opening-item.result l.invariant c.loop-opening-test.true
    (c.as_ref.ensures.value ∙ c.opening-item.is) c.in_ok-push.ensures.items
