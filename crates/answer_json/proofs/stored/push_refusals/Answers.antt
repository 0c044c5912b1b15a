use Rattle.std.proofs.Common.{arith}
use Rattle.explorer_model.specs.Replies.{refusal_value}
use Rattle.answer_json.proofs.Writing.{none-written, one-written, all-written}
use Rattle.answer_json.proofs.stored.push_refusals.Goals as goal

pub loop-refusal-init : goal.loop-refusal-init
loop-refusal-init c = none-written refusal_value c.args.refused.now c.push.new.self.items

pub loop-refusal-preserved : goal.loop-refusal-preserved
loop-refusal-preserved c =
    one-written refusal_value c.args.refused.now c.loop-refusal.refusal-index _ c.push.new.self.items c.loop-refusal.body.items c.loop-refusal.comma.now
    c.push_value.new.body.items c.in_ok-value.value c.loop-refusal.invariant c.loop-refusal-test.true c.in_ok-value.ensures
    c.in_ok-push_value.ensures

pub returns : goal.returns
returns c =
    all-written refusal_value c.args.refused.now c.loop-refusal.refusal-index c.args.body.now.items c.push.new.self.items c.loop-refusal.body.items
    c.loop-refusal.comma.now c.push-2.new.self.items c.in_ok-push.ensures.items (omega arith) c.loop-refusal.invariant
    c.in_ok-push-2.ensures.items
