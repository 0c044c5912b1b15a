use Rattle.std.proofs.Common.{arith}
use Rattle.explorer_model.specs.Answer.{month_value}
use Rattle.answer_json.proofs.Writing.{none-written, one-written, all-written}
use Rattle.answer_json.proofs.line.push_months.Goals as goal

pub loop-line-init : goal.loop-line-init
loop-line-init c = none-written month_value c.args.lines.now c.push.new.self.items

pub loop-line-preserved : goal.loop-line-preserved
loop-line-preserved c =
    one-written month_value c.args.lines.now c.loop-line.line-index _ c.push.new.self.items c.loop-line.body.items c.loop-line.comma.now
    c.push_value.new.body.items c.in_ok-value.value c.loop-line.invariant c.loop-line-test.true c.in_ok-value.ensures
    c.in_ok-push_value.ensures

pub returns : goal.returns
returns c =
    all-written month_value c.args.lines.now c.loop-line.line-index c.args.body.now.items c.push.new.self.items c.loop-line.body.items
    c.loop-line.comma.now c.push-2.new.self.items c.in_ok-push.ensures.items (omega arith) c.loop-line.invariant
    c.in_ok-push-2.ensures.items
