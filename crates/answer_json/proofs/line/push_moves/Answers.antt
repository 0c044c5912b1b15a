use Rattle.std.proofs.Common.{◌∙◌, ap, arith, map, sym, ◌++◌}
use Rattle.std.specs.Option.{option_copied}
use Rattle.serde_json.specs.Data.{Items, array}
use Rattle.serde_json.specs.Written.{compact_text}
use Rattle.answer_json.proofs.Writing.{no-line-written, line-written, lines-written}
use Rattle.answer_json.proofs.line.push_moves.Goals as goal

pub loop-place-init : goal.loop-place-init
loop-place-init g c = no-line-written g.L.LineOfMove.value c.args.lines.now (map option_copied c.args.openings.now) c.push.new.self.items

pub loop-place-preserved : goal.loop-place-preserved
loop-place-preserved g c =
    let l = c.loop-place in
    let line = c.index-lines-place in
    let value = g.L.LineOfMove.value in
    line-written value c.args.lines.now (map option_copied c.args.openings.now) l.place line.result c.push.new.self.items l.body.items l.comma.now
    c.push_with.new.body.items l.invariant c.loop-place-test.true line.is
    (c.in_ok-push_with.ensures ∙ ap (λ o. l.body.items ++ (l.comma.now ++ compact_text (value line.result o))) c.opening_at.ensures)

pub returns : goal.returns
returns g c =
    let l = c.loop-place in
    let openings = map option_copied c.args.openings.now in
    lines-written g.L.LineOfMove.value c.args.lines.now openings l.place c.args.body.now.items c.push.new.self.items l.body.items l.comma.now
    c.push-2.new.self.items c.in_ok-push.ensures.items (omega arith) l.invariant c.in_ok-push-2.ensures.items
    ∙ ap (λ (items : Items). c.args.body.now.items ++ compact_text (array items)) (sym (g.met.L.LineOfMove.items_are c.args.lines.now openings))
