use Rattle.std.proofs.Common.{◌≡◌, ◌+◌, arith}
use Rattle.explorer.proofs.ListLemmas.{one_behind}
use Rattle.explorer.proofs.list_batches.push_lines.Goals as goal

pub loop-n-preserved : goal.loop-n-preserved
loop-n-preserved g c =
    let own = c.from.result + c.from-in-loop-n.result + 1 in
    let own_is : own ≡ c.args.segment.now.span.first + 1 + c.loop-n.n =
    omega (arith, c.from.ensures, c.from-in-loop-n.ensures, c.span-span.ensures.first) in
    one_behind (c.args.segment.now.span.first + 1) c.loop-n.n own c.args.segment.now.span.batches c.batch.result.now c.args.lines.now.items c.loop-n.lines.items c.push_line.new.lines.items
    c.batch.ensures.batch own_is c.loop-n.invariant c.in_ok-push_line.ensures
