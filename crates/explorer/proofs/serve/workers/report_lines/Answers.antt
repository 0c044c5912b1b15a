use Rattle.std.proofs.Common.{rules, string_bytes}
use Rattle.explorer.proofs.ServeLemmas.WorkerLists.{lines-more}
use Rattle.explorer.proofs.serve.workers.report_lines.Goals as goal

pub loop-at-preserved : goal.loop-at-preserved
loop-at-preserved g c =
    lines-more string_bytes c.args.names.now c.args.workers.now c.loop-at.at c.index-names-at.result c.as_str.result.now
    c.index-workers-at.result c.loop-at.lines.items c.push_lines.new.lines.items (search rules) c.requires
    c.as_str.ensures.value c.index-names-at.is c.index-workers-at.is c.in_ok-push_lines.ensures c.loop-at.invariant
