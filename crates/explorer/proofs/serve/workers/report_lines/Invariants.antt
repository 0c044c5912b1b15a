use Rattle.std.proofs.Common.{◌≡◌, ◌++◌, drop, map, string_bytes}
use Rattle.explorer.specs.Serve.Workers.{lines_in}
use Rattle.explorer.proofs.serve.workers.report_lines.Given as goal

abbrev pub invariant-loop-at : goal.invariant-loop-at
invariant-loop-at g l =
    l.lines.items ++ lines_in (drop l.at (map string_bytes l.names)) (drop l.at l.workers)
    ≡ lines_in (map string_bytes l.names) l.workers
