use Rattle.std.proofs.Common.{◌≡◌, ◌++◌, take}
use Rattle.explorer.specs.Serve.Served.{file_lines}
use Rattle.explorer.proofs.report.push_file_lines.Given as goal

abbrev pub invariant-loop-refusal : goal.invariant-loop-refusal
invariant-loop-refusal l = l.lines.items ≡ l.fn.lines.items ++ file_lines l.name (take l.refusal-index l.refused)
