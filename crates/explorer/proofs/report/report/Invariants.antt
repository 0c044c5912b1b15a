use Rattle.std.proofs.Common.{◌≡◌, take}
use Rattle.explorer.specs.Report.{report}
use Rattle.explorer.proofs.report.report.Given as goal

abbrev pub invariant-loop-refusal : goal.invariant-loop-refusal
invariant-loop-refusal l = l.lines.items ≡ report (take l.refusal-index l.refused)
