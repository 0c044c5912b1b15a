use Rattle.std.proofs.Common.{map, string_bytes, subst, sym}
use Rattle.command_line.specs.declared.words.UsageError.{UsageError}
use Rattle.command_line.specs.Words.{EndsLine}
use Rattle.command_line.specs.Words.{task_in}
use Rattle.explorer.specs.Lines.{ending_of}
use Rattle.explorer.specs.World.{world}
use Rattle.explorer.proofs.RunLemmas.{ended_run, refused_run, starved_run}
use Rattle.explorer.proofs.program.run.Goals as goal

pub returns-in-Err-Fault : goal.returns-in-Err-Fault
returns-in-Err-Fault g c =
    let refused = rw c.in-Err-Fault.field-0-is at c.in-Err-Fault.ensures.refused in
    refused_run (map string_bytes c.args.words.now) _ _ _ _ _ _ _ refused.0 (subst (λ (u : UsageError). EndsLine (string_bytes u.text)) (sym c.in-Err-Fault.usage-is) refused.1) c.report_usage.ensures.status c.report_usage.ensures.text

pub returns-in-Err-OutOfMemory : goal.returns-in-Err-OutOfMemory
returns-in-Err-OutOfMemory g c = starved_run (map string_bytes c.args.words.now) _ _ _ _ _ _ c.report_fault.ensures.status c.report_fault.ensures.told

pub returns-in-Ok : goal.returns-in-Ok
returns-in-Ok g c =
    ended_run (map string_bytes c.args.words.now) (task_in c.in-Ok.command)
    (world (g.I.Source.source c.args.input.now) (g.O.Sink.sink c.args.output.now) (g.E.Sink.sink c.args.errors.now) (g.H.Host.host c.args.host.now))
    (world (g.I.Source.source c.run_command-outcome.new.input) (g.O.Sink.sink c.run_command-outcome.new.output) (g.E.Sink.sink c.run_command-outcome.new.errors) (g.H.Host.host c.run_command-outcome.new.host))
    (g.E.Sink.sink c.report_outcome.new.errors) (ending_of c.run_command-outcome.result) c.report_outcome.result.number
    c.in-Ok.ensures.task c.run_command-outcome.ensures c.report_outcome.ensures.status c.report_outcome.ensures.told
