use Rattle.std.proofs.Common.{codes}
use Rattle.explorer.proofs.CountLemmas.{usage_line}
use Rattle.explorer.proofs.fault.Fault.line.Goals as goal

pub returns-in-Usage : goal.returns-in-Usage
returns-in-Usage c = usage_line c.args.self.now _ (codes "error: a word of the command line is not text") c.in-Usage.is c.fixed_line.ensures
