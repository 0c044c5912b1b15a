use Rattle.std.proofs.Common.{rules}
use Rattle.host.proofs.memory.MemHost.add_port.Goals as goal

pub returns-clause-added : goal.returns-clause-added
returns-clause-added c = (c.new.result, search rules, search rules, search rules)
