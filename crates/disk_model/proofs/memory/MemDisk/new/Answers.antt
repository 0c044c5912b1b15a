use Rattle.std.proofs.Common.{rules}
use Rattle.disk_model.specs.Memory.{content_of}
use Rattle.disk_model.proofs.memory.MemDisk.new.Goals as goal

pub invariant_of-result : goal.invariant_of-result
unfolding content_of
invariant_of-result c = search rules
