use Rattle.import_run.proofs.EarlyLemmas.{one_batches, one_refused}
use Rattle.import_run.proofs.DeterminedLemmas.{one_end, same_disk_fault}
use Rattle.import_run.proofs.laws.ends_are_determined.Goals as goal

pub returns-clause-plain : goal.returns-clause-plain
returns-clause-plain g c = λ label bytes source source_after source_other before after other_after report other told first second plain also.
    one_end g.D.Disk.disk g.D.Disk.left_since c.game_is_determined.ensures (one_batches c.game_is_determined.ensures label) (one_refused c.game_is_determined.ensures label)
    bytes source source_after source_other before after other_after report other told first second plain also

pub returns-clause-disk_fault : goal.returns-clause-disk_fault
returns-clause-disk_fault g c = λ label bytes source source_after source_other before after other_after report other a b a' b' mark mark' told first second is also long.
    same_disk_fault g.D.Disk.disk g.D.Disk.left_since c.game_is_determined.ensures (one_batches c.game_is_determined.ensures label) (one_refused c.game_is_determined.ensures label)
    bytes source source_after source_other before after other_after report other told first second a b a' b' mark mark' is also long
