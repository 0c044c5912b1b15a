use Rattle.import_run.proofs.EarlyLemmas.{one_batches, one_refused}
use Rattle.import_run.proofs.LawLemmas.{same_cut_off, same_too_much, same_whole}
use Rattle.import_run.proofs.laws.imports_are_determined.Goals as goal

pub returns-clause-whole : goal.returns-clause-whole
returns-clause-whole g c = λ label bytes source source_after source_other before after other_after report other told first second is also.
    same_whole g.D.Disk.disk g.D.Disk.left_since c.game_is_determined.ensures (one_batches c.game_is_determined.ensures label) (one_refused c.game_is_determined.ensures label)
    bytes source source_after source_other before after other_after report other told first second is also

pub returns-clause-cut_off : goal.returns-clause-cut_off
returns-clause-cut_off g c = λ label source source_after source_other before after other_after report other a b a' b' first second streams is also.
    same_cut_off g.D.Disk.disk g.D.Disk.left_since c.game_is_determined.ensures (one_batches c.game_is_determined.ensures label) (one_refused c.game_is_determined.ensures label)
    source source_after source_other before after other_after report other a b a' b' first second streams is also

pub returns-clause-too_much : goal.returns-clause-too_much
returns-clause-too_much g c = λ label source source_after source_other before after other_after report other n n' first second streams is also.
    same_too_much g.D.Disk.disk g.D.Disk.left_since c.game_is_determined.ensures (one_batches c.game_is_determined.ensures label) (one_refused c.game_is_determined.ensures label)
    source source_after source_other before after other_after report other n n' first second streams is also
