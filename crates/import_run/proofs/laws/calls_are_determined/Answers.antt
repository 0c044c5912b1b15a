use Rattle.std.proofs.Common.{Some, [], length, refl}
use Rattle.outside.specs.Stream.{source_alone}
use Rattle.explorer_model.specs.Labels.{no_label}
use Rattle.import_run.proofs.EarlyLemmas.{one_batches, one_refused}
use Rattle.import_run.proofs.DeterminedLemmas.{one_call}
use Rattle.import_run.proofs.laws.calls_are_determined.Goals as goal

pub returns : goal.returns
returns g c = λ body before after other_after report other first second plain also.
    let all = source_alone (Some body) 0 0 in
    let none = source_alone (Some []) (length body) 0 in
    one_call g.D.Disk.disk g.D.Disk.left_since c.game_is_determined.ensures (one_batches c.game_is_determined.ensures no_label) (one_refused c.game_is_determined.ensures no_label)
    body all none none before after other_after report other refl first second plain also
