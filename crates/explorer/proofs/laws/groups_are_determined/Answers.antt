use Rattle.import_run.proofs.SameGroups.{same_groups}
use Rattle.explorer.proofs.laws.groups_are_determined.Goals as goal

pub returns : goal.returns
returns c = same_groups
