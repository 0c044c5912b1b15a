use Rattle.import_run.proofs.CrashLemmas.{since_sound}
use Rattle.import_run.proofs.laws.what_a_crash_leaves_is_sound.Goals as goal

pub returns : goal.returns
returns g c = λ label source source_after before after report is open_is each.
    since_sound c.fronts_are_sound.ensures g.D.Disk.disk g.D.Disk.left_since before after is.since is.sound open_is each
