use Rattle.ingest_desk.proofs.LivingLemmas.{commit_lives, crash_lives, same_life}
use Rattle.ingest_desk.proofs.laws.commits_are_events.Goals as goal

pub returns-clause-answers : goal.returns-clause-answers
returns-clause-answers g c = commit_lives g.D.Disk.disk g.D.Disk.left_since

pub returns-clause-crash : goal.returns-clause-crash
returns-clause-crash g c = crash_lives g.D.Disk.disk g.D.Disk.left_since

pub returns-clause-others : goal.returns-clause-others
returns-clause-others g c = same_life g.D.Disk.disk g.D.Disk.left_since
