use Rattle.ingest_desk.proofs.LivingLemmas.{fresh_lives, life_opens, opening_begins, opening_lives, quiet_lives}
use Rattle.ingest_desk.proofs.laws.openings_are_events.Goals as goal

pub returns-clause-fresh : goal.returns-clause-fresh
returns-clause-fresh g c = fresh_lives g.D.Disk.disk g.D.Disk.left_since

pub returns-clause-begins : goal.returns-clause-begins
returns-clause-begins g c = opening_begins g.D.Disk.disk g.D.Disk.left_since

pub returns-clause-opens : goal.returns-clause-opens
returns-clause-opens g c = opening_lives g.D.Disk.disk g.D.Disk.left_since

pub returns-clause-left : goal.returns-clause-left
returns-clause-left g c life store lived = lived.images

pub returns-clause-read : goal.returns-clause-read
returns-clause-read g c life file store lived told =
    lived.images file (g.met.D.Disk.told_left store.manifest.disk file told)

pub returns-clause-right : goal.returns-clause-right
returns-clause-right g c = life_opens

pub returns-clause-quiet : goal.returns-clause-quiet
returns-clause-quiet g c = quiet_lives g.D.Disk.disk g.D.Disk.left_since
