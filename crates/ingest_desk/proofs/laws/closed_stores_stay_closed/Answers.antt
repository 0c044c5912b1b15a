use Rattle.ingest_desk.proofs.LivingLemmas.{fault_closes, stays_closed}
use Rattle.ingest_desk.proofs.laws.closed_stores_stay_closed.Goals as goal

pub returns-clause-closes : goal.returns-clause-closes
returns-clause-closes g c = fault_closes g.D.Disk.disk g.D.Disk.left_since

pub returns-clause-stays : goal.returns-clause-stays
returns-clause-stays g c = stays_closed g.D.Disk.disk g.D.Disk.left_since
