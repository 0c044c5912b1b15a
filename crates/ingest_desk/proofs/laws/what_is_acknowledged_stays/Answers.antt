use Rattle.ingest_desk.proofs.HistoryLemmas.{history_begins, history_keeps, history_opens}
use Rattle.ingest_desk.proofs.laws.what_is_acknowledged_stays.Goals as goal

pub returns-clause-begins : goal.returns-clause-begins
returns-clause-begins g c = history_begins g.D.Disk.disk g.D.Disk.left_since

pub returns-clause-stands : goal.returns-clause-stands
returns-clause-stands g c = history_keeps g.D.Disk.disk g.D.Disk.left_since

pub returns-clause-right : goal.returns-clause-right
returns-clause-right g c = history_opens g.D.Disk.disk g.D.Disk.left_since
