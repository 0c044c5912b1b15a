use Rattle.record_log.proofs.DeterminedLemmas.{one_list}
use Rattle.record_log.proofs.laws.payloads_are_determined.Goals as goal

pub returns : goal.returns
returns g c = λ log file payloads others told holds also.
    let left = g.met.D.Disk.told_left log.disk file told in
    one_list log.format payloads others file (holds.records file left) (also.records file left)
