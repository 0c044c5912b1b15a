use Rattle.ingest_desk.proofs.JobLemmas.{found_to_join}
use Rattle.ingest_desk.proofs.merge_desk.next_job.Goals as goal

pub returns : goal.returns
returns g c = found_to_join _ c.pick.result c.pick.ensures
