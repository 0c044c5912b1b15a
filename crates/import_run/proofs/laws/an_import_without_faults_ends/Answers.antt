use Rattle.import_run.proofs.LawLemmas.{ends_without_fault}
use Rattle.import_run.proofs.laws.an_import_without_faults_ends.Goals as goal

pub returns : goal.returns
returns g c = λ label source source_after before after report is can quiet.
    ends_without_fault g.D.Disk.disk g.D.Disk.left_since source source_after before after report is can quiet
