use Rattle.ingest_desk.proofs.InstallLemmas.{answers_alike, answers_same}
use Rattle.ingest_desk.proofs.laws.installing_is_determined.Goals as goal

pub returns-clause-same : goal.returns-clause-same
returns-clause-same c left right merged old new after answer other is some a b decided also =
    answers_same left right old new after is some merged answer other a b decided also

pub returns-clause-alike : goal.returns-clause-alike
returns-clause-alike c left right merged joined old new after answer other is some alike a b decided also =
    answers_alike left right old new after is some merged joined answer other alike a b decided also
