use Rattle.ingest_desk.proofs.AlikeLemmas.{lists_alike}
use Rattle.ingest_desk.proofs.laws.what_is_listed_is_determined.Goals as goal

pub returns : goal.returns
returns g c = λ answer batch old first second had a b.
    let both = c.tallies_are_determined.ensures in
    lists_alike (record { classes = both.classes; rows = both.rows }) answer batch old first second had a b
