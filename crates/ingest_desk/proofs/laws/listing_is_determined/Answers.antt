use Rattle.ingest_desk.proofs.AlikeLemmas.{joins_alike, joins_or_none, puts_alike, rooms_alike}
use Rattle.ingest_desk.proofs.laws.listing_is_determined.Goals as goal

pub returns-clause-joins : goal.returns-clause-joins
returns-clause-joins c = joins_alike

pub returns-clause-either : goal.returns-clause-either
returns-clause-either c = joins_or_none

pub returns-clause-room : goal.returns-clause-room
returns-clause-room c = rooms_alike

pub returns-clause-puts : goal.returns-clause-puts
returns-clause-puts c =
    let both = c.tallies_are_determined.ensures in
    puts_alike (record { classes = both.classes; rows = both.rows })
