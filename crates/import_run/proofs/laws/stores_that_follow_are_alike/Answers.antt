use Rattle.import_run.proofs.FollowedLists.{stores_alike}
use Rattle.import_run.proofs.laws.stores_that_follow_are_alike.Goals as goal

pub returns : goal.returns
returns g c = λ before after other first second same.
    let says = c.listing_is_determined.ensures in
    stores_alike (record { joins = says.joins; either = says.either; room = says.room; puts = says.puts }) before after other first second same
