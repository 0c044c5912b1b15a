use Rattle.import_run.proofs.FollowedLists.{HasOneListing, follows_alike, follows_one}
use Rattle.import_run.proofs.laws.lists_that_follow_are_alike.Goals as goal

listing : goal.After-listing_is_determined → HasOneListing
listing c =
    let says = c.listing_is_determined.ensures in
    record { joins = says.joins; either = says.either; room = says.room; puts = says.puts }

pub returns-clause-one : goal.returns-clause-one
returns-clause-one c = follows_one (listing c)

pub returns-clause-alike : goal.returns-clause-alike
returns-clause-alike c = follows_alike (listing c)
