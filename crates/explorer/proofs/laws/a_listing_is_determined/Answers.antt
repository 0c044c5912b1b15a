use Rattle.explorer.proofs.LawLemmas.Listing.{one_listing}
use Rattle.explorer.proofs.laws.a_listing_is_determined.Goals as goal

pub returns : goal.returns
returns c = λ store file before after other ending ending' told well well' fed fed' first second.
    let once = c.opening_is_determined.ensures in
    one_listing store file before after other ending ending' (record { opened = once.opened; refused = once.refused; either = once.either }) told well well' fed fed' first second
