use Rattle.explorer.proofs.LawLemmas.Serve.{both_refused, both_served, refused_too}
use Rattle.explorer.proofs.laws.a_serving_is_determined.Goals as goal

pub returns-clause-refused : goal.returns-clause-refused
returns-clause-refused c = λ service workers image before after other ending ending' told seven seven' serves serves'.
    let once = c.opening_is_determined.ensures in
    both_refused service workers image before after other ending ending' (record { opened = once.opened; refused = once.refused; either = once.either }) told seven seven' serves serves'

pub returns-clause-either : goal.returns-clause-either
returns-clause-either c = λ service workers image before after other ending ending' told well' fed' seven serves serves'.
    let once = c.opening_is_determined.ensures in
    refused_too service workers image before after other ending ending' (record { opened = once.opened; refused = once.refused; either = once.either }) told well' fed' seven serves serves'

pub returns-clause-served : goal.returns-clause-served
returns-clause-served c = λ service workers image before after other ending ending' told well well' fed fed' differs serves serves'.
    let once = c.opening_is_determined.ensures in
    both_served service workers image before after other ending ending' (record { opened = once.opened; refused = once.refused; either = once.either }) told well well' fed fed' differs serves serves'
