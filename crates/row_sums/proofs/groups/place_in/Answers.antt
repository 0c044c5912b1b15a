use Rattle.std.proofs.Common.{◌≡◌, Some, None, sym, subst, ◌∙◌, rules}
use Rattle.std.specs.Prelude.{nat_eq}
use Rattle.std.specs.HashMap.{get, Updates}
use Rattle.row_sums.proofs.Grouping.{untold-place, untold-told}
use Rattle.row_sums.proofs.groups.place_in.Goals as goal

pub returns-clause-place : goal.returns-clause-place
returns-clause-place c = λ numbers long tells.
    let untold : get nat_eq c.args.places.now c.args.number ≡ None = search rules in
    sym long ∙ untold-place c.args.places.now numbers tells c.args.number untold

pub returns-clause-places : goal.returns-clause-places
returns-clause-places c = λ numbers long tells.
    let untold : get nat_eq c.args.places.now c.args.number ≡ None = search rules in
    untold-told c.args.places.now numbers tells c.args.number untold c.insert.new.self
    (subst (λ n. Updates nat_eq c.args.places.now c.insert.new.self c.args.number (Some n)) (sym long) c.in_ok-insert.ensures.updates)
