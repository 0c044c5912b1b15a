use Rattle.std.proofs.Common.{Some, refl}
use Rattle.row_sums.proofs.Grouping.{last-told}
use Rattle.row_sums.proofs.groups.Places.place_of.Goals as goal

pub returns-clause-places : goal.returns-clause-places
returns-clause-places c = λ numbers long tells.
    let place = c.in_ok-place.ensures.place numbers long tells.each in
    record {
      each = c.in_ok-place.ensures.places numbers long tells.each;
      last = λ n p told. last-told numbers c.args.number c.in_ok-place.place place (Some (c.args.number, c.in_ok-place.place)) refl n p told;
    }
