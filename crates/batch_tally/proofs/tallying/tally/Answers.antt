use Rattle.batch_tally.proofs.Whole.{are-candidates, have-counts, is-tallying}
use Rattle.batch_tally.proofs.tallying.tally.Goals as goal

pub accept-requires : goal.accept-requires
accept-requires g c = have-counts c.args.texts.items c.in_ok-readings.readings.items c.in_ok-readings.ensures

pub tally_of-requires-clause-candidates : goal.tally_of-requires-clause-candidates
tally_of-requires-clause-candidates g c = λ κs within.
    are-candidates c.args.texts.items c.in_ok-readings.readings.items c.in_ok-group.group.accepted.items
    c.requires.few c.requires.short c.in_ok-readings.ensures c.in_ok-group.ensures.accepted

pub returns : goal.returns
returns g c =
    is-tallying c.args.texts.items c.in_ok-readings.readings.items c.in_ok-group.group.accepted.items c.as_slice.result.now _
    c.in_ok-readings.ensures c.in_ok-group.ensures.accepted c.as_slice.ensures.value c.in_ok-places.ensures c.in_ok-group.ensures.refused c.in_ok-tally.ensures
