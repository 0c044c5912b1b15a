use Rattle.std.proofs.lemmas.Result.{IfOk-weaker}
use Rattle.batch_tally.proofs.LeafLemmas.{made-each}
use Rattle.batch_tally.specs.Singles.{AreRowsIn}
use Rattle.batch_tally.proofs.RangeLemmas.{rows-of-all}
use Rattle.batch_tally.proofs.ranges.row_parts.Goals as goal

pub returns : goal.returns
returns g c =
    let games = c.args.games.now in
    let ranges = c.in_ok-ranges.ranges.items in
    let results = c.in_ok-results in
    IfOk-weaker c.all_made.result _ _ (λ parts made.
    let each = made-each (λ range rows. AreRowsIn games range rows.items) ranges results.results.items parts.items
    made results.ensures.count results.ensures.results in
    rows-of-all (λ part. part.items) c.ranges_are_tallied.ensures games ranges parts.items c.requires.counted c.in_ok-ranges.ensures each)
    c.all_made.ensures
