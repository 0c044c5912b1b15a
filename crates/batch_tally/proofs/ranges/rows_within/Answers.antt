use Rattle.std.proofs.Common.{List, sym, subst, ◌∙◌}
use Rattle.std.proofs.lemmas.Result.{IfOk-weaker}
use Rattle.tally_rows.specs.declared.single.Single.{Single}
use Rattle.tally_rows.specs.Track.{Track}
use Rattle.tally_rows.specs.Within.{AreSinglesWithin, TalliedWithin, is_in_range}
use Rattle.batch_tally.specs.Singles.{AreTracksOf}
use Rattle.batch_tally.proofs.RangeLemmas.{singles-in}
use Rattle.batch_tally.proofs.ranges.rows_within.Goals as goal

pub returns : goal.returns
returns c =
    let games = c.args.games.now in
    let range = c.args.range in
    let singles : List Single = c.in_ok-singles.singles.items in
    IfOk-weaker c.rows_of.result _ (λ rows. (tracks : List Track) → AreTracksOf games tracks → TalliedWithin (is_in_range range) tracks rows.items)
    (λ rows is tracks are.
    is (is_in_range range) tracks
    (subst (λ (l : List Single). AreSinglesWithin (is_in_range range) tracks l)
    (sym (c.in_ok-singles.ensures.singles ∙ singles-in range 0 games tracks are))
    (c.singles_of_passing_keys.ensures (is_in_range range) tracks)))
    c.rows_of.ensures.within
