use Rattle.std.proofs.Common.{◌≡◌, true, List, map, ap, ◌∙◌, subst, arith}
use Rattle.row_sums.specs.Hits.{NumberedRow, hit_as}
use Rattle.row_sums.specs.Listing.{AreBestOf}
use Rattle.row_sums.proofs.KeptRows.{rows-none, rows-same, rows-more}
use Rattle.row_sums.proofs.Rows.{hit-sound, hits-all}
use Rattle.row_sums.proofs.best_games.best_of.Goals as goal
use Rattle.row_sums.proofs.best_games.best_of.Goals.{then-not-row_adds_nothing+in_ok-push, else-not-row_adds_nothing}

pub loop-hit-init : goal.loop-hit-init
loop-hit-init g c =
    rows-none g.O.Ranking.before g.O.ListsGames.list (map hit_as c.args.hits.now) (map hit_as c.new-rows.result.items) c.empty-best.result
    (ap (map hit_as) c.new-rows.ensures.items) c.empty-best.ensures

pub row_adds_nothing-requires : goal.row_adds_nothing-requires
row_adds_nothing-requires g c =
    g.met.O.ListsGames.has_room (hit_as c.hit-item.result) (hit-sound c.args.hits.now c.loop-hit.hit-index c.hit-item.result c.loop-hit-test.true c.hit-item.is c.requires)

pub with_row-best-requires : goal.with_row-best-requires
with_row-best-requires g c =
    g.met.O.ListsGames.has_room (hit_as c.hit-item.result) (hit-sound c.args.hits.now c.loop-hit.hit-index c.hit-item.result c.loop-hit-test.true c.hit-item.is c.requires)

pub loop-hit-preserved : goal.loop-hit-preserved
loop-hit-preserved g c =
    let hits = c.args.hits.now in
    let i = c.loop-hit.hit-index in
    let hit = c.hit-item.result in
    let order = g.met.O.Ranking.is_order in
    elim c.if-not-row_adds_nothing.branch [
      | then-not-row_adds_nothing+in_ok-push w ↦
          rows-more order g.O.ListsGames.list hits i hit c.loop-hit-test.true c.hit-item.is c.loop-hit.rows.items c.if-not-row_adds_nothing.rows.items c.loop-hit.best
          c.if-not-row_adds_nothing.best (ap (λ v. v.items) w.rows-is ∙ w.in_ok-push.ensures.items) (w.best-is ∙ w.with_row-best.ensures) c.loop-hit.invariant
      | else-not-row_adds_nothing w ↦ (
          let stays : c.row_adds_nothing.result ≡ true = grind (arith, w.if-not-row_adds_nothing.false) in
          rw (w.best-is, w.rows-is)
          (rows-same order g.O.ListsGames.list hits i hit c.loop-hit-test.true c.hit-item.is (map hit_as c.loop-hit.rows.items) c.loop-hit.best
          (c.row_adds_nothing.ensures stays) c.loop-hit.invariant))
    ]

pub returns : goal.returns
returns g c =
    subst (λ (hits : List NumberedRow). AreBestOf g.O.Ranking.before g.O.ListsGames.list (map hit_as c.args.hits.now) hits (map hit_as c.loop-hit.rows.items) c.loop-hit.best)
    (hits-all c.args.hits.now c.loop-hit.hit-index c.loop-hit-test.false) c.loop-hit.invariant
