use Rattle.std.proofs.Common.{map, take}
use Rattle.row_sums.specs.Hits.{hit_as}
use Rattle.row_sums.specs.Listing.{AreBestOf}
use Rattle.row_sums.proofs.best_games.best_of.Given as goal

abbrev pub invariant-loop-hit : goal.invariant-loop-hit
invariant-loop-hit g l =
    AreBestOf g.O.Ranking.before g.O.ListsGames.list (map hit_as l.hits) (take l.hit-index (map hit_as l.hits)) (map hit_as l.rows.items) l.best
