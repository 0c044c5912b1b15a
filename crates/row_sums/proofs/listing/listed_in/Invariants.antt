use Rattle.std.proofs.Common.{◌≡◌, map, take}
use Rattle.std.specs.Prelude.{filter_map}
use Rattle.row_sums.specs.Hits.{hit_as}
use Rattle.row_sums.specs.Listing.{list_of, listed_where}
use Rattle.row_sums.proofs.listing.listed_in.Given as goal

abbrev pub invariant-loop-entry : goal.invariant-loop-entry
invariant-loop-entry g l =
    l.listed.items ≡ filter_map (λ entry. listed_where (list_of l.list) (g.G.Games.classes l.games) (map hit_as l.hits) entry.number) (take l.entry-index l.entries)
