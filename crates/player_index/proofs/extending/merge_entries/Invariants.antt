use Rattle.std.proofs.Common.{map}
use Rattle.std.specs.Arc.{arc_value}
use Rattle.row_sums.specs.Listing.{classes_in}
use Rattle.player_index.proofs.Merging.{Merging}
use Rattle.player_index.proofs.Orders.{entry-order}
use Rattle.player_index.proofs.extending.merge_entries.Given as goal

abbrev pub invariant-loop-entry : goal.invariant-loop-entry
invariant-loop-entry g l =
    Merging (entry-order (classes_in (map arc_value l.segments))) l.entries l.more l.all.items l.entry-index l.at
