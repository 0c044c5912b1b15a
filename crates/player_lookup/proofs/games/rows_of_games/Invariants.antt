use Rattle.std.proofs.Common.{◌≡◌, ◌+◌, ◌≤◌, List, length, map, take}
use Rattle.std.specs.Arc.{arc_value}
use Rattle.explorer_model.specs.Visits.{GameAt}
use Rattle.player_index.specs.declared.entry.Entry.{Entry}
use Rattle.player_lookup.specs.Kept.{rows_of_numbers}
use Rattle.player_lookup.specs.Seen.{AreSeen}
use Rattle.row_sums.specs.Hits.{hit_as}
use Rattle.player_lookup.proofs.games.rows_of_games.Given as goal

abbrev pub invariant-loop-entry : goal.invariant-loop-entry
invariant-loop-entry g l = record {
  within : l.entry-index ≤ length l.entries;
  rows : (games : List GameAt) → AreSeen (map arc_value l.segments) l.asked.query.now.query.at games
      → map hit_as l.hits.items ≡ rows_of_numbers l.asked.query.now l.asked.key games (map (λ (entry : Entry). entry.number) (take l.entry-index l.entries));
  cost : l.steps ≤ l.initial.steps + l.entry-index;
}
