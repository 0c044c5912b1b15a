use Rattle.std.proofs.Common.{◌≡◌, map, take}
use Rattle.explorer_model.specs.Counting.{month_number}
use Rattle.row_sums.specs.Groups.{Tells}
use Rattle.row_sums.specs.Hits.{hit_as}
use Rattle.row_sums.specs.Sums.{month_line, months_in}
use Rattle.row_sums.proofs.history.lines_of_months.Given as goal

abbrev pub invariant-loop-hit : goal.invariant-loop-hit
invariant-loop-hit l =
    let hits = take l.hit-index (map hit_as l.hits) in
    record {
      lines : l.lines.items ≡ map (month_line hits) (months_in hits);
      places : Tells l.places (map month_number (months_in hits));
    }
