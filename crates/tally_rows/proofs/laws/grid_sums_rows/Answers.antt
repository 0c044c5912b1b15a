use Rattle.tally_rows.proofs.Grids.{total-zeros, total-added, IsShaped-zeros, IsShaped-added}
use Rattle.tally_rows.proofs.laws.grid_sums_rows.Goals as goal

pub returns : goal.returns
returns c = record { zeros = total-zeros; added = total-added; zeros_shape = IsShaped-zeros; added_shape = IsShaped-added }
