-- Bridge: the row that a block holds.
use Rattle.tally_rows.specs.declared.row.Row.{Row}
use Rattle.tally_rows.specs.Row.{row_of}
use Rattle.segment_blocks.specs.declared.held_row.HeldRow.{HeldRow}
use Rattle.segment_blocks.specs.declared.held_row.HeldRow.TheVariants.{Game, Whole}

abbrev pub row_in : HeldRow → Row
row_in (Game game) = row_of game
row_in (Whole row) = row.now
