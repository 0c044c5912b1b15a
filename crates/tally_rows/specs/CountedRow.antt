-- Bridge: the row that is kept as a single or by itself.
use Rattle.tally_rows.specs.declared.counted_row.CountedAs.{CountedAs}
use Rattle.tally_rows.specs.declared.counted_row.CountedAs.TheVariants as views
use Rattle.tally_rows.specs.declared.counted_row.KeptRow.{KeptRow}
use Rattle.tally_rows.specs.declared.counted_row.KeptRow.TheVariants.{One, More}
use Rattle.tally_rows.specs.declared.row.Row.{Row}
use Rattle.tally_rows.specs.Row.{row_of}

abbrev pub row_kept : KeptRow → Row
row_kept (One single) = row_of single
row_kept (More row) = row.value

abbrev pub row_counted : CountedAs → Row
row_counted (views.One single) = row_of single.now
row_counted (views.More row) = row.now
