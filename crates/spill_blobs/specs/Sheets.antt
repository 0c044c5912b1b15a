-- Bridge: rows as bytes, with their index.
use Rattle.std.specs.Prelude.{◌≡◌, ◌-◌, ◌^◌, min, List, length}
use Rattle.std.specs.List.{AllByRecursion, flat_map}
use Rattle.tally_rows.specs.declared.row.Row.{Row}
use Rattle.spill_blobs.specs.Marks.{marks, skip_behind}
use Rattle.spill_blobs.specs.Parts.{HasRoom}
use Rattle.spill_blobs.specs.RowBlocks.{row_bytes}
use Rattle.spill_blobs.specs.declared.sheet.Sheet.{Sheet}

-- the sheet has the rows; its count stays at the greatest number
pub record IsSheet (sheet : Sheet) (rows : List Row) : Type 0 where
  pub bytes : sheet.bytes.items ≡ flat_map row_bytes rows
  pub count : sheet.count ≡ min (length rows) (2 ^ 64 - 1)
  pub keys : sheet.keys.items ≡ marks rows
  pub skip : sheet.skip ≡ skip_behind 0 rows
  pub room : AllByRecursion HasRoom rows
