use Rattle.std.proofs.Common.{◌++◌, ap, ◌∙◌}
use Rattle.tally_rows.specs.Row.{row_key_of}
use Rattle.spill_blobs.specs.RowBlocks.{row_key_bytes, row_bytes, count_bytes, list_bytes}
use Rattle.spill_blobs.proofs.BytesLemmas.{four}
use Rattle.spill_blobs.proofs.row_bytes.put_row.Goals as goal

pub returns-clause-bytes : goal.returns-clause-bytes
unfolding row_bytes
returns-clause-bytes c =
    let row = c.args.row.now in
    four c.args.bytes.now.items (row_key_bytes (row_key_of row)) (count_bytes row) (list_bytes row.top) (list_bytes row.recent) _ _ _ _
    c.in_ok-put_row_key.ensures.bytes c.in_ok-put_counts.ensures.bytes
    (c.in_ok-put_list.ensures.bytes ∙ ap (λ es. c.put_counts.new.bytes.items ++ list_bytes es) c.entries.ensures.entries)
    (c.in_ok-put_list-2.ensures.bytes ∙ ap (λ es. c.put_list.new.bytes.items ++ list_bytes es) c.entries-2.ensures.entries)
