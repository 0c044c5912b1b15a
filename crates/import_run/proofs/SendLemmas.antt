-- What workers hand back: a counted group can go from thread to thread.
use denote.Param.Send.{IsSend, sendable}
use denote.Param.SendFields.{as_row_send, declared_send, variants_send}
use Rattle.std.proofs.Crossing.{crosses}
use Rattle.explorer_model.specs.contracts.label.Label
use Rattle.explorer_model.specs.contracts.archive.Batch
use Rattle.explorer_model.specs.contracts.archive.Classes
use Rattle.tally_rows.specs.contracts.row.Row
use Rattle.tally_rows.specs.contracts.counted_row.CountedRow
use Rattle.tally_rows.specs.contracts.tally.Tally
use Rattle.segment_blocks.specs.contracts.block.Block
use Rattle.segment_blocks.specs.contracts.encoded_rows.EncodedRows
use Rattle.segment_blocks.specs.contracts.held_batch.HeldBatch
use Rattle.segment_blocks.specs.contracts.held_batch.TaggedBatch
use Rattle.segment_blocks.specs.contracts.packed_rows.PackedRows
use Rattle.segment_blocks.specs.contracts.segment.Segment
use Rattle.ingest_desk.specs.contracts.handed.Handed
use Rattle.ingest_desk.specs.contracts.ready.Ready
use Rattle.import_run.specs.contracts.text_group.TalliedGroup

pub label_send : IsSend Label.the_row
label_send = search (sendable, crosses, declared_send, as_row_send) depth 40 fits 40000

pub batch_send : IsSend Batch.the_row
batch_send = search (label_send, sendable, crosses, declared_send, as_row_send) depth 40 fits 40000

pub classes_send : IsSend Classes.the_row
classes_send = search (sendable, crosses, declared_send, variants_send, as_row_send) depth 40 fits 40000

pub row_send : IsSend Row.the_row
row_send = search (sendable, crosses, declared_send, variants_send, as_row_send) depth 40 fits 40000

pub encoded_send : IsSend EncodedRows.the_row
encoded_send = search (row_send, sendable, crosses, declared_send, variants_send, as_row_send) depth 40 fits 40000

pub block_send : IsSend Block.the_row
block_send = search (encoded_send, sendable, crosses, declared_send, as_row_send) depth 40 fits 40000

pub packed_send : IsSend PackedRows.the_row
packed_send = search (block_send, sendable, crosses, declared_send, as_row_send) depth 40 fits 40000

pub tagged_send : IsSend TaggedBatch.the_row
tagged_send = search (batch_send, classes_send, sendable, crosses, declared_send, as_row_send) depth 40 fits 40000

pub held_batch_send : IsSend HeldBatch.the_row
held_batch_send = search (tagged_send, sendable, crosses, declared_send, as_row_send) depth 40 fits 40000

pub segment_send : IsSend Segment.the_row
segment_send = search (held_batch_send, packed_send, sendable, crosses, declared_send, as_row_send) depth 40 fits 40000

pub counted_row_send : IsSend CountedRow.the_row
counted_row_send = search (row_send, sendable, crosses, declared_send, variants_send, as_row_send) depth 40 fits 40000

pub tally_send : IsSend Tally.the_row
tally_send = search (counted_row_send, batch_send, classes_send, sendable, crosses, declared_send, as_row_send) depth 40 fits 40000

pub ready_send : IsSend Ready.the_row
ready_send = search (segment_send, sendable, crosses, declared_send) depth 40 fits 40000

pub handed_send : IsSend Handed.the_row
handed_send = search (ready_send, tally_send, sendable, crosses, declared_send, variants_send, as_row_send) depth 40 fits 40000

pub tallied_send : IsSend TalliedGroup.the_row
tallied_send = search (handed_send, sendable, crosses, declared_send, variants_send, as_row_send) depth 40 fits 40000
