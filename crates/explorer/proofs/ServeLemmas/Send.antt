-- What goes from thread to thread.
use denote.RattleType.{RattleType}
use denote.Param.Send.{IsSend, IsSync, sendable}
use denote.Param.SendFields.{array_field_send, array_field_sync, as_row_send, as_row_sync, declared_send, declared_sync, variants_send, variants_sync}
use Rattle.std.proofs.Crossing.{crosses}
use Rattle.std.proofs.MapsCrossing.{crosses as maps}
use Rattle.std.proofs.MapsCrossingOver.{crosses as more_maps}
use Rattle.std.specs.contracts.sync.Mutex
use Rattle.logbook.proofs.tokens.Pen.TheSendSync.{the_send as pen_send}
use Rattle.logbook.proofs.tokens.Seen.TheSendSync.{the_send as seen_send, the_sync as seen_sync}
use Rattle.logbook.proofs.word.Word.TheSendSync.{the_send as word_send, the_sync as word_sync}
use Rattle.left_right.proofs.part.Part.TheSendSync.{the_send as part_send, the_sync as part_sync}
use Rattle.left_right.proofs.part.Deed.TheSendSync.{the_send as deed_send}
use Rattle.atomic_table.proofs.badge.Badge.TheSendSync.{the_send as badge_send}
use Rattle.atomic_table.proofs.perch.Perch.TheSendSync.{the_send as perch_send, the_sync as perch_sync}
use Rattle.atomic_table.proofs.ruled.Mark.TheSendSync.{the_send as stamp_send}
use Rattle.atomic_table.proofs.ruled.RuledPerch.TheSendSync.{the_send as ruled_send, the_sync as ruled_sync}
use Rattle.atomic_table.proofs.send_lease.SendLease.TheSendSync.{the_send as lease_send, the_sync as lease_sync}
use Rattle.atomic_table.proofs.shared.Seat.TheSendSync.{the_send as chair_send}
use Rattle.atomic_table.proofs.shared.Shared.TheSendSync.{the_send as shared_send, the_sync as shared_sync}
use Rattle.published_index.specs.declared.index.Index.{Ghosts}
use Rattle.published_index.specs.contracts.front.Front
use Rattle.published_index.specs.contracts.note.Note
use Rattle.published_index.specs.contracts.list.List as lists
use Rattle.published_index.specs.contracts.pass.Pass
use Rattle.published_index.specs.contracts.published.Published
use Rattle.published_index.specs.contracts.seat.Seat
use Rattle.published_index.specs.contracts.history.History
use Rattle.published_index.specs.contracts.held.Held
use Rattle.published_index.specs.contracts.list_writer.ListWriter
use Rattle.explorer_model.specs.contracts.label.Label
use Rattle.explorer_model.specs.contracts.archive.Batch
use Rattle.explorer_model.specs.contracts.archive.Classes
use Rattle.tally_rows.specs.contracts.row.Row
use Rattle.segment_blocks.specs.contracts.block.Block
use Rattle.segment_blocks.specs.contracts.encoded_rows.EncodedRows
use Rattle.segment_blocks.specs.contracts.held_batch.HeldBatch
use Rattle.segment_blocks.specs.contracts.held_batch.TaggedBatch
use Rattle.segment_blocks.specs.contracts.packed_rows.PackedRows
use Rattle.segment_blocks.specs.contracts.segment.Segment
use Rattle.published_index.specs.contracts.published.Operation
use Rattle.published_index.specs.contracts.places.Drawer
use Rattle.published_index.specs.contracts.places.Places
use Rattle.published_index.specs.contracts.publisher.Publisher
use Rattle.ingest_desk.specs.contracts.ids.Ids
use Rattle.ingest_desk.specs.contracts.ingest.Ingest
use Rattle.ingest_desk.specs.contracts.mark.Mark
use Rattle.ingest_desk.specs.contracts.register.Register
use Rattle.disk_model.specs.declared.disk.Disk as disks
use Rattle.manifest.specs.contracts.manifest.Manifest
use Rattle.ingest_desk.specs.contracts.receipt.Receipt
use Rattle.ingest_desk.specs.contracts.report.End
use Rattle.ingest_desk.specs.contracts.report.Report
use Rattle.explorer_model.specs.contracts.text.Name
use Rattle.explorer_model.specs.contracts.opening.Opening
use Rattle.opening_names.specs.contracts.line.NamedLine
use Rattle.opening_names.specs.contracts.book.Book
use Rattle.explorer.specs.contracts.order.Order
use Rattle.explorer.specs.contracts.serve.workers.FileWork
use Rattle.explorer.specs.contracts.serve.workers.ReaderWork
use Rattle.explorer.specs.contracts.serve.workers.Worker

pub front_send : IsSend Front.the_row
front_send = search (seen_send, sendable, crosses, declared_send, as_row_send) depth 40 fits 40000

pub front_sync : IsSync Front.the_row
front_sync = search (seen_sync, sendable, crosses, declared_sync, as_row_sync) depth 40 fits 40000

pub label_send : IsSend Label.the_row
label_send = search (sendable, crosses, declared_send, declared_sync, variants_send, variants_sync, array_field_send, array_field_sync, as_row_send, as_row_sync) depth 40 fits 40000

pub label_sync : IsSync Label.the_row
label_sync = search (sendable, crosses, declared_send, declared_sync, variants_send, variants_sync, array_field_send, array_field_sync, as_row_send, as_row_sync) depth 40 fits 40000

pub batch_send : IsSend Batch.the_row
batch_send = search (label_send, label_sync, sendable, crosses, declared_send, declared_sync, variants_send, variants_sync, array_field_send, array_field_sync, as_row_send, as_row_sync) depth 40 fits 40000

pub batch_sync : IsSync Batch.the_row
batch_sync = search (label_send, label_sync, sendable, crosses, declared_send, declared_sync, variants_send, variants_sync, array_field_send, array_field_sync, as_row_send, as_row_sync) depth 40 fits 40000

pub classes_send : IsSend Classes.the_row
classes_send = search (sendable, crosses, declared_send, declared_sync, variants_send, variants_sync, array_field_send, array_field_sync, as_row_send, as_row_sync) depth 40 fits 40000

pub classes_sync : IsSync Classes.the_row
classes_sync = search (sendable, crosses, declared_send, declared_sync, variants_send, variants_sync, array_field_send, array_field_sync, as_row_send, as_row_sync) depth 40 fits 40000

pub row_send : IsSend Row.the_row
row_send = search (sendable, crosses, declared_send, declared_sync, variants_send, variants_sync, array_field_send, array_field_sync, as_row_send, as_row_sync) depth 40 fits 40000

pub row_sync : IsSync Row.the_row
row_sync = search (sendable, crosses, declared_send, declared_sync, variants_send, variants_sync, array_field_send, array_field_sync, as_row_send, as_row_sync) depth 40 fits 40000

pub encoded_send : IsSend EncodedRows.the_row
encoded_send = search (row_send, row_sync, sendable, crosses, declared_send, declared_sync, variants_send, variants_sync, array_field_send, array_field_sync, as_row_send, as_row_sync) depth 40 fits 40000

pub encoded_sync : IsSync EncodedRows.the_row
encoded_sync = search (row_send, row_sync, sendable, crosses, declared_send, declared_sync, variants_send, variants_sync, array_field_send, array_field_sync, as_row_send, as_row_sync) depth 40 fits 40000

pub block_send : IsSend Block.the_row
block_send = search (encoded_send, encoded_sync, sendable, crosses, declared_send, declared_sync, variants_send, variants_sync, array_field_send, array_field_sync, as_row_send, as_row_sync) depth 40 fits 40000

pub block_sync : IsSync Block.the_row
block_sync = search (encoded_send, encoded_sync, sendable, crosses, declared_send, declared_sync, variants_send, variants_sync, array_field_send, array_field_sync, as_row_send, as_row_sync) depth 40 fits 40000

pub packed_send : IsSend PackedRows.the_row
packed_send = search (block_send, block_sync, sendable, crosses, declared_send, declared_sync, variants_send, variants_sync, array_field_send, array_field_sync, as_row_send, as_row_sync) depth 40 fits 40000

pub packed_sync : IsSync PackedRows.the_row
packed_sync = search (block_send, block_sync, sendable, crosses, declared_send, declared_sync, variants_send, variants_sync, array_field_send, array_field_sync, as_row_send, as_row_sync) depth 40 fits 40000

pub tagged_send : IsSend TaggedBatch.the_row
tagged_send = search (batch_send, batch_sync, classes_send, classes_sync, sendable, crosses, declared_send, declared_sync, variants_send, variants_sync, array_field_send, array_field_sync, as_row_send, as_row_sync) depth 40 fits 40000

pub tagged_sync : IsSync TaggedBatch.the_row
tagged_sync = search (batch_send, batch_sync, classes_send, classes_sync, sendable, crosses, declared_send, declared_sync, variants_send, variants_sync, array_field_send, array_field_sync, as_row_send, as_row_sync) depth 40 fits 40000

pub held_batch_send : IsSend HeldBatch.the_row
held_batch_send = search (tagged_send, tagged_sync, sendable, crosses, declared_send, declared_sync, variants_send, variants_sync, array_field_send, array_field_sync, as_row_send, as_row_sync) depth 40 fits 40000

pub held_batch_sync : IsSync HeldBatch.the_row
held_batch_sync = search (tagged_send, tagged_sync, sendable, crosses, declared_send, declared_sync, variants_send, variants_sync, array_field_send, array_field_sync, as_row_send, as_row_sync) depth 40 fits 40000

pub segment_send : IsSend Segment.the_row
segment_send = search (held_batch_send, held_batch_sync, packed_send, packed_sync, sendable, crosses, declared_send, declared_sync, variants_send, variants_sync, array_field_send, array_field_sync, as_row_send, as_row_sync) depth 40 fits 40000

pub segment_sync : IsSync Segment.the_row
segment_sync = search (held_batch_send, held_batch_sync, packed_send, packed_sync, sendable, crosses, declared_send, declared_sync, variants_send, variants_sync, array_field_send, array_field_sync, as_row_send, as_row_sync) depth 40 fits 40000

pub list_send : IsSend lists.the_row
list_send = search (segment_send, segment_sync, sendable, crosses, declared_send, declared_sync, variants_send, variants_sync, as_row_send, as_row_sync) depth 40 fits 40000

pub list_sync : IsSync lists.the_row
list_sync = search (segment_send, segment_sync, sendable, crosses, declared_send, declared_sync, variants_send, variants_sync, as_row_send, as_row_sync) depth 40 fits 40000

pub published_send : IsSend Published.the_row
published_send = search (list_send, front_send, sendable, crosses, declared_send, declared_sync, variants_send, variants_sync, as_row_send, as_row_sync) depth 40 fits 40000

pub published_sync : IsSync Published.the_row
published_sync = search (list_sync, front_sync, sendable, crosses, declared_send, declared_sync, variants_send, variants_sync, as_row_send, as_row_sync) depth 40 fits 40000

pub seat_send : IsSend Seat.the_row
seat_send = search (published_send, published_sync, front_send, front_sync, part_send, part_sync, deed_send, badge_send, perch_send, perch_sync, stamp_send, ruled_send, ruled_sync, lease_send, lease_sync, chair_send, shared_send, shared_sync, sendable, crosses, declared_send, declared_sync, variants_send, variants_sync, as_row_send, as_row_sync) depth 40 fits 40000

pub history_send : IsSend History.the_row
history_send = search (front_send, pen_send, word_send, sendable, crosses, declared_send, declared_sync, variants_send, variants_sync, as_row_send, as_row_sync) depth 40 fits 40000

pub held_send : IsSend Held.the_row
held_send = search (segment_send, segment_sync, front_send, sendable, crosses, declared_send, declared_sync, variants_send, variants_sync, as_row_send, as_row_sync) depth 40 fits 40000

pub operation_send : IsSend Operation.the_row
operation_send = search (segment_send, segment_sync, front_send, sendable, crosses, declared_send, declared_sync, variants_send, variants_sync, array_field_send, array_field_sync, as_row_send, as_row_sync) depth 40 fits 40000

pub list_writer_send : IsSend ListWriter.the_row
list_writer_send = search (operation_send, history_send, held_send, published_send, published_sync, front_send, front_sync, part_send, part_sync, deed_send, badge_send, perch_send, perch_sync, stamp_send, ruled_send, ruled_sync, lease_send, lease_sync, chair_send, shared_send, shared_sync, sendable, crosses, declared_send, declared_sync, variants_send, variants_sync, as_row_send, as_row_sync) depth 40 fits 40000

module _ (J : RattleType) (g : Ghosts J.Denot) (send : IsSend J) where
  pub mark_send : IsSend (Mark.the_row J g)
  mark_send = search (sendable, crosses, declared_send, variants_send, as_row_send) depth 40 fits 40000

  pub note_send : IsSend (Note.the_row J g)
  note_send = search (front_send, sendable, crosses, declared_send, as_row_send) depth 40 fits 40000

  pub receipt_send : IsSend (Receipt.the_row J g)
  receipt_send = search (note_send, sendable, crosses, declared_send, as_row_send) depth 40 fits 40000

  pub end_send : IsSend (End.the_row J g)
  end_send = search (mark_send, note_send, sendable, variants_send, as_row_send) depth 40 fits 40000

  pub report_send : IsSend (Report.the_row J g)
  report_send = search (receipt_send, note_send, end_send, sendable, crosses, declared_send, variants_send, as_row_send) depth 40 fits 40000

  pub pass_send : IsSend (Pass.the_row J g)
  pass_send = search (seat_send, sendable, crosses, declared_send, as_row_send) depth 40 fits 40000

  pub drawer_send : IsSend (Drawer.the_row J g)
  drawer_send = search (chair_send, sendable, crosses, declared_send, array_field_send, as_row_send) depth 40 fits 40000

  pub places_send : IsSend (Places.the_row J g)
  places_send = search (shared_send, lease_send, chair_send, sendable, crosses, declared_send, array_field_send, as_row_send) depth 40 fits 40000

  pub publisher_send : IsSend (Publisher.the_row J g)
  publisher_send = search (list_writer_send, places_send, sendable, crosses, declared_send, as_row_send) depth 40 fits 40000

  pub file_send : (F : RattleType) → IsSend F → IsSend (FileWork.the_row F J g)
  file_send F file = search (report_send, drawer_send, sendable, declared_send, variants_send, as_row_send) depth 40 fits 40000

  pub reader_send : (G : RattleType) → IsSend G → IsSend (ReaderWork.the_row G J g)
  reader_send G door = search (pass_send, drawer_send, sendable, crosses, declared_send, variants_send, as_row_send) depth 40 fits 40000

  pub worker_send : (F G : RattleType) → IsSend F → IsSend G → IsSend (Worker.the_row F G J g)
  worker_send F G file door =
      let files = file_send F file in
      let readers = reader_send G door in
      search (files, readers, sendable, variants_send, as_row_send) depth 20

pub ids_send : IsSend Ids.the_row
ids_send = search (maps, more_maps, sendable, crosses, declared_send, array_field_send, as_row_send) depth 40 fits 40000

pub register_send : IsSend Register.the_row
register_send = search (ids_send, sendable, declared_send, as_row_send) depth 40 fits 40000

pub manifest_send : (D : RattleType) (d : disks.Ghosts D.Denot) → IsSend D → IsSend (Manifest.the_row D d)
manifest_send D d disk = search (sendable, crosses, declared_send, variants_send, as_row_send) depth 40 fits 40000

pub ingest_send : (D K : RattleType) (d : disks.Ghosts D.Denot) (g : Ghosts K.Denot) → IsSend D → IsSend K → IsSend (Ingest.the_row D K d g)
ingest_send D K d g disk index = search (manifest_send, publisher_send, register_send, sendable, crosses, declared_send, variants_send, as_row_send) depth 40 fits 40000

pub desk_sync : (D K : RattleType) (d : disks.Ghosts D.Denot) (g : Ghosts K.Denot) → IsSend D → IsSend K → IsSync (Mutex.the_row (Ingest.the_row D K d g))
desk_sync D K d g disk index =
    let ingest = ingest_send D K d g disk index in
    search (ingest, crosses) depth 20

pub name_sync : IsSync Name.the_row
name_sync = search (sendable, crosses, declared_sync, as_row_sync) depth 40 fits 40000

pub opening_sync : IsSync Opening.the_row
opening_sync = search (name_sync, sendable, crosses, declared_sync, as_row_sync) depth 40 fits 40000

pub line_sync : IsSync NamedLine.the_row
line_sync = search (opening_sync, sendable, crosses, declared_sync, as_row_sync) depth 40 fits 40000

pub book_sync : IsSync Book.the_row
book_sync = search (line_sync, maps, sendable, crosses, declared_sync, as_row_sync) depth 40 fits 40000

pub order_sync : IsSync Order.the_row
order_sync = search (book_sync, sendable, crosses, declared_sync, as_row_sync) depth 40 fits 40000
