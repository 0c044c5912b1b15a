use Rattle.std.proofs.Common.{◌≡◌, replicate, length}
use Rattle.published_index.specs.Cover.{journal_of}
use Rattle.published_index.specs.States.{watching}
use Rattle.published_index.proofs.unnamed.seat_readers.Given as goal

abbrev pub invariant-loop : goal.invariant-loop
invariant-loop l = record {
  same : l.writer ≡ l.initial.writer;
  count : length l.seats.items ≡ l.counter;
  seats : l.seats.items ≡ replicate (length l.seats.items) (record {
    book = l.initial.writer.book;
    watching = watching (journal_of l.initial.writer.publishing.list);
  });
}
