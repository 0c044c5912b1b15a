use Rattle.std.proofs.Common.{◌≡◌, ◌+◌, ◌≤◌, replicate, length}
use Rattle.std.specs.Vec.{vec_capacity}
use Rattle.published_index.specs.Cover.{journal_of}
use Rattle.published_index.specs.States.{watching}
use Rattle.published_index.proofs.unnamed.Unnamed.named.Given as goal

abbrev pub invariant-loop-seat : goal.invariant-loop-seat
invariant-loop-seat g l = record {
  seats : l.seats.items ≡ replicate (length l.seats.items) (record {
    book = l.writer.book;
    watching = watching (journal_of l.writer.publishing.list);
  });
  passes : l.passes.items
      ≡ replicate (length l.passes.items) (watching (journal_of l.writer.publishing.list));
  count : length l.passes.items + length l.seats.items ≡ length l.initial.seats.items;
  room : length l.initial.seats.items ≤ vec_capacity l.passes;
}

abbrev pub decreases-loop-seat : goal.decreases-loop-seat
decreases-loop-seat g l = length l.seats.items
