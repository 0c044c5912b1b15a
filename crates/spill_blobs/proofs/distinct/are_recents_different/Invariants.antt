use Rattle.std.proofs.Common.{◌≡◌, take, length}
use Rattle.spill_blobs.specs.SoundRows.{numbers_in}
use Rattle.spill_blobs.proofs.DistinctLemmas.{IsMarked}
use Rattle.spill_blobs.proofs.distinct.are_recents_different.Given as goal

abbrev pub invariant-loop-row : goal.invariant-loop-row
invariant-loop-row l = record {
  size : length l.marked.items ≡ l.n;
  marked : IsMarked l.marked.items (numbers_in (λ row. row.recent) (take l.row-index l.rows));
}
