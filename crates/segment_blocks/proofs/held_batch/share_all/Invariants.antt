use Rattle.std.proofs.Common.{◌≡◌, ◌++◌, ◌≤◌, take, length}
use Rattle.segment_blocks.specs.HeldBatches.{all_batches, all_classes, StandFrom}
use Rattle.segment_blocks.proofs.held_batch.share_all.Given as goal

abbrev pub invariant-loop-held : goal.invariant-loop-held
invariant-loop-held l = record {
  within : l.held-index ≤ length l.more;
  batches : all_batches l.batches.items
      ≡ all_batches l.initial.batches.items ++ all_batches (take l.held-index l.more);
  classes : all_classes l.batches.items
      ≡ all_classes l.initial.batches.items ++ all_classes (take l.held-index l.more);
  stand : StandFrom 0 l.batches.items;
}
