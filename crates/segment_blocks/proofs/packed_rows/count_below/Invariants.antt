use Rattle.std.proofs.Common.{◌≡◌, ℕ, ◌+◌, ◌≤◌, ◌<◌, ◌^◌, [], true, false, length, slice_index_or}
use Rattle.segment_blocks.specs.PackedRows.{is_first_below}
use Rattle.segment_blocks.proofs.packed_rows.count_below.Given as goal

abbrev pub invariant-loop-size : goal.invariant-loop-size
invariant-loop-size g l = record {
  within : l.first + l.size ≤ length l.blocks;
  below : (k : ℕ) → k < l.first → is_first_below l.key (slice_index_or l.blocks k []) ≡ true;
  above : (k : ℕ) → l.first + l.size ≤ k → k < length l.blocks → is_first_below l.key (slice_index_or l.blocks k []) ≡ false;
  cost : (digits : ℕ) → length l.blocks < 2 ^ digits → (left : ℕ) × (l.size < 2 ^ left) × (l.steps + left ≡ l.initial.steps + digits);
}

abbrev pub decreases-loop-size : goal.decreases-loop-size
decreases-loop-size g l = l.size
