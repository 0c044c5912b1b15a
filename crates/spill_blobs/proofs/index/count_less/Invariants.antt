use Rattle.std.proofs.Common.{◌≡◌, ℕ, ◌+◌, ◌≤◌, ◌<◌, ◌^◌, [], true, false, length, slice_index_or}
use Rattle.spill_blobs.specs.Marks.{is_less}
use Rattle.spill_blobs.proofs.index.count_less.Given as goal

abbrev pub invariant-loop-size : goal.invariant-loop-size
invariant-loop-size g l = record {
  within : l.first + l.size ≤ length l.keys;
  less : (k : ℕ) → k < l.first → is_less l.key (slice_index_or l.keys k []) ≡ true;
  others : (k : ℕ) → l.first + l.size ≤ k → k < length l.keys → is_less l.key (slice_index_or l.keys k []) ≡ false;
  cost : (digits : ℕ) → length l.keys < 2 ^ digits → (left : ℕ) × (l.size < 2 ^ left) × (l.steps + left ≡ l.initial.steps + digits);
}

abbrev pub decreases-loop-size : goal.decreases-loop-size
decreases-loop-size g l = l.size
