use Rattle.std.proofs.Common.{◌≡◌, ◌+◌, ◌++◌, [], ◌∷◌, length}
use Rattle.segment_merge.specs.Ranges.{AreRising}
use Rattle.segment_merge.proofs.ranges.cut_keys_in.Given as goal

abbrev pub invariant-loop-part : goal.invariant-loop-part
invariant-loop-part g l = record {
  count : length l.keys.items + 1 ≡ l.part;
  rising : AreRising (l.keys.items ++ l.last ∷ []);
}
