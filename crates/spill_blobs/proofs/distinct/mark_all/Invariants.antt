use Rattle.std.proofs.Common.{ℕ, List, ◌++◌, map, take}
use Rattle.spill_blobs.specs.Distinct.{AreMarked}
use Rattle.spill_blobs.specs.SoundRows.{AreDifferent}
use Rattle.spill_blobs.proofs.DistinctLemmas.{IsMarked}
use Rattle.spill_blobs.proofs.distinct.mark_all.Given as goal

abbrev pub invariant-loop-entry : goal.invariant-loop-entry
invariant-loop-entry l = (numbers : List ℕ) → AreMarked l.initial.marked numbers → AreDifferent numbers
    → IsMarked l.marked (numbers ++ map (λ entry. entry.number) (take l.entry-index l.entries))
