-- Bridge: numbers that are marked in a list of tests.
use Rattle.std.specs.Prelude.{◌<◌, ◌↔◌, ℕ, Bool, true, false, List, length, slice_index_or, IsTrue}
use Rattle.std.specs.List.{Contains}
use Rattle.spill_blobs.specs.SoundRows.{AreDifferent}

-- exactly these numbers are marked
abbrev pub AreMarked : List Bool → List ℕ → Type 0
AreMarked marked numbers =
    (n : ℕ) → n < length marked → IsTrue (slice_index_or marked n false) ↔ Contains numbers n

-- the numbers are different and marked, or some number stands twice
abbrev pub Marks : Bool → List Bool → List ℕ → Type 0
Marks true marked numbers = AreMarked marked numbers × AreDifferent numbers
Marks false marked numbers = ¬ AreDifferent numbers
