use Rattle.std.proofs.Common.{ℕ, ◌<◌, ◌≤◌, length, slice_index_or}
use Rattle.explorer_model.specs.declared.archive.Placed.{Placed}
use Rattle.name_tests.proofs.tests.lists.are_short.Given as goal

abbrev pub invariant-loop-text : goal.invariant-loop-text
invariant-loop-text l = (k : ℕ) (d : Placed) → k < l.text-index → length (slice_index_or l.texts k d).bytes ≤ 65536
