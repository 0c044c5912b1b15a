use Rattle.std.proofs.Common.{◌≡◌, ◌<◌, ◌≤◌, ℕ, get_or}
use Rattle.disk_model.proofs.CrashLemmas.{torn_byte}
use Rattle.disk_model.proofs.memory.tear_bytes.Given as goal

abbrev pub invariant-loop-index : goal.invariant-loop-index
invariant-loop-index l =
    ((k : ℕ) → k < l.index → get_or l.piece k 0 ≡ torn_byte l.number k (get_or l.initial.piece k 0))
    × ((k : ℕ) → l.index ≤ k → get_or l.piece k 0 ≡ get_or l.initial.piece k 0)
