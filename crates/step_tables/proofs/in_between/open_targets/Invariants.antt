use Rattle.std.proofs.Common.{ℕ, ◌<◌}
use Rattle.step_tables.specs.Bitboard.{Holds}
use Rattle.step_tables.specs.Squares.{IsUnblocked}
use Rattle.step_tables.proofs.in_between.open_targets.Given as goal

-- the squares that are left are targets, and of the others those that are open were taken
abbrev pub invariant-loop-rest : goal.invariant-loop-rest
invariant-loop-rest l = record {
  left : (b : ℕ) → b < 64 → Holds l.rest b → Holds l.targets b;
  taken : (b : ℕ) → b < 64 → Holds l.seen b → Holds l.targets b × IsUnblocked l.occupied l.square b;
  all : (b : ℕ) → b < 64 → Holds l.targets b → IsUnblocked l.occupied l.square b → ¬ Holds l.rest b → Holds l.seen b;
}

abbrev pub decreases-loop-rest : goal.decreases-loop-rest
decreases-loop-rest l = l.rest
