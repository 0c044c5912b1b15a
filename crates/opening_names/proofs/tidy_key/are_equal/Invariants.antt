use Rattle.std.proofs.Common.{◌≡◌, bytes_eq, take}
use Rattle.opening_names.proofs.tidy_key.are_equal.Given as goal

abbrev pub invariant-loop-at : goal.invariant-loop-at
invariant-loop-at l = l.are_equal ≡ bytes_eq (take l.at l.one) (take l.at l.other)
