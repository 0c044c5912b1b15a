use Rattle.std.proofs.Common.{◌≡◌, ℕ, ◌<◌, true, get_or}
use Rattle.explorer_model.specs.Openings.{is_period}
use Rattle.opening_names.proofs.words.count_periods.Given as goal

abbrev pub invariant-loop-at : goal.invariant-loop-at
invariant-loop-at l = (k : ℕ) → k < l.at → is_period (get_or l.word k 0) ≡ true
