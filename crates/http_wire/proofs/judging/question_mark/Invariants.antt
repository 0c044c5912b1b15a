use Rattle.std.proofs.Common.{◌≡◌, ◌+◌, ◌-◌, ◌≤◌, length, drop}
use Rattle.std.specs.List.{position_or_len}
use Rattle.http_wire.specs.Judging.{is_question}
use Rattle.http_wire.proofs.judging.question_mark.Given as goal

abbrev pub invariant-loop-at : goal.invariant-loop-at
invariant-loop-at l =
    (l.at ≤ length l.target)
    × (position_or_len is_question l.target ≡ l.at + position_or_len is_question (drop l.at l.target))

abbrev pub decreases-loop-at : goal.decreases-loop-at
decreases-loop-at l = length l.target - l.at
