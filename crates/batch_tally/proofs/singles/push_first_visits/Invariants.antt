use Rattle.std.proofs.Common.{◌≡◌, take, length}
use Rattle.batch_tally.specs.Marks.{AreMarked}
use Rattle.batch_tally.proofs.Pushing.{Pushing}
use Rattle.batch_tally.proofs.singles.push_first_visits.Given as goal

abbrev pub invariant-loop-place : goal.invariant-loop-place
invariant-loop-place l =
    Pushing l.classes 0 l.steps l.initial.singles.items l.singles.items l.place
    × AreMarked l.marks (take l.place l.steps)
    × (length l.marks ≡ 256)
