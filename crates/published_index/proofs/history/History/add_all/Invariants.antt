use Rattle.std.proofs.Common.{◌≡◌, ◌++◌, take}
use Rattle.published_index.proofs.history.History.add_all.Given as goal

abbrev pub invariant-loop-place : goal.invariant-loop-place
invariant-loop-place l = l.self.log ≡ l.initial.self.log ++ take l.place l.segment.span.batches
