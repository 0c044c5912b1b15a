use Rattle.std.proofs.Common.{◌≡◌, take}
use Rattle.published_index.specs.Cover.{journal_of}
use Rattle.published_index.proofs.history.History.of.Given as goal

abbrev pub invariant-loop-segment : goal.invariant-loop-segment
invariant-loop-segment l = l.history.log ≡ journal_of (take l.segment-index l.list)
