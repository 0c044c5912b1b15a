use Rattle.std.proofs.Common.{◌≡◌, take}
use Rattle.explorer_model.specs.Best.{best}
use Rattle.spill_blobs.proofs.lists.best_of.Given as goal

abbrev pub invariant-loop-entry : goal.invariant-loop-entry
invariant-loop-entry g l = l.list ≡ best g.O.Ranking.before 4 (take l.entry-index l.entries)
