use Rattle.std.proofs.Common.{◌≡◌, ◌+◌, ◌-◌, ◌≤◌, ◌++◌, length, drop}
use Rattle.import_run.specs.Grouping.{merged}
use Rattle.import_run.proofs.text_group.merge.Given as goal

abbrev pub invariant-merging : goal.invariant-merging
invariant-merging l = record {
  within : l.at ≤ length l.texts;
  next_within : l.next ≤ length l.unread;
  so_far : l.all.items ++ merged (drop l.at l.texts) (drop l.next l.unread) ≡ merged l.texts l.unread;
}

abbrev pub decreases-merging : goal.decreases-merging
decreases-merging l = (length l.texts - l.at) + (length l.unread - l.next)
