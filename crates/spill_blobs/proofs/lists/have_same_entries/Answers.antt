use Rattle.std.proofs.Common.{sym, ◌∙◌}
use Rattle.best_lists.proofs.Entries.{same_entries-Decides}
use Rattle.spill_blobs.proofs.lists.have_same_entries.Goals as goal

pub returns : goal.returns
returns c = ((λ e. (same_entries-Decides c.args.a.now c.args.b.now).0 (sym c.eq.ensures ∙ e)), (λ e. c.eq.ensures ∙ (same_entries-Decides c.args.a.now c.args.b.now).1 e))
