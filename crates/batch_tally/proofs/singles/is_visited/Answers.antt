use Rattle.std.proofs.Common.{ℕ, false, get_or, ap, sym, ◌∙◌}
use Rattle.batch_tally.proofs.MarkLemmas.{not_visited}
use Rattle.batch_tally.proofs.singles.is_visited.Goals as goal

pub returns-then-not-marks-mark_of : goal.returns-then-not-marks-mark_of
returns-then-not-marks-mark_of c =
    sym (not_visited c.args.marks.now c.args.sought.now
    (ap (λ (n : ℕ). get_or c.args.marks.now n false) (sym c.mark_of.ensures.value) ∙ c.if-not-marks-mark_of.true) c.args.steps.now c.requires)
