use Rattle.std.proofs.Common.{List, refl, ap, ◌∙◌}
use Rattle.explorer_model.specs.declared.fault.Refusal.{Refusal}
use Rattle.import_run.specs.Grouping.{merged}
use Rattle.import_run.proofs.MergeLemmas.{is_tallied}
use Rattle.import_run.proofs.VerdictLemmas.{hand_made}
use Rattle.import_run.proofs.text_group.TextGroup.tally.Goals as goal

pub returns-clause-tallied : goal.returns-clause-tallied
returns-clause-tallied g c = λ cuts ascend holds. is_tallied cuts c.args.self c.in_ok-tallying.tallying _ ascend holds c.in_ok-tallying.ensures
    (c.in_ok-refused.ensures
    ∙ ap (λ (l : List Refusal). merged l c.as_slice-2.result.now) c.as_slice.ensures.value
    ∙ ap (λ (l : List Refusal). merged c.in_ok-tallying.tallying.refused.items l) c.as_slice-2.ensures.value) c.with_label.ensures refl

pub returns-clause-hand : goal.returns-clause-hand
returns-clause-hand g c = hand_made c.args.self.label c.args.self.texts.items c.in_ok-tallying.tallying _ c.in_ok-tallying.ensures c.with_label.ensures
