use Rattle.std.proofs.Common.{sym, ap, subst, ◌∙◌}
use Rattle.player_index.specs.Entries.{entries_in}
use Rattle.player_index.specs.Index.{AreClassesOf}
use Rattle.player_index.proofs.Covering.{one-classes}
use Rattle.player_index.proofs.laws.entries_are_determined.Goals as goal

pub returns-clause-classes : goal.returns-clause-classes
returns-clause-classes c = λ journal classes others. one-classes c.game_is_determined.ensures journal classes others

pub returns-clause-entries : goal.returns-clause-entries
returns-clause-entries c = λ index other first second same.
    let covered = subst (λ journal. AreClassesOf journal first.classes) same first.are_classes in
    first.in_order
    ∙ ap entries_in (one-classes c.game_is_determined.ensures other.batches first.classes second.classes covered second.are_classes)
    ∙ sym second.in_order
