use Rattle.std.proofs.Common.{List, ap, refl, sym, subst, ◌∙◌}
use Rattle.std.specs.List.{AllZip}
use Rattle.import_run.specs.declared.text_group.TextGroup.{TextGroup}
use Rattle.import_run.specs.Grouping.{IsGroupOf}
use Rattle.import_run.proofs.AheadLemmas.{given_on}
use Rattle.import_run.proofs.ahead.Ahead.take_whole.Goals as goal

pub returns-clause-holds : goal.returns-clause-holds
returns-clause-holds c = λ before now given h.
    let on = given_on before now given c.args.self.now _ refl refl refl refl (ap (λ v. v.items) c.replace.ensures.after ∙ c.new.ensures.items) h in
    (on.whole, subst (λ (l : List TextGroup). AllZip IsGroupOf on.whole l) (ap (λ v. v.items) (sym c.replace.ensures.value)) on.held, on.holds)
