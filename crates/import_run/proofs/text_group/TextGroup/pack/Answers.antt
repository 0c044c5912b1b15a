use Rattle.std.proofs.Common.{subst, sym}
use Rattle.std.proofs.lemmas.Result.{IfOk-weaker}
use Rattle.import_run.specs.Apart.{IsTalliedGroup}
use Rattle.import_run.specs.declared.text_group.TalliedGroup.{TalliedGroup}
use Rattle.import_run.proofs.text_group.TextGroup.pack.Goals as goal

pub returns : goal.returns
returns g c = IfOk-weaker c.pack.result _ _
    (λ same is. subst (λ (tallied : TalliedGroup). IsTalliedGroup c.args.self tallied) (sym is) (record { hand = c.in_ok-tally.ensures.hand; counts = c.in_ok-tally.ensures.tallied }))
    c.pack.ensures
