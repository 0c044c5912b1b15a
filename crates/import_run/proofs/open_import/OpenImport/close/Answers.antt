use Rattle.std.proofs.Common.{◌∷◌, [], ◌∙◌, ℕ, List, ap, refl, subst, sym, arith}
use Rattle.import_run.specs.Grouping.{IsGroupOf, IsTallied}
use Rattle.import_run.specs.declared.text_group.TextGroup.{TextGroup}
use Rattle.import_run.proofs.CloseLemmas.{lacks_behind, notes_same}
use Rattle.import_run.proofs.HandLemmas.{lacks_still}
use Rattle.import_run.proofs.SettledLemmas.{same_settled}
use Rattle.import_run.proofs.TakingLemmas.{by_lacking}
use Rattle.import_run.proofs.DrawLemmas.{draws-within}
use Rattle.import_run.proofs.open_import.OpenImport.close.Goals as goal

pub returns-in_err-tallied-clause-settles : goal.returns-in_err-tallied-clause-settles
returns-in_err-tallied-clause-settles g c =
    let told = g.C.Committer.told c.args.committer.now in
    λ start closed hand ascend holds s.
    by_lacking c.from_residual.result _ _ c.from_residual.ensures.1
    (lacks_behind start closed c.args.self.now _ refl refl (ap (λ (group : TextGroup). group.label) c.replace-group.ensures.after ∙ c.new-next.ensures.label ∙ c.copy.ensures) (notes_same _ _ refl) told told hand s
    (λ known is. lacks_still c.args.self.now.group.label known (hand ∷ []) told is))

pub returns-clause-settles : goal.returns-clause-settles
returns-clause-settles g c =
    let told = g.C.Committer.told c.args.committer.now in
    let label = ap (λ (group : TextGroup). group.label) c.replace-group.ensures.after ∙ c.new-next.ensures.label ∙ c.copy.ensures in
    let same = ap (λ (group : TextGroup). group.label) c.replace-group.ensures.value in
    λ start closed hand ascend holds s.
    c.settle_tallied.ensures.settles start closed hand ascend
    (subst (λ (l : List ℕ). IsTallied l hand c.in_ok-tallied.tallied) (same ∙ sym label) (c.in_ok-tallied.ensures.tallied hand ascend (subst (λ group. IsGroupOf hand group) (sym c.replace-group.ensures.value) holds)))
    (same_settled start closed c.args.self.now _ told label refl refl refl s)

pub returns-in_err-tallied-clause-drawn : goal.returns-in_err-tallied-clause-drawn
returns-in_err-tallied-clause-drawn g c = λ before h. draws-within 0 _ _ before _ (omega arith) h
