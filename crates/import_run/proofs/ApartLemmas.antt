-- Groups that are counted one after another.
use Rattle.std.proofs.Common.{◌≡◌, List, [], ◌∷◌, ◌++◌, sym, ap, subst, ◌∙◌, append_assoc}
use Rattle.std.specs.List.{AllZip}
use Rattle.std.proofs.lemmas.List.{append-nil}
use Rattle.import_run.specs.declared.text_group.TalliedGroup.{TalliedGroup}
use Rattle.import_run.specs.declared.text_group.TextGroup.{TextGroup}
use Rattle.import_run.specs.Apart.{IsTalliedGroup}

-- what is made of the groups so far, behind which what is left follows
abbrev pub CountsOn : List TextGroup → List TextGroup → List TalliedGroup → Type 0
CountsOn groups left tallied = (others : List TalliedGroup) → AllZip IsTalliedGroup left others → AllZip IsTalliedGroup groups (tallied ++ others)

pub counts_first : (groups left : List TextGroup) (tallied : List TalliedGroup) → left ≡ groups → tallied ≡ [] → CountsOn groups left tallied
counts_first groups left tallied same none = λ others each.
    subst (λ (l : List TalliedGroup). AllZip IsTalliedGroup groups (l ++ others)) (sym none)
    (subst (λ (l : List TextGroup). AllZip IsTalliedGroup l others) same each)

pub counts_next : (groups left left' : List TextGroup) (group : TextGroup) (tallied tallied' : List TalliedGroup) (one : TalliedGroup) → left ≡ group ∷ left' → tallied' ≡ tallied ++ one ∷ [] → IsTalliedGroup group one
    → CountsOn groups left tallied → CountsOn groups left' tallied'
counts_next groups left left' group tallied tallied' one first more is made = λ others each.
    subst (λ (l : List TalliedGroup). AllZip IsTalliedGroup groups l) (sym (ap (λ (l : List TalliedGroup). l ++ others) more ∙ append_assoc tallied (one ∷ []) others))
    (made (one ∷ others) (subst (λ (l : List TextGroup). AllZip IsTalliedGroup l (one ∷ others)) (sym first) (is, each)))

pub counts_all : (groups left : List TextGroup) (tallied : List TalliedGroup) → left ≡ [] → CountsOn groups left tallied → AllZip IsTalliedGroup groups tallied
counts_all groups left tallied none made =
    subst (λ (l : List TalliedGroup). AllZip IsTalliedGroup groups l) (append-nil tallied) (made [] (subst (λ (l : List TextGroup). AllZip IsTalliedGroup l []) (sym none) tt))
