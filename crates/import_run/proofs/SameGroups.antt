-- Cuts stand in one way in whole groups and a group in hand.
use Rattle.std.proofs.Common.{◌≡◌, ◌+◌, ◌<◌, List, [], ◌∷◌, ◌++◌, refl, sym, ap, subst, ◌∙◌, append_assoc, arith}
use Rattle.std.specs.List.{AllByRecursion}
use Rattle.explorer_model.specs.declared.archive.Placed.{Placed}
use Rattle.explorer_model.specs.Cuts.{Cut, Text}
use Rattle.import_run.specs.SoFar.{AreInGroups, IsWhole}
use Rattle.import_run.proofs.GroupLemmas.{all_cuts, texts_in, texts-append, texts-cons, texts_whole}

same_front : (front other : List Cut) (text text' : Placed) (rest rest' : List Cut) → texts_in front ≡ texts_in other → front ++ Text text ∷ rest ≡ other ++ Text text' ∷ rest'
    → (front ++ Text text ∷ [] ≡ other ++ Text text' ∷ []) × (rest ≡ rest')
same_front [] [] text text' rest rest' texts all = (cc, cc)
same_front [] (cut ∷ other) text text' rest rest' texts all = absurd (let first : cut ≡ Text text = cc in omega (arith, texts, texts-cons cut other, subst (λ (c : Cut). texts_in (c ∷ other) ≡ 1 + texts_in other) (sym first) (texts-cons (Text text) other)))
same_front (cut ∷ front) [] text text' rest rest' texts all = absurd (let first : cut ≡ Text text' = cc in omega (arith, texts, texts-cons cut front, subst (λ (c : Cut). texts_in (c ∷ front) ≡ 1 + texts_in front) (sym first) (texts-cons (Text text') front)))
same_front (cut ∷ front) (first ∷ other) text text' rest rest' texts all =
    let head : cut ≡ first = cc in
    let tail : front ++ Text text ∷ rest ≡ other ++ Text text' ∷ rest' = cc in
    let same = ap (λ (c : Cut). texts_in (c ∷ front)) head in
    let fewer : texts_in front ≡ texts_in other = omega (arith, texts, same, texts-cons first front, texts-cons first other) in
    let later = same_front front other text text' rest rest' fewer tail in
    (ap (λ (c : Cut). c ∷ (front ++ Text text ∷ [])) head ∙ ap (λ (l : List Cut). first ∷ l) later.0, later.1)

pub same_group : (group other rest rest' : List Cut) → IsWhole group → IsWhole other → group ++ rest ≡ other ++ rest' → (group ≡ other) × (rest ≡ rest')
same_group group other rest rest' whole whole' all =
    let one = ap (λ (l : List Cut). l ++ rest) whole.ends ∙ append_assoc whole.front (Text whole.text ∷ []) rest in
    let two = ap (λ (l : List Cut). l ++ rest') whole'.ends ∙ append_assoc whole'.front (Text whole'.text ∷ []) rest' in
    let both = same_front whole.front whole'.front whole.text whole'.text rest rest' (whole.texts ∙ sym whole'.texts) (sym one ∙ all ∙ two) in
    (whole.ends ∙ both.0 ∙ sym whole'.ends, both.1)

-- cuts that begin with a whole group are no group in hand
pub no_hand : (group rest hand : List Cut) → IsWhole group → group ++ rest ≡ hand → texts_in hand < 512 → ⊥
no_hand group rest hand whole all few =
    let texts = ap texts_in all in
    omega (arith, texts, texts-append group rest, texts_whole group whole, few)

pub same_groups : (ended : List Cut) (whole others : List (List Cut)) (hand other : List Cut) → AreInGroups ended whole hand → AreInGroups ended others other → (whole ≡ others) × (hand ≡ other)
same_groups ended whole others hand other first second = by_lists whole others (sym first.all ∙ second.all) first.each second.each
  where
    by_lists : (whole others : List (List Cut)) → all_cuts whole ++ hand ≡ all_cuts others ++ other → AllByRecursion IsWhole whole → AllByRecursion IsWhole others → (whole ≡ others) × (hand ≡ other)
    by_lists [] [] all each each' = (refl, all)
    by_lists [] (group ∷ others) all each each' = absurd (no_hand group (all_cuts others ++ other) hand each'.0 (sym (append_assoc group (all_cuts others) other) ∙ sym all) first.few)
    by_lists (group ∷ whole) [] all each each' = absurd (no_hand group (all_cuts whole ++ hand) other each.0 (sym (append_assoc group (all_cuts whole) hand) ∙ all) second.few)
    by_lists (group ∷ whole) (next ∷ others) all each each' =
        let both = same_group group next (all_cuts whole ++ hand) (all_cuts others ++ other) each.0 each'.0 (sym (append_assoc group (all_cuts whole) hand) ∙ all ∙ append_assoc next (all_cuts others) other) in
        let later = by_lists whole others both.1 each.1 each'.1 in
        (ap (λ (g : List Cut). g ∷ whole) both.0 ∙ ap (λ (l : List (List Cut)). next ∷ l) later.0, later.1)
