-- Jobs, and what stands in the slots of their numbers.
use Rattle.std.proofs.Common.{◌≡◌, ◌<◌, ℕ, List, [], ◌∷◌, ◌++◌, length, get_or, map, replicate, Option, Some, None, IfSome, drop, sym, ap, ◌∙◌, subst, arith}
use Rattle.std.proofs.lemmas.List.{append_assoc, get_or-map, length-drop, length-map, map_push}
use Rattle.std.proofs.lemmas.List.Elements.{recursion_from_All}
use Rattle.std.specs.List.{All}
use Rattle.side_by_side.specs.Each.{IsJob}
use Rattle.side_by_side.specs.Taking.{put_all}
use Rattle.side_by_side.proofs.SlotLemmas.{Stands, all-stand, put_all-length, slot-is, slots-count}

-- the first job that is left has the number of those before it
pub next-job : {J : Type 0} (jobs left rest : List J) (job : J) (n : ℕ) → left ≡ drop n jobs → left ≡ job ∷ rest → IsJob jobs n job
next-job jobs left rest job n at first =
    (omega (arith, sym (length-drop n jobs) ∙ ap length (sym at ∙ first)), λ d. slot-is n jobs left rest job d at first)

-- one slot more had something in it
pub one-more : {X : Type 0} (slots left rest : List (Option X)) (made next : List X) (x : X) → slots ≡ map Some made ++ left
    → left ≡ Some x ∷ rest → next ≡ made ++ x ∷ [] → slots ≡ map Some next ++ rest
one-more slots left rest made next x are first pushed =
    are ∙ ap (λ l. map Some made ++ l) first ∙ sym (append_assoc (map Some made) (Some x ∷ []) rest)
    ∙ ap (λ l. l ++ rest) (sym (map_push Some made x) ∙ ap (map Some) (sym pushed))

-- what holds of each slot holds of what was taken out of it
pub each-stands : {X : Type 0} (P : ℕ × X → Type 0) (slots : List (Option X)) (made : List X) → slots ≡ map Some made → Stands P slots
    → (i : ℕ) (d : X) → i < length made → P (i, get_or made i d)
each-stands {X} P slots made are stands i d below =
    subst (λ (s : Option X). IfSome s (λ x. P (i, x))) (ap (λ l. get_or l i None) are ∙ get_or-map Some made i d None below) (stands i)

-- and there is as much of it as there are slots
pub stand-count : {X : Type 0} (slots next : List (Option X)) (made : List X) (count : ℕ) (given left : List (ℕ × X))
    → slots ≡ put_all (replicate count None) given → next ≡ put_all slots left → next ≡ map Some made → length made ≡ count
stand-count slots next made count given left are put all =
    sym (length-map made Some) ∙ ap length (sym all ∙ put) ∙ put_all-length slots left ∙ slots-count slots count given are

-- what was left is put beside the rest
pub left-stands : {X : Type 0} (P : ℕ × X → Type 0) (slots next : List (Option X)) (left : List (ℕ × X)) → next ≡ put_all slots left
    → All P left → Stands P slots → Stands P next
left-stands {X} P slots next left put each stands =
    subst (λ (l : List (Option X)). Stands P l) (sym put) (all-stand P slots left (recursion_from_All P left each) stands)
