-- What a pass knows that learns notes from the last to the first.
use Rattle.std.proofs.Common.{◌≡◌, List, [], ◌∷◌, ◌++◌, sym, ◌∙◌, ap, append_assoc, append-nil}
use Rattle.std.specs.List.{AllByRecursion}
use Rattle.explorer_model.specs.declared.archive.Batch.{Batch}
use Rattle.explorer_model.specs.Timeline.{IsPrefix}
use Rattle.explorer_model.proofs.Timelines.{prefix-trans}

-- what is not left to learn is known
pub record Knows {A : Type 0} (note : A → List Batch) (all rest : List A) (seen : List Batch)
    : Type 0 where
  pub learnt : List A
  pub all_are : all ≡ rest ++ learnt
  pub known : AllByRecursion (λ x. IsPrefix (note x) seen) learnt

pub known-grows : {A : Type 0} (note : A → List Batch) (xs : List A) (old new : List Batch)
    → IsPrefix old new → AllByRecursion (λ x. IsPrefix (note x) old) xs
    → AllByRecursion (λ x. IsPrefix (note x) new) xs
known-grows note [] old new p h = tt
known-grows note (x ∷ xs) old new p h =
    (prefix-trans (note x) old new h.0 p, known-grows note xs old new p h.1)

pub knows-none : {A : Type 0} (note : A → List Batch) (all : List A) (seen : List Batch)
    → Knows note all all seen
knows-none note all seen = record { learnt = []; all_are = sym (append-nil all); known = tt }

pub knows-more : {A : Type 0} (note : A → List Batch) (all rest less : List A) (x : A)
    (old new : List Batch) → rest ≡ less ++ x ∷ [] → IsPrefix old new → IsPrefix (note x) new
    → Knows note all rest old → Knows note all less new
knows-more note all rest less x old new e p q k = record {
  learnt = x ∷ k.learnt;
  all_are = k.all_are ∙ (ap (λ l. l ++ k.learnt) e ∙ append_assoc less (x ∷ []) k.learnt);
  known = (q, known-grows note k.learnt old new p k.known);
}

pub knows-all : {A : Type 0} (note : A → List Batch) (all rest : List A) (seen : List Batch)
    → rest ≡ [] → Knows note all rest seen → AllByRecursion (λ x. IsPrefix (note x) seen) all
knows-all note all rest seen e k = rw (k.all_are ∙ ap (λ l. l ++ k.learnt) e) k.known
