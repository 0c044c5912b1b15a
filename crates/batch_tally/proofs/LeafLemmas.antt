-- What leaves make, and what a call answers.
use Rattle.std.proofs.Common.{◌≡◌, ◌<◌, ℕ, suc, Ok, Result, IfOk, List, [], ◌∷◌, map, length, get_or, sym, ap, ◌∙◌, subst, arith}
use Rattle.std.specs.declared.alloc.AllocError.{AllocError}
use Rattle.std.specs.List.{AllZip}
use Rattle.std.proofs.lemmas.List.{length-map}

abbrev pub ok_part : {V : Type 0} → V → Result V AllocError
ok_part part = Ok part

-- ---- what holds of each result holds of each part

each-made : {L V : Type 0} (P : L → V → Type 0) (leaves : List L) (made : List V) → length made ≡ length leaves
    → ((n : ℕ) (d : Result V AllocError) (l : L) → n < length leaves → IfOk (get_or (map ok_part made) n d) (P (get_or leaves n l)))
    → AllZip P leaves made
each-made P [] [] long each = tt
each-made P [] (m ∷ made) long each = absurd (omega (arith, long))
each-made P (l ∷ leaves) [] long each = absurd (omega (arith, long))
each-made P (l ∷ leaves) (m ∷ made) long each = (
  each 0 (ok_part m) l (omega arith),
  each-made P leaves made (omega (arith, long)) (λ n d k below. each (suc n) d k (omega (arith, below))),
)

pub made-each : {L V : Type 0} (P : L → V → Type 0) (leaves : List L) (results : List (Result V AllocError)) (made : List V)
    → map ok_part made ≡ results → length results ≡ length leaves
    → ((n : ℕ) (d : Result V AllocError) (l : L) → n < length leaves → IfOk (get_or results n d) (P (get_or leaves n l)))
    → AllZip P leaves made
made-each {L} {V} P leaves results made ok count each =
    each-made P leaves made (sym (length-map made ok_part) ∙ ap length ok ∙ count)
    (λ n d l below.
    subst (λ (rs : List (Result V AllocError)). IfOk (get_or rs n d) (P (get_or leaves n l))) (sym ok) (each n d l below))

-- ---- a call's answer
