-- Rows in parts, one after another.
use Rattle.std.proofs.Common.{◌≡◌, ℕ, ◌+◌, ◌<◌, [], ◌∷◌, ◌++◌, List, take, drop, length, get_or, sym, ap, ◌∙◌, append_assoc}
use Rattle.std.specs.List.{flat_map}
use Rattle.std.proofs.lemmas.Grind.{flat_map-append}
use Rattle.std.proofs.lemmas.List.{append-nil, drop_more, take-append-drop}
use Rattle.std.proofs.Math.Seq.{take-suc}
use Rattle.std.proofs.Math.Numerals.{suc-eq-add-one}
use Rattle.tally_rows.specs.declared.row.Row.{Row}

-- the rows are those of the parts before a place, of the part there, and of those behind it
pub parts_from : {V : Type 0} (items : V → List Row) (parts : List V) (i : ℕ) (part : V) → i < length parts → get_or parts i part ≡ part
    → flat_map items parts ≡ (flat_map items (take i parts) ++ items part) ++ flat_map items (drop (i + 1) parts)
parts_from items parts i part below is =
    ap (λ l. flat_map items l) (sym (take-append-drop i parts))
    ∙ flat_map-append items (take i parts) (drop i parts)
    ∙ ap (λ l. flat_map items (take i parts) ++ flat_map items l) (drop_more parts i part below ∙ ap (λ p. p ∷ drop (i + 1) parts) is)
    ∙ sym (append_assoc (flat_map items (take i parts)) (items part) (flat_map items (drop (i + 1) parts)))

pub parts_more : {V : Type 0} (items : V → List Row) (parts : List V) (i : ℕ) (part : V) → i < length parts → get_or parts i part ≡ part
    → flat_map items (take i parts) ++ items part ≡ flat_map items (take (i + 1) parts)
parts_more items parts i part below is =
    ap (λ l. flat_map items (take i parts) ++ l) (sym (append-nil (items part)))
    ∙ sym (flat_map-append items (take i parts) (part ∷ []))
    ∙ ap (λ p. flat_map items (take i parts ++ p ∷ [])) (sym is)
    ∙ sym (ap (λ l. flat_map items l) (take-suc parts i part below))
    ∙ ap (λ n. flat_map items (take n parts)) (suc-eq-add-one i)
