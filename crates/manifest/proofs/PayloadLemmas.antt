-- The sizes of payloads.
use Rattle.std.proofs.Common.{◌≡◌, ℕ, ◌+◌, ◌*◌, ◌≤◌, List, [], ◌∷◌, length, sum_by, flat_map, refl, arith, length-append}
use Rattle.std.specs.Int.{IsInRange}
use Rattle.std.specs.List.{AllByRecursion}
use Rattle.std.proofs.lemmas.List.Elements.{recursion_from_All}
use Rattle.std.proofs.lemmas.List.Sums.{sum_by-cons}
use Rattle.explorer_model.specs.declared.archive.Batch.{Batch}
use Rattle.explorer_model.specs.Cuts.{text_limit}
use Rattle.explorer_model.specs.StoreFile.{text_field, texts_field, payload_of, payload_limit, IsStorable}
use Rattle.explorer_model.proofs.LabelLemmas.{label-short}

abbrev HasTextLength : List ℕ → Type 0
HasTextLength text = IsInRange 1 text_limit (length text)

abbrev size_of : List ℕ → ℕ
size_of text = length text

pub length-texts : (texts : List (List ℕ)) → length (flat_map text_field texts) ≡ 4 * length texts + sum_by (λ (text : List ℕ). length text) texts
length-texts [] = refl
length-texts (text ∷ texts) =
    omega (arith, length-append text (flat_map text_field texts), length-texts texts, sum_by-cons size_of text texts)

few-bytes : (texts : List (List ℕ)) → AllByRecursion HasTextLength texts → sum_by (λ (text : List ℕ). length text) texts ≤ length texts * 65536
few-bytes [] fit = omega arith
few-bytes (text ∷ texts) fit = omega (arith, few-bytes texts fit.1, fit.0.1, sum_by-cons size_of text texts)

-- a batch has up to 512 texts of up to 65,536 bytes
pub texts-fit : (batch : Batch) → IsStorable batch → sum_by (λ (text : List ℕ). length text) batch.texts ≤ 33554432
texts-fit batch fits =
    let few = few-bytes batch.texts (recursion_from_All HasTextLength batch.texts fits.lengths) in
    omega (arith, few, fits.texts.1)

pub payload-fits : (batch : Batch) → IsStorable batch → IsInRange 1 payload_limit (length (payload_of batch))
payload-fits batch fits =
    let size = length-texts batch.texts in
    let most = texts-fit batch fits in
    let whole = length-append batch.label (texts_field batch.texts) in
    (omega arith, omega (arith, size, most, fits.texts.1, whole, label-short batch.label fits.label))
