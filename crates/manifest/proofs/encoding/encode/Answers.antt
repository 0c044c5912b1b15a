use Rattle.std.proofs.Common.{List, ℕ, length, sum_by, ap, ◌∙◌, arith}
use Rattle.explorer_model.specs.StoreFile.{texts_field}
use Rattle.explorer_model.proofs.LabelLemmas.{label-short}
use Rattle.manifest.proofs.PayloadLemmas.{texts-fit, length-texts}
use Rattle.manifest.proofs.encoding.encode.Goals as goal

pub size_of_texts-requires-clause-short : goal.size_of_texts-requires-clause-short
size_of_texts-requires-clause-short c =
    let same = ap (sum_by (λ (text : List ℕ). length text)) c.as_slice-texts.ensures in
    omega (arith, texts-fit c.args.batch.now c.requires, same)

pub overflow_add-label-2 : goal.overflow_add-label-2
overflow_add-label-2 c =
    let batch = c.args.batch.now in
    let texts = ap (λ (ts : List (List ℕ)). length (texts_field ts)) c.as_slice-texts.ensures in
    let label = ap length (c.as_bytes-label.ensures.value ∙ c.as_str.ensures.text) in
    omega (arith, c.size_of_texts.ensures, texts, label, label-short batch.label c.requires.label, length-texts batch.texts, texts-fit batch c.requires, c.requires.texts.1)
