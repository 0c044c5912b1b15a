use Rattle.std.proofs.Common.{◌≡◌, ◌+◌, ℕ, List, length, take, sum_by, ap, ◌∙◌, arith, length-append}
use Rattle.explorer_model.specs.StoreFile.{texts_field}
use Rattle.ingest_desk.proofs.RecountLemmas.{payload_sum}
use Rattle.ingest_desk.proofs.counting.payload_size.Goals as goal

pub returns : goal.returns
returns c =
    let l = c.loop-text in
    let items = c.as_slice-text-items.result.now in
    let batch = c.args.batch.now in
    let same : items ≡ batch.texts = c.as_slice-text-items.ensures in
    let all : l.text-index ≡ length batch.texts =
    omega (arith, l.auto.text-index-end, c.loop-text-test.false, ap length same) in
    let sum = ap (λ ts. sum_by (λ (text : List ℕ). 4 + length text) (take l.text-index ts)) same in
    let label = ap length (c.as_bytes-label.ensures.value ∙ c.as_str.ensures.text) in
    omega (arith, l.invariant.sum, sum, label, payload_sum batch.texts l.text-index all, length-append batch.label (texts_field batch.texts))
