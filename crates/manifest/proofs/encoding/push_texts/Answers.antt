use Rattle.std.proofs.Common.{◌≡◌, ◌++◌, length, take, flat_map, ap, ◌∙◌, arith, append_assoc}
use Rattle.std.proofs.Math.Seq.{take-length}
use Rattle.explorer_model.specs.StoreFile.{text_field}
use Rattle.manifest.proofs.encoding.push_texts.Goals as goal

pub returns : goal.returns
returns c =
    let l = c.loop-text in
    let texts = c.args.texts.now in
    let all : l.text-index ≡ length texts = omega (arith, l.auto.text-index-end, c.loop-text-test.false) in
    let whole : take l.text-index texts ≡ texts = ap (λ k. take k texts) all ∙ take-length texts in
    l.invariant ∙ ap (λ ts. c.extend_from_slice.new.self.items ++ flat_map text_field ts) whole
    ∙ ap (λ front. front ++ flat_map text_field texts) c.in_ok-extend_from_slice.ensures.items
    ∙ append_assoc c.args.payload.now.items _ (flat_map text_field texts)
    ∙ ap (λ count. c.args.payload.now.items ++ (count ++ flat_map text_field texts)) c.write_u16.ensures
