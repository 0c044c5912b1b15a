use Rattle.std.proofs.Common.{◌≡◌, ◌<◌, List, [], length, get_or, sym, ap, subst, ◌∙◌, arith}
use Rattle.std.proofs.lemmas.List.{get_or_default}
use Rattle.tally_rows.specs.declared.row.Row.{Row}
use Rattle.segment_blocks.specs.Encoded.{key_first}
use Rattle.segment_blocks.specs.PackedRows.{Packed, IsFirstKey}
use Rattle.segment_blocks.specs.Walk.{rows_in}
use Rattle.segment_blocks.proofs.PackedLemmas.{first_key-in}
use Rattle.segment_blocks.proofs.packed_rows.PackedRows.first_key.Goals as goal

pub returns-then-n-blocks-clause-key : goal.returns-then-n-blocks-clause-key
returns-then-n-blocks-clause-key g c =
    let blocks : List (List Row) = c.self.inside.blocks.items in
    let n = c.args.n in
    let block = c.index-blocks-n.result in
    let inside : n < length blocks = omega (arith, ap length c.as_slice-blocks.ensures.value, c.if-n-blocks.true) in
    let is : block ≡ get_or blocks n block = c.index-blocks-n.is ∙ ap (λ bs. get_or bs n block) c.as_slice-blocks.ensures.value in
    let key : key_first [] (get_or blocks n []) ≡ c.first.result.now =
    ap (key_first []) (get_or_default blocks n [] block inside ∙ sym is) ∙ sym (c.first.ensures []) in
    subst (λ (p : Packed). IsFirstKey p.rows p.blocks n c.first.result.now) c.self.view_is
    (subst (IsFirstKey (rows_in blocks) (length blocks) n) key (first_key-in blocks n c.self.invariant.some inside))
