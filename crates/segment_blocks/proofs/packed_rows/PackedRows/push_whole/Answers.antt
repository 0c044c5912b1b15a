use Rattle.std.proofs.Common.{◌≡◌, suc, ◌-◌, ◌<◌, List, ◌++◌, ◌∷◌, [], length, sym, ap, ◌∙◌, arith}
use Rattle.std.proofs.lemmas.List.{get_or_default}
use Rattle.std.proofs.lemmas.Result.{on_ok_weaker}
use Rattle.tally_rows.specs.declared.row.Row.{Row}
use Rattle.segment_blocks.specs.Walk.{rows_in}
use Rattle.segment_blocks.specs.PackedRows.{Packed, AreInOrder}
use Rattle.segment_blocks.proofs.PackedLemmas.{pushed_or_not, ArePacked-after, rows_in-after}
use Rattle.segment_blocks.proofs.packed_rows.PackedRows.push_whole.Goals as goal

pub invariant_of-self : goal.invariant_of-self
invariant_of-self c =
    let blocks : List (List Row) = c.self.inside.blocks.items in
    let row = c.args.row in
    let n = length c.as_slice-count.result.now - 1 in
    let e : suc n ≡ length blocks = omega (arith, ap length c.as_slice-count.ensures.value, c.if-count-gt0.true) in
    let ordered : AreInOrder (rows_in blocks ++ row ∷ []) = rw (ap (λ (p : Packed). p.rows) c.self.view_is) c.requires.in_order in
    let same : c.index_mut.result.now ≡ c.index.result.now =
    c.index_mut.ensures.value ∙ get_or_default blocks n c.index_mut.result.now c.index.result.now (omega (arith, e)) ∙ sym c.index.ensures in
    let room : length c.index_mut.result.now < 128 = omega (arith, ap length same, c.len.ensures.len, c.if-len-lt-BLOCK_LIMIT.true) in
    ArePacked-after blocks row n e c.index_mut.result.now c.push_whole.new.self c.index_mut.ensures.value c.self.invariant ordered room
    (pushed_or_not c.push_whole.result c.index_mut.result.now c.push_whole.new.self row c.push_whole.ensures.ok c.push_whole.ensures.err)

pub returns-then-len-lt-BLOCK_LIMIT-clause-ok : goal.returns-then-len-lt-BLOCK_LIMIT-clause-ok
returns-then-len-lt-BLOCK_LIMIT-clause-ok c =
    let blocks : List (List Row) = c.self.inside.blocks.items in
    let row = c.args.row in
    let n = length c.as_slice-count.result.now - 1 in
    let e : suc n ≡ length blocks = omega (arith, ap length c.as_slice-count.ensures.value, c.if-count-gt0.true) in
    on_ok_weaker c.push_whole.result (λ pushed. rows_in-after blocks row n e c.index_mut.result.now c.push_whole.new.self c.index_mut.ensures.value pushed
    ∙ ap (λ (p : Packed). p.rows ++ row ∷ []) c.self.view_is) c.push_whole.ensures.ok
