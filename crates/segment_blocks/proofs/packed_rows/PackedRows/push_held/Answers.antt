use Rattle.std.proofs.Common.{◌≡◌, suc, ◌-◌, ◌<◌, List, ◌++◌, ◌∷◌, [], length, set, sym, ap, subst, ◌∙◌, arith}
use Rattle.std.proofs.lemmas.List.{set-get_or, get_or_default}
use Rattle.tally_rows.specs.declared.row.Row.{Row}
use Rattle.std.proofs.lemmas.Result.{on_ok_weaker}
use Rattle.segment_blocks.specs.HeldRow.{row_in}
use Rattle.segment_blocks.specs.Walk.{rows_in}
use Rattle.segment_blocks.specs.PackedRows.{Packed, AreInOrder, ArePacked}
use Rattle.segment_blocks.proofs.PackedLemmas.{pushed_or_not, ArePacked-after, ArePacked-push, rows_in-after}
use Rattle.segment_blocks.proofs.packed_rows.PackedRows.push_held.Goals as goal

pub invariant_of-self-then-len-lt-BLOCK_LIMIT : goal.invariant_of-self-then-len-lt-BLOCK_LIMIT
invariant_of-self-then-len-lt-BLOCK_LIMIT c =
    let blocks : List (List Row) = c.self.inside.blocks.items in
    let n = length c.as_slice-count.result.now - 1 in
    let e : suc n ≡ length blocks = omega (arith, ap length c.as_slice-count.ensures.value, c.if-count-eq0.false) in
    let ordered : AreInOrder (rows_in blocks ++ (row_in c.args.held.now) ∷ []) =
    rw (ap (λ (p : Packed). p.rows) c.self.view_is) c.requires.in_order in
    let same : c.index_mut.result.now ≡ c.index.result.now =
    c.index_mut.ensures.value ∙ get_or_default blocks n c.index_mut.result.now c.index.result.now (omega (arith, e)) ∙ sym c.index.ensures in
    let room : length c.index_mut.result.now < 128 = omega (arith, ap length same, c.len.ensures.len, c.if-len-lt-BLOCK_LIMIT.true) in
    ArePacked-after blocks (row_in c.args.held.now) n e c.index_mut.result.now c.push-then-len-lt-BLOCK_LIMIT.new.self c.index_mut.ensures.value c.self.invariant ordered room
    (pushed_or_not c.push-then-len-lt-BLOCK_LIMIT.result c.index_mut.result.now c.push-then-len-lt-BLOCK_LIMIT.new.self (row_in c.args.held.now) c.push-then-len-lt-BLOCK_LIMIT.ensures.ok c.push-then-len-lt-BLOCK_LIMIT.ensures.err)

pub returns-then-len-lt-BLOCK_LIMIT-clause-ok : goal.returns-then-len-lt-BLOCK_LIMIT-clause-ok
returns-then-len-lt-BLOCK_LIMIT-clause-ok c =
    let blocks : List (List Row) = c.self.inside.blocks.items in
    let n = length c.as_slice-count.result.now - 1 in
    let e : suc n ≡ length blocks = omega (arith, ap length c.as_slice-count.ensures.value, c.if-count-eq0.false) in
    on_ok_weaker c.push-then-len-lt-BLOCK_LIMIT.result (λ pushed. rows_in-after blocks (row_in c.args.held.now) n e c.index_mut.result.now c.push-then-len-lt-BLOCK_LIMIT.new.self c.index_mut.ensures.value pushed
    ∙ ap (λ (p : Packed). p.rows ++ (row_in c.args.held.now) ∷ []) c.self.view_is) c.push-then-len-lt-BLOCK_LIMIT.ensures.ok

pub invariant_of-self-2 : goal.invariant_of-self-2
invariant_of-self-2 c =
    let blocks : List (List Row) = c.self.inside.blocks.items in
    let n = length c.as_slice-count.result.now - 1 in
    let row = row_in c.args.held.now in
    let same : set blocks n c.next_block.new.self ≡ blocks =
    ap (set blocks n) (c.next_block.ensures.same ∙ c.index_mut-2.ensures.value) ∙ set-get_or blocks n c.index_mut-2.result.now in
    let items : c.push-2.new.self.items ≡ blocks ++ (row ∷ []) ∷ [] =
    c.in_ok-push-2.ensures.items ∙ ap (λ b. set blocks n c.next_block.new.self ++ b ∷ []) c.in_ok-block-2.ensures.next
    ∙ ap (λ bs. bs ++ (row ∷ []) ∷ []) same in
    let ordered : AreInOrder (rows_in blocks ++ row ∷ []) =
    rw (ap (λ (p : Packed). p.rows) c.self.view_is) c.requires.in_order in
    subst ArePacked (sym items) (ArePacked-push blocks row c.self.invariant ordered)
