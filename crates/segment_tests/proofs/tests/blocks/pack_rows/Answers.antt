use Rattle.std.proofs.Common.{◌≡◌, ◌+◌, [], ◌∷◌, ◌++◌, drop, sym, ap, subst, ◌∙◌, append_assoc}
use Rattle.std.proofs.lemmas.List.{drop_more, take-append-drop}
use Rattle.segment_blocks.specs.PackedRows.{AreInOrder}
use Rattle.segment_blocks.proofs.OrderLemmas.{in_order-front}
use Rattle.segment_tests.proofs.tests.blocks.pack_rows.Goals as goal

pub push-requires : goal.push-requires
push-requires c =
    let rows = c.args.rows.now in
    let i = c.loop-row.row-index in
    let row = c.row-item.result in
    let packed = c.loop-row.packed.rows in
    let behind = drop (i + 1) rows in
    let rest : drop i rows ≡ row ∷ behind = drop_more rows i row c.loop-row-test.true ∙ ap (λ r. r ∷ behind) (sym c.row-item.is) in
    let all : rows ≡ (packed ++ row ∷ []) ++ behind =
    sym (take-append-drop i rows)
    ∙ ap (λ l. l ++ drop i rows) (sym c.loop-row.invariant.packed) ∙ ap (λ l. packed ++ l) rest
    ∙ sym (append_assoc packed (row ∷ []) behind) in
    let ordered : AreInOrder rows = c.are_in_order.ensures c.if-not-are_in_order.false in
    record { in_order = in_order-front (packed ++ row ∷ []) behind (subst AreInOrder all ordered) }
