use Rattle.std.proofs.Common.{◌≡◌, ◌+◌, [], ◌∷◌, ◌++◌, take, drop, sym, ap, subst, ◌∙◌, append_assoc}
use Rattle.std.proofs.lemmas.List.{drop_more, take-append-drop}
use Rattle.segment_blocks.specs.PackedRows.{AreInOrder}
use Rattle.segment_blocks.proofs.OrderLemmas.{in_order-front}
use Rattle.segment_blocks.proofs.packed_rows.PackedRows.push_all.Goals as goal

pub push_counted-requires : goal.push_counted-requires
push_counted-requires c =
    let rows = c.args.rows.now in
    let i = c.loop-row.row-index in
    let row = c.row-item.result in
    let first = c.args.self.now.rows in
    let packed = c.loop-row.self.rows in
    let behind = drop (i + 1) rows in
    let rest : drop i rows ≡ row ∷ behind = drop_more rows i row c.loop-row-test.true ∙ ap (λ r. r ∷ behind) (sym c.row-item.is) in
    let all : first ++ rows ≡ (packed ++ row ∷ []) ++ behind =
    ap (λ l. first ++ l) (sym (take-append-drop i rows)) ∙ sym (append_assoc first (take i rows) (drop i rows))
    ∙ ap (λ l. l ++ drop i rows) (sym c.loop-row.invariant.packed) ∙ ap (λ l. packed ++ l) rest
    ∙ sym (append_assoc packed (row ∷ []) behind) in
    record { in_order = in_order-front (packed ++ row ∷ []) behind (subst AreInOrder all c.requires.in_order) }
