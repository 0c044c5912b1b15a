use Rattle.std.proofs.Common.{sym, ap, subst, ◌∙◌}
use Rattle.segment_blocks.specs.HeldRow.{row_in}
use Rattle.segment_blocks.specs.Block.{IsBlock}
use Rattle.segment_blocks.specs.Encoded.{IsAppended, rows_of}
use Rattle.segment_blocks.proofs.AppendLemmas.{one-row, IsBlock-one}
use Rattle.segment_blocks.proofs.block.Block.of.Goals as goal

pub invariant_of-result : goal.invariant_of-result
invariant_of-result c =
    let row = row_in c.args.held.now in
    let old = c.in_ok-rows.rows in
    let new = c.push.new.self in
    let key = sym c.key-key.ensures in
    let added : IsAppended row.key row old new = subst (λ k. IsAppended k row old new) c.key-key.ensures c.in_ok-push.ensures.ok in
    subst (λ k. IsBlock k k new) key (IsBlock-one row old new c.in_ok-rows.ensures added)

pub returns : goal.returns
returns c =
    let row = row_in c.args.held.now in
    let old = c.in_ok-rows.rows in
    let new = c.push.new.self in
    let added : IsAppended row.key row old new = subst (λ k. IsAppended k row old new) c.key-key.ensures c.in_ok-push.ensures.ok in
    ap (rows_of new) c.key-key.ensures ∙ one-row row old new c.in_ok-rows.ensures added
