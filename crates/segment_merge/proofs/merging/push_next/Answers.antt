use Rattle.std.proofs.Common.{◌++◌, ◌∷◌, [], Some, sym, ap, subst, ◌∙◌}
use Rattle.std.proofs.lemmas.Result.{on_ok_weaker}
use Rattle.tally_rows.proofs.RowOrder.{row_order-IsAntisymmetric}
use Rattle.segment_blocks.specs.PackedRows.{AreInOrder}
use Rattle.segment_merge.proofs.MergedLemmas.{same-row_key, before-equal, after-equal}
use Rattle.segment_merge.proofs.PushedLemmas.{after-left, after-right, fewer-left, fewer-right, in_order-left, in_order-right}
use Rattle.segment_merge.proofs.merging.push_next.Goals as goal

pub push_next-requires : goal.push_next-requires
push_next-requires g c = record { in_order = in_order-left c.args.packed.now.rows c.args.left.now c.args.right.now c.requires.in_order }

pub push_next-requires-in-Greater : goal.push_next-requires-in-Greater
push_next-requires-in-Greater g c = record { in_order = in_order-right c.args.packed.now.rows c.args.left.now c.args.right.now c.requires.in_order }

pub returns-in-Less-clause-whole : goal.returns-in-Less-clause-whole
returns-in-Less-clause-whole g c =
    let moved = c.push_next in
    on_ok_weaker moved.result
    (after-left c.args.packed.now.rows moved.new.packed.rows c.args.left.now c.args.right.now moved.new.self (c.requires.order ∙ ap Some c.in-Less.is))
    moved.ensures

pub returns-in-Less-clause-fewer : goal.returns-in-Less-clause-fewer
returns-in-Less-clause-fewer g c =
    let moved = c.push_next in
    on_ok_weaker moved.result
    (fewer-left c.args.packed.now.rows moved.new.packed.rows c.args.left.now c.args.right.now moved.new.self (c.requires.order ∙ ap Some c.in-Less.is))
    moved.ensures

pub returns-in-Greater-clause-whole : goal.returns-in-Greater-clause-whole
returns-in-Greater-clause-whole g c =
    let moved = c.push_next-in-Greater in
    on_ok_weaker moved.result
    (after-right c.args.packed.now.rows moved.new.packed.rows c.args.left.now c.args.right.now moved.new.self (c.requires.order ∙ ap Some c.in-Greater.is))
    moved.ensures

pub returns-in-Greater-clause-fewer : goal.returns-in-Greater-clause-fewer
returns-in-Greater-clause-fewer g c =
    let moved = c.push_next-in-Greater in
    on_ok_weaker moved.result
    (fewer-right c.args.packed.now.rows moved.new.packed.rows c.args.left.now c.args.right.now moved.new.self (c.requires.order ∙ ap Some c.in-Greater.is))
    moved.ensures

pub combine-requires-clause-same : goal.combine-requires-clause-same
combine-requires-clause-same g c =
    let both = c.in-Some-Some in
    row_order-IsAntisymmetric _ _
    (same-row_key both.first both.second c.args.left.now c.args.right.now c.take.new.self c.take-in-Equal.new.self
    (c.requires.order ∙ ap Some c.in-Equal.is) both.ensures.0 both.ensures'.0)

pub push_whole-requires : goal.push_whole-requires
push_whole-requires g c =
    let both = c.in-Some-Some in
    let rows = c.args.packed.now.rows in
    record {
      in_order = subst (λ r. AreInOrder (rows ++ r ∷ [])) (sym c.combine.ensures)
          (before-equal both.first both.second c.args.left.now c.args.right.now c.take.new.self c.take-in-Equal.new.self
          (c.requires.order ∙ ap Some c.in-Equal.is) both.ensures.0 both.ensures'.0 rows c.requires.in_order);
    }

pub returns-in-Some-Some-clause-whole : goal.returns-in-Some-Some-clause-whole
returns-in-Some-Some-clause-whole g c =
    let both = c.in-Some-Some in
    let rows = c.args.packed.now.rows in
    on_ok_weaker c.push_whole.result
    (λ moved. after-equal both.first both.second c.args.left.now c.args.right.now c.take.new.self c.take-in-Equal.new.self
    (c.requires.order ∙ ap Some c.in-Equal.is) both.ensures.0 both.ensures'.0 rows c.push_whole.new.self.rows (moved ∙ ap (λ r. rows ++ r ∷ []) c.combine.ensures))
    c.push_whole.ensures.ok
