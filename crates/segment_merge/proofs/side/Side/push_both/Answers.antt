use Rattle.std.proofs.Common.{◌≡◌, ◌++◌, sym, subst, ◌∙◌}
use Rattle.std.specs.List.{AllByRecursion}
use Rattle.segment_blocks.specs.PackedRows.{AreInOrder}
use Rattle.segment_blocks.proofs.KeyLemmas.{All-right}
use Rattle.segment_merge.specs.Merged.{merged}
use Rattle.segment_merge.specs.Room.{HasRoom}
use Rattle.segment_merge.proofs.PushedLemmas.{after-both, may-move}
use Rattle.segment_merge.proofs.side.Side.push_both.Goals as goal

pub take_both-requires : goal.take_both-requires
take_both-requires g c =
    let left = c.self.inside in
    let right = c.right.inside in
    let rows = c.args.packed.now.rows in
    record {
      in_order = may-move left.by right.by left.rest right.rest rows
          (subst AreInOrder (λ i. rows ++ merged (sym c.self.view_is i) (sym c.right.view_is i)) c.requires.in_order);
    }

pub invariant_of-self : goal.invariant_of-self
invariant_of-self g c =
    let moved = c.take_both.ensures.moved in
    let by = c.self.inside.by in
    All-right (HasRoom by) moved.left c.take_both.new.left (subst (AllByRecursion (HasRoom by)) moved.left_parts c.self.invariant)

pub invariant_of-right : goal.invariant_of-right
invariant_of-right g c =
    let moved = c.take_both.ensures.moved in
    let by = c.right.inside.by in
    All-right (HasRoom by) moved.right c.take_both.new.right (subst (AllByRecursion (HasRoom by)) moved.right_parts c.right.invariant)

pub returns-clause-whole : goal.returns-clause-whole
returns-clause-whole g c =
    let left = c.self.inside in
    let right = c.right.inside in
    let rows = c.args.packed.now.rows in
    let new = c.take_both.new in
    after-both left.by right.by left.rest new.left right.rest new.right rows new.self.rows c.take_both.ensures.moved
    ∙ (λ i. rows ++ merged (c.self.view_is i) (c.right.view_is i))
