use Rattle.std.proofs.Common.{◌≡◌, ◌≤◌, length}
use Rattle.segment_blocks.specs.Block.{IsBlock}
use Rattle.segment_blocks.specs.Both.{AreLanes, MoveBoth}
use Rattle.segment_blocks.specs.Encoded.{rows_of}
use Rattle.segment_blocks.specs.Moving.{IsLeast}
use Rattle.segment_blocks.specs.Place.{rows_left, IsPlace}
use Rattle.segment_blocks.proofs.block.Block.move_both.Given as goal

abbrev pub invariant-loop-row : goal.invariant-loop-row
invariant-loop-row l =
    let left = l.left-inside.place in
    let right = l.right-inside.place in
    let lefts = rows_left l.initial.left-inside.place in
    let rights = rows_left l.initial.right-inside.place in
    let b = l.self-inside in
    let old = rows_of l.initial.self-inside.rows l.initial.self-inside.first in
    record {
      left_filled : IsPlace left;
      right_filled : IsPlace right;
      block : IsBlock b.first b.last b.rows;
      lanes : AreLanes b.last l.lanes left right;
      left_by : l.lanes.left.by ≡ l.fn.terms.0.by;
      right_by : l.lanes.right.by ≡ l.fn.terms.1.by;
      left_least : IsLeast l.fn.terms.0.until.now b.last l.lanes.least;
      right_least : IsLeast l.fn.terms.1.until.now b.last l.lanes.least;
      few : length (rows_of b.rows b.first) ≤ l._row;
      moved : MoveBoth l.fn.terms.0.until.now l.fn.terms.1.until.now l.fn.terms.0.by l.fn.terms.1.by lefts (rows_left left) rights (rows_left right) old (rows_of b.rows b.first);
    }
