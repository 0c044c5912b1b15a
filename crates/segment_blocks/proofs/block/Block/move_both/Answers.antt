use Rattle.std.proofs.Common.{◌<◌, length, sym, subst, ◌∙◌, arith}
use Rattle.segment_blocks.specs.Both.{HasMovedFirst, MoveBoth}
use Rattle.segment_blocks.specs.Encoded.{rows_of}
use Rattle.segment_blocks.specs.Moving.{IsLeast}
use Rattle.segment_blocks.specs.Place.{rows_left}
use Rattle.segment_blocks.proofs.BothLemmas.{MoveBoth-none}
use Rattle.segment_blocks.proofs.LaneLemmas.{if-on-so, MoveBoth-next, MoveBoth-of}
use Rattle.segment_blocks.proofs.block.Block.move_both.Goals as goal

pub loop-row-init : goal.loop-row-init
loop-row-init c =
    let are = c.in-Some.ensures.lanes in
    record {
      left_filled = c.lanes_of-lanes.ensures.left_filled;
      right_filled = c.lanes_of-lanes.ensures.right_filled;
      block = c.self.invariant;
      lanes = are.are;
      left_by = are.left_by;
      right_by = are.right_by;
      left_least = are.left_least;
      right_least = are.right_least;
      few = omega (arith, c.len-row.ensures c.self.inside.first);
      moved = MoveBoth-none c.args.terms.0.until.now c.args.terms.1.until.now c.args.terms.0.by c.args.terms.1.by (rows_left c.lanes_of-lanes.new.left)
          (rows_left c.lanes_of-lanes.new.right) (rows_of c.self.inside.rows c.self.inside.first);
    }

pub loop-row-preserved : goal.loop-row-preserved
loop-row-preserved c =
    let u = c.args.terms.0.until.now in
    let v = c.args.terms.1.until.now in
    let m = c.args.terms.0.by in
    let n = c.args.terms.1.by in
    let b = c.loop-row.self-inside in
    let before = c.loop-row.invariant in
    let lefts = rows_left c.lanes_of-lanes.new.left in
    let rights = rows_left c.lanes_of-lanes.new.right in
    let old = rows_of c.self.inside.rows c.self.inside.first in
    let mid = rows_left c.loop-row.left-inside.place in
    let between = rows_left c.loop-row.right-inside.place in
    let left_rest = rows_left c.move_first.new.left in
    let right_rest = rows_left c.move_first.new.right in
    let room : length (rows_of b.rows b.first) < 128 = omega (arith, before.few, c.loop-row-test.true) in
    let step : HasMovedFirst b.first u v c.loop-row.lanes c.move_first.new.last mid left_rest between right_rest b.rows c.move_first.new.rows =
    c.move_first.ensures.moved b.first u v before.block room before.left_least before.right_least in
    let moved : MoveBoth u v m n lefts left_rest rights right_rest old (rows_of c.move_first.new.rows b.first) =
    MoveBoth-next b.first u v c.loop-row.lanes m n before.left_by before.right_by c.move_first.new.last lefts mid left_rest rights between right_rest old b.rows
    c.move_first.new.rows before.moved step in
    let terms = c.move_first.ensures.terms in
    record {
      left_filled = c.move_first.ensures.left_filled;
      right_filled = c.move_first.ensures.right_filled;
      block = step.block;
      lanes = if-on-so _ c.in_ok-on.on c.if-not-on.false c.in_ok-on.ensures.lanes;
      left_by = terms.left_by ∙ before.left_by;
      right_by = terms.right_by ∙ before.right_by;
      left_least = subst (λ k. IsLeast u c.move_first.new.last k) (sym terms.least) step.left;
      right_least = subst (λ k. IsLeast v c.move_first.new.last k) (sym terms.least) step.right;
      few = omega (arith, step.few, before.few);
      moved = moved;
    }

pub invariant_of-self-in_err-on : goal.invariant_of-self-in_err-on
invariant_of-self-in_err-on c =
    let u = c.args.terms.0.until.now in
    let v = c.args.terms.1.until.now in
    let m = c.args.terms.0.by in
    let n = c.args.terms.1.by in
    let b = c.loop-row.self-inside in
    let before = c.loop-row.invariant in
    let lefts = rows_left c.lanes_of-lanes.new.left in
    let rights = rows_left c.lanes_of-lanes.new.right in
    let old = rows_of c.self.inside.rows c.self.inside.first in
    let mid = rows_left c.loop-row.left-inside.place in
    let between = rows_left c.loop-row.right-inside.place in
    let left_rest = rows_left c.move_first.new.left in
    let right_rest = rows_left c.move_first.new.right in
    let room : length (rows_of b.rows b.first) < 128 = omega (arith, before.few, c.loop-row-test.true) in
    let step : HasMovedFirst b.first u v c.loop-row.lanes c.move_first.new.last mid left_rest between right_rest b.rows c.move_first.new.rows =
    c.move_first.ensures.moved b.first u v before.block room before.left_least before.right_least in
    step.block

pub returns-in_err-on : goal.returns-in_err-on
returns-in_err-on c =
    let u = c.args.terms.0.until.now in
    let v = c.args.terms.1.until.now in
    let m = c.args.terms.0.by in
    let n = c.args.terms.1.by in
    let b = c.loop-row.self-inside in
    let before = c.loop-row.invariant in
    let lefts = rows_left c.lanes_of-lanes.new.left in
    let rights = rows_left c.lanes_of-lanes.new.right in
    let old = rows_of c.self.inside.rows c.self.inside.first in
    let mid = rows_left c.loop-row.left-inside.place in
    let between = rows_left c.loop-row.right-inside.place in
    let left_rest = rows_left c.move_first.new.left in
    let right_rest = rows_left c.move_first.new.right in
    let room : length (rows_of b.rows b.first) < 128 = omega (arith, before.few, c.loop-row-test.true) in
    let step : HasMovedFirst b.first u v c.loop-row.lanes c.move_first.new.last mid left_rest between right_rest b.rows c.move_first.new.rows =
    c.move_first.ensures.moved b.first u v before.block room before.left_least before.right_least in
    let moved : MoveBoth u v m n lefts left_rest rights right_rest old (rows_of c.move_first.new.rows b.first) =
    MoveBoth-next b.first u v c.loop-row.lanes m n before.left_by before.right_by c.move_first.new.last lefts mid left_rest rights between right_rest old b.rows
    c.move_first.new.rows before.moved step in
    MoveBoth-of u v m n c.args.left.now lefts left_rest c.args.right.now rights right_rest c.args.self.now old (rows_of c.move_first.new.rows b.first)
    (c.lanes_of-lanes.ensures.left_rows ∙ c.left.view_is) (c.lanes_of-lanes.ensures.right_rows ∙ c.right.view_is) c.self.view_is moved

pub invariant_of-self-then-not-on : goal.invariant_of-self-then-not-on
invariant_of-self-then-not-on c =
    let u = c.args.terms.0.until.now in
    let v = c.args.terms.1.until.now in
    let m = c.args.terms.0.by in
    let n = c.args.terms.1.by in
    let b = c.loop-row.self-inside in
    let before = c.loop-row.invariant in
    let lefts = rows_left c.lanes_of-lanes.new.left in
    let rights = rows_left c.lanes_of-lanes.new.right in
    let old = rows_of c.self.inside.rows c.self.inside.first in
    let mid = rows_left c.loop-row.left-inside.place in
    let between = rows_left c.loop-row.right-inside.place in
    let left_rest = rows_left c.move_first.new.left in
    let right_rest = rows_left c.move_first.new.right in
    let room : length (rows_of b.rows b.first) < 128 = omega (arith, before.few, c.loop-row-test.true) in
    let step : HasMovedFirst b.first u v c.loop-row.lanes c.move_first.new.last mid left_rest between right_rest b.rows c.move_first.new.rows =
    c.move_first.ensures.moved b.first u v before.block room before.left_least before.right_least in
    step.block

pub returns-then-not-on : goal.returns-then-not-on
returns-then-not-on c =
    let u = c.args.terms.0.until.now in
    let v = c.args.terms.1.until.now in
    let m = c.args.terms.0.by in
    let n = c.args.terms.1.by in
    let b = c.loop-row.self-inside in
    let before = c.loop-row.invariant in
    let lefts = rows_left c.lanes_of-lanes.new.left in
    let rights = rows_left c.lanes_of-lanes.new.right in
    let old = rows_of c.self.inside.rows c.self.inside.first in
    let mid = rows_left c.loop-row.left-inside.place in
    let between = rows_left c.loop-row.right-inside.place in
    let left_rest = rows_left c.move_first.new.left in
    let right_rest = rows_left c.move_first.new.right in
    let room : length (rows_of b.rows b.first) < 128 = omega (arith, before.few, c.loop-row-test.true) in
    let step : HasMovedFirst b.first u v c.loop-row.lanes c.move_first.new.last mid left_rest between right_rest b.rows c.move_first.new.rows =
    c.move_first.ensures.moved b.first u v before.block room before.left_least before.right_least in
    let moved : MoveBoth u v m n lefts left_rest rights right_rest old (rows_of c.move_first.new.rows b.first) =
    MoveBoth-next b.first u v c.loop-row.lanes m n before.left_by before.right_by c.move_first.new.last lefts mid left_rest rights between right_rest old b.rows
    c.move_first.new.rows before.moved step in
    MoveBoth-of u v m n c.args.left.now lefts left_rest c.args.right.now rights right_rest c.args.self.now old (rows_of c.move_first.new.rows b.first)
    (c.lanes_of-lanes.ensures.left_rows ∙ c.left.view_is) (c.lanes_of-lanes.ensures.right_rows ∙ c.right.view_is) c.self.view_is moved
