use Rattle.std.proofs.Common.{◌≡◌, ◌+◌, ◌-◌, ◌∷◌, [], length, take, drop, refl, sym, ap, ◌∙◌, arith, length-append, subst, List}
use Rattle.std.specs.Prelude.{IfSome}
use Rattle.std.specs.List.{AllByRecursion}
use Rattle.tally_rows.specs.declared.row.Row.{Row}
use Rattle.outside.specs.Ports.{Scratch}
use Rattle.spill_blobs.proofs.FoundLemmas.{same_key, keyed-more}
use Rattle.spill_blobs.specs.RowBlocks.{IsRowAt, block_size}
use Rattle.spill_blobs.specs.Walks.{blocks_from, keyed as begun, lesser_limit}
use Rattle.spill_blobs.proofs.WalkLemmas.{Going, going-start, comes-fault, going-equal, going-greater, going-less, going-too_many, going-whole}
use Rattle.spill_blobs.proofs.CostLemmas.{counted-equal, counted-start, counted-less, reads-all, reads-last}
use Rattle.spill_blobs.proofs.walk.walk.Goals as goal

pub loop-left-init : goal.loop-left-init
loop-left-init g c =
    let none = c.new-rows.ensures.items in
    let told = (g.P.Port.port c.args.port.now).appended in
    record {
      told = subst (λ (rows : List Row). Going told c.args.key.now c.args.start c.args.count lesser_limit rows c.args.start c.args.count) (sym none)
          (going-start c.args.key.now c.args.start c.args.count told);
      same = refl;
      few = omega arith;
      inside = refl;
      keyed = subst (AllByRecursion (λ (r : Row). r.key ≡ c.args.key.now)) (sym none) tt;
      cost = omega arith;
      read = refl;
      passed = omega (arith, ap length none);
      counted = subst (λ (rows : List Row). IfSome told
          (λ bytes. begun c.args.key.now (take (0 + length rows) (blocks_from bytes c.args.start c.args.count)) ≡ length rows)) (sym none)
          (counted-start c.args.key.now c.args.start c.args.count told);
    }

pub returns-in-Err-clause-comes : goal.returns-in-Err-clause-comes
returns-in-Err-clause-comes g c =
    let l = c.loop-left in
    comes-fault c.args.key.now c.args.start c.args.count l.at l.rows.items (g.P.Port.port c.args.port.now) (g.P.Port.port l.port) (g.P.Port.port c.read_row.new.port)
    l.left (l.left - 1) (lesser_limit - l.lesser) c.in-Err.fault l.invariant.same (omega (arith, c.loop-left-test.true)) l.invariant.told c.in-Err.ensures.reads

pub returns-then-lesser-eq-LESSER_LIMIT-clause-comes : goal.returns-then-lesser-eq-LESSER_LIMIT-clause-comes
returns-then-lesser-eq-LESSER_LIMIT-clause-comes g c =
    let l = c.loop-left in
    let row = c.in-Ok.row in
    let read = subst (λ (s : Scratch). IfSome s.appended (λ bytes. IsRowAt (take block_size (drop l.at bytes)) row)) l.invariant.same c.in-Ok.ensures.reads.0 in (
      going-too_many c.args.key.now c.args.start c.args.count l.at l.rows.items row (g.P.Port.port c.args.port.now).appended l.left (l.left - 1) (lesser_limit - l.lesser)
          (omega (arith, c.loop-left-test.true)) (omega (arith, c.if-lesser-eq-LESSER_LIMIT.true)) l.invariant.told read (sym c.cmp.ensures ∙ c.in-Less.is),
      c.in-Ok.ensures.reads.1 ∙ l.invariant.same,
    )

pub loop-left-preserved-in-Less : goal.loop-left-preserved-in-Less
loop-left-preserved-in-Less g c =
    let l = c.loop-left in
    let row = c.in-Ok.row in
    let read = subst (λ (s : Scratch). IfSome s.appended (λ bytes. IsRowAt (take block_size (drop l.at bytes)) row)) l.invariant.same c.in-Ok.ensures.reads.0 in
    record {
      told = going-less c.args.key.now c.args.start c.args.count l.at l.rows.items row (g.P.Port.port c.args.port.now).appended l.left (l.left - 1) (lesser_limit - l.lesser)
          (lesser_limit - (l.lesser + 1)) (omega (arith, c.loop-left-test.true)) (omega (arith, c.if-lesser-eq-LESSER_LIMIT.false, l.invariant.few)) l.invariant.told read
          (sym c.cmp.ensures ∙ c.in-Less.is);
      same = c.in-Ok.ensures.reads.1 ∙ l.invariant.same;
      few = omega (arith, c.if-lesser-eq-LESSER_LIMIT.false, l.invariant.few);
      inside = omega (arith, l.invariant.inside, c.loop-left-test.true);
      keyed = l.invariant.keyed;
      cost = omega (arith, l.invariant.cost, c.read_row.ensures.cost);
      read = omega (arith, l.invariant.read, c.read_row.ensures.cost, c.loop-left-test.true);
      passed = omega (arith, l.invariant.passed, c.loop-left-test.true);
      counted = counted-less c.args.key.now c.args.start c.args.count l.at row (g.P.Port.port c.args.port.now).appended (l.lesser + length l.rows.items)
          (l.lesser + 1 + length l.rows.items) (length l.rows.items) (omega arith) (omega (arith, l.invariant.passed, c.loop-left-test.true))
          (omega (arith, l.invariant.inside, l.invariant.passed)) read (sym c.cmp.ensures ∙ c.in-Less.is) l.invariant.counted;
    }

pub loop-left-preserved : goal.loop-left-preserved
loop-left-preserved g c =
    let l = c.loop-left in
    let row = c.in-Ok.row in
    let read = subst (λ (s : Scratch). IfSome s.appended (λ bytes. IsRowAt (take block_size (drop l.at bytes)) row)) l.invariant.same c.in-Ok.ensures.reads.0 in
    let next = going-equal c.args.key.now c.args.start c.args.count l.at l.rows.items row (g.P.Port.port c.args.port.now).appended l.left (l.left - 1) (lesser_limit - l.lesser)
    (omega (arith, c.loop-left-test.true)) l.invariant.told read (sym c.cmp.ensures ∙ c.in-Equal.is) in
    record {
      told = subst (λ (xs : List Row). Going (g.P.Port.port c.args.port.now).appended c.args.key.now (l.at + block_size) (l.left - 1) (lesser_limit - l.lesser) xs c.args.start c.args.count)
          (sym c.in_ok-put-in-Equal.ensures) next;
      same = c.in-Ok.ensures.reads.1 ∙ l.invariant.same;
      few = l.invariant.few;
      inside = omega (arith, l.invariant.inside, c.loop-left-test.true);
      keyed = subst (AllByRecursion (λ (r : Row). r.key ≡ c.args.key.now)) (sym c.in_ok-put-in-Equal.ensures)
          (keyed-more c.args.key.now l.rows.items row l.invariant.keyed (same_key c.args.key.now row.key (sym c.cmp.ensures ∙ c.in-Equal.is)));
      cost = omega (arith, l.invariant.cost, c.read_row.ensures.cost, ap length c.in_ok-put-in-Equal.ensures, length-append l.rows.items (row ∷ []));
      read = omega (arith, l.invariant.read, c.read_row.ensures.cost, c.loop-left-test.true);
      passed = omega (arith, l.invariant.passed, c.loop-left-test.true, ap length c.in_ok-put-in-Equal.ensures, length-append l.rows.items (row ∷ []));
      counted = counted-equal c.args.key.now c.args.start c.args.count l.at row (g.P.Port.port c.args.port.now).appended l.lesser l.rows.items
          c.put.new.rows.items c.in_ok-put-in-Equal.ensures (omega (arith, l.invariant.passed, c.loop-left-test.true))
          (omega (arith, l.invariant.inside, l.invariant.passed)) read (sym c.cmp.ensures ∙ c.in-Equal.is) l.invariant.counted;
    }

pub returns-in-Greater-clause-comes : goal.returns-in-Greater-clause-comes
returns-in-Greater-clause-comes g c =
    let l = c.loop-left in
    let row = c.in-Ok.row in
    let read = subst (λ (s : Scratch). IfSome s.appended (λ bytes. IsRowAt (take block_size (drop l.at bytes)) row)) l.invariant.same c.in-Ok.ensures.reads.0 in (
      going-greater c.args.key.now c.args.start c.args.count l.at l.rows.items row (g.P.Port.port c.args.port.now).appended l.left (l.left - 1) (lesser_limit - l.lesser)
          (omega (arith, c.loop-left-test.true)) l.invariant.told read (sym c.cmp.ensures ∙ c.in-Greater.is),
      c.in-Ok.ensures.reads.1 ∙ l.invariant.same,
    )

pub returns-clause-comes : goal.returns-clause-comes
returns-clause-comes g c =
    let l = c.loop-left in (
      going-whole c.args.key.now c.args.start c.args.count l.at l.rows.items (g.P.Port.port c.args.port.now).appended l.left (lesser_limit - l.lesser)
          (omega (arith, c.loop-left-test.false)) l.invariant.told,
      l.invariant.same,
    )

-- a block that was asked for at last
pub returns-in-Err-clause-reads : goal.returns-in-Err-clause-reads
returns-in-Err-clause-reads g c =
    let l = c.loop-left in
    reads-last c.args.key.now c.args.start c.args.count (g.P.Port.port c.args.port.now) l.lesser (length l.rows.items) l.left c.args.steps.now l.steps
    l.invariant.few l.invariant.passed l.invariant.read c.read_row.new.steps (omega (arith, c.loop-left-test.true)) c.read_row.ensures.cost l.invariant.counted

pub returns-then-lesser-eq-LESSER_LIMIT-clause-reads : goal.returns-then-lesser-eq-LESSER_LIMIT-clause-reads
returns-then-lesser-eq-LESSER_LIMIT-clause-reads g c =
    let l = c.loop-left in
    reads-last c.args.key.now c.args.start c.args.count (g.P.Port.port c.args.port.now) l.lesser (length l.rows.items) l.left c.args.steps.now l.steps
    l.invariant.few l.invariant.passed l.invariant.read c.read_row.new.steps (omega (arith, c.loop-left-test.true)) c.read_row.ensures.cost l.invariant.counted

pub returns-in-Greater-clause-reads : goal.returns-in-Greater-clause-reads
returns-in-Greater-clause-reads g c =
    let l = c.loop-left in
    reads-last c.args.key.now c.args.start c.args.count (g.P.Port.port c.args.port.now) l.lesser (length l.rows.items) l.left c.args.steps.now l.steps
    l.invariant.few l.invariant.passed l.invariant.read c.read_row.new.steps (omega (arith, c.loop-left-test.true)) c.read_row.ensures.cost l.invariant.counted

pub returns-clause-reads : goal.returns-clause-reads
returns-clause-reads g c =
    let l = c.loop-left in
    reads-all c.args.key.now c.args.start c.args.count (g.P.Port.port c.args.port.now) l.lesser (length l.rows.items) l.left c.args.steps.now l.steps
    l.invariant.few l.invariant.passed l.invariant.read l.invariant.counted

pub returns-in_err-put-in-Equal-clause-reads : goal.returns-in_err-put-in-Equal-clause-reads
returns-in_err-put-in-Equal-clause-reads g c =
    let l = c.loop-left in
    reads-last c.args.key.now c.args.start c.args.count (g.P.Port.port c.args.port.now) l.lesser (length l.rows.items) l.left c.args.steps.now l.steps
    l.invariant.few l.invariant.passed l.invariant.read c.read_row.new.steps (omega (arith, c.loop-left-test.true)) c.read_row.ensures.cost l.invariant.counted
