use Rattle.std.proofs.Common.{◌≡◌, ◌+◌, ◌-◌, ◌/◌, ◌<◌, suc, length, refl, ap, subst, arith}
use Rattle.std.proofs.lemmas.Option.{slice_get_read}
use Rattle.segment_blocks.specs.declared.held_batch.HeldBatch.{HeldBatch}
use Rattle.segment_blocks.proofs.HeldLemmas.{games_before, games_before-next, stand-at, game-at}
use Rattle.segment_blocks.proofs.held_batch.game_at.Goals as goal

pub loop-high-preserved-then-held-middle : goal.loop-high-preserved-then-held-middle
loop-high-preserved-then-held-middle c =
    let held = c.args.held.now in
    let l = c.loop-high in
    let middle = l.low + (l.high - l.low) / 2 in
    let in_all : middle < length held = omega (arith, l.invariant.some, l.invariant.within) in
    let here = slice_get_read held (length held) middle c.index-held-middle.result refl in_all c.index-held-middle.is in
    let start = (stand-at 0 held middle c.index-held-middle.result c.requires.stand here).start in
    record {
      some = omega (arith, l.invariant.some, c.loop-high-test.true);
      within = l.invariant.within;
      starts = omega (arith, start, c.if-held-middle.true, ap (λ (h : HeldBatch). h.start) c.index-held-middle.is);
      ends = l.invariant.ends;
    }

pub loop-high-preserved : goal.loop-high-preserved
loop-high-preserved c =
    let held = c.args.held.now in
    let l = c.loop-high in
    let middle = l.low + (l.high - l.low) / 2 in
    let in_all : middle < length held = omega (arith, l.invariant.some, l.invariant.within) in
    let here = slice_get_read held (length held) middle c.index-held-middle.result refl in_all c.index-held-middle.is in
    let start = (stand-at 0 held middle c.index-held-middle.result c.requires.stand here).start in
    record {
      some = omega (arith, l.invariant.some, c.loop-high-test.true);
      within = omega (arith, in_all);
      starts = l.invariant.starts;
      ends = omega (arith, start, c.if-held-middle.false, ap (λ (h : HeldBatch). h.start) c.index-held-middle.is);
    }

pub overflow_sub-result : goal.overflow_sub-result
overflow_sub-result c =
    let held = c.args.held.now in
    let l = c.loop-high in
    let in_all : l.low < length held = omega (arith, l.invariant.some, l.invariant.within) in
    let here = slice_get_read held (length held) l.low c.index-held-low.result refl in_all c.index-held-low.is in
    omega (arith, l.invariant.starts, (stand-at 0 held l.low c.index-held-low.result c.requires.stand here).start)

pub returns : goal.returns
returns c =
    let held = c.args.held.now in
    let l = c.loop-high in
    let h = c.index-held-low.result in
    let in_all : l.low < length held = omega (arith, l.invariant.some, l.invariant.within) in
    let here = slice_get_read held (length held) l.low h refl in_all c.index-held-low.is in
    let start = (stand-at 0 held l.low h c.requires.stand here).start in
    let next : l.high ≡ suc l.low = omega (arith, l.invariant.some, c.loop-high-test.false) in
    let ends : c.args.n < games_before (suc l.low) held = subst (λ k. c.args.n < games_before k held) next l.invariant.ends in
    game-at 0 held l.low c.args.n (c.args.n - h.start) h c.requires.stand here
    (omega (arith, start, l.invariant.starts))
    (omega (arith, start, l.invariant.starts, ends, games_before-next held l.low h here))
