use Rattle.std.proofs.Common.{◌≡◌, ◌+◌, ◌<◌, ◌/◌, [], true, false, length, get_or, sym, ◌∙◌, true≢false, arith}
use Rattle.plain_laws.specs.Numbers.{halves}
use Rattle.spill_blobs.specs.Marks.{is_less}
use Rattle.spill_blobs.proofs.IndexLemmas.{less-chain, not_true}
use Rattle.spill_blobs.proofs.MarkLemmas.{count-is}
use Rattle.spill_blobs.proofs.index.count_less.Goals as goal

pub loop-size-preserved-then-stands_before : goal.loop-size-preserved-then-stands_before
loop-size-preserved-then-stands_before g c =
    let l = c.loop-size in
    let middle = l.first + l.size / 2 in
    let keys = c.args.keys.now in
    let some : 0 < l.size = c.loop-size-test.true in
    let in_all : middle < length keys = omega (arith, l.invariant.within) in
    let here : is_less c.args.key.now (get_or keys middle []) ≡ true = sym c.stands_before.ensures ∙ c.if-stands_before.true in
    record {
      within = omega (arith, l.invariant.within);
      less = λ k lt. less-chain c.args.key.now keys k middle c.requires (omega arith) in_all here;
      others = λ k more inside. l.invariant.others k (omega arith) inside;
      cost = λ digits fits.
          let old = l.invariant.cost digits fits in
          let new = halves l.size old.0 some old.1 in
          (new.less, new.rest, omega (arith, new.is, old.2, c.tick.ensures));
    }

pub loop-size-preserved : goal.loop-size-preserved
loop-size-preserved g c =
    let l = c.loop-size in
    let middle = l.first + l.size / 2 in
    let keys = c.args.keys.now in
    let key = c.args.key.now in
    let some : 0 < l.size = c.loop-size-test.true in
    let in_all : middle < length keys = omega (arith, l.invariant.within) in
    let here : is_less key (get_or keys middle []) ≡ false = sym c.stands_before.ensures ∙ c.if-stands_before.false in
    record {
      within = omega (arith, l.invariant.within);
      less = l.invariant.less;
      others = λ k more inside. not_true key (is_less key (get_or keys k [])) (λ e. true≢false (sym (less-chain key keys middle k c.requires more inside e) ∙ here));
      cost = λ digits fits.
          let old = l.invariant.cost digits fits in
          let new = halves l.size old.0 some old.1 in
          (new.less, new.half, omega (arith, new.is, old.2, c.tick.ensures));
    }

pub returns-clause-count : goal.returns-clause-count
returns-clause-count g c =
    let l = c.loop-size in
    count-is c.args.key.now c.args.keys.now l.first (omega (arith, l.invariant.within))
    l.invariant.less (λ k le inside. l.invariant.others k (omega (arith, c.loop-size-test.false, le)) inside)
