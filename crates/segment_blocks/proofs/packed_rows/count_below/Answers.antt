use Rattle.std.proofs.Common.{◌≡◌, ◌+◌, ◌<◌, ◌/◌, [], true, false, length, get_or, sym, ap, ◌∙◌, true≢false, arith}
use Rattle.std.proofs.lemmas.List.{get_or_default}
use Rattle.std.proofs.lemmas.Bool.{false_from_ne_true}
use Rattle.plain_laws.specs.Numbers.{halves}
use Rattle.segment_blocks.specs.PackedRows.{is_first_below}
use Rattle.segment_blocks.proofs.KeyLemmas.{Rise-from_sorted}
use Rattle.segment_blocks.proofs.BlockLemmas.{first-chain}
use Rattle.segment_blocks.proofs.packed_rows.count_below.Goals as goal

pub loop-size-preserved-then-begins_below : goal.loop-size-preserved-then-begins_below
loop-size-preserved-then-begins_below g c =
    let l = c.loop-size in
    let half = l.size / 2 in
    let middle = l.first + half in
    let blocks = c.args.blocks.now in
    let some : 0 < l.size = c.loop-size-test.true in
    let in_all : middle < length blocks = omega (arith, l.invariant.within) in
    let here : is_first_below c.args.key.now (get_or blocks middle []) ≡ true =
    ap (is_first_below c.args.key.now) (get_or_default blocks middle [] c.index-blocks-first.result in_all ∙ sym c.index-blocks-first.is)
    ∙ sym c.begins_below.ensures ∙ c.if-begins_below.true in
    record {
      within = omega (arith, l.invariant.within);
      below = λ k less. first-chain c.args.key.now blocks k middle c.requires.some (Rise-from_sorted _ c.requires.ordered) (omega arith) in_all here;
      above = λ k more inside. l.invariant.above k (omega arith) inside;
      cost = λ digits fits.
          let old = l.invariant.cost digits fits in
          let new = halves l.size old.0 some old.1 in
          (new.less, new.rest, omega (arith, new.is, old.2, c.tick.ensures));
    }

pub loop-size-preserved : goal.loop-size-preserved
loop-size-preserved g c =
    let l = c.loop-size in
    let half = l.size / 2 in
    let middle = l.first + half in
    let blocks = c.args.blocks.now in
    let key = c.args.key.now in
    let some : 0 < l.size = c.loop-size-test.true in
    let in_all : middle < length blocks = omega (arith, l.invariant.within) in
    let here : is_first_below key (get_or blocks middle []) ≡ false =
    ap (is_first_below key) (get_or_default blocks middle [] c.index-blocks-first.result in_all ∙ sym c.index-blocks-first.is)
    ∙ sym c.begins_below.ensures ∙ c.if-begins_below.false in
    record {
      within = omega (arith, l.invariant.within);
      below = l.invariant.below;
      above = λ k more inside. false_from_ne_true (is_first_below key (get_or blocks k [])) (λ e. true≢false (sym (first-chain key blocks middle k c.requires.some (Rise-from_sorted _ c.requires.ordered) more inside e) ∙ here));
      cost = λ digits fits.
          let old = l.invariant.cost digits fits in
          let new = halves l.size old.0 some old.1 in
          (new.less, new.half, omega (arith, new.is, old.2, c.tick.ensures));
    }
