use Rattle.std.proofs.Common.{◌≡◌, length, true, false, sym, ap, ◌∙◌, refl, arith, true≢false}
use Rattle.std.specs.declared.cmp.Ordering.{Ordering}
use Rattle.std.specs.declared.cmp.Ordering.TheVariants.{Less, Equal, Greater}
use Rattle.std.specs.Ordering.{is_lt, is_ge}
use Rattle.segment_blocks.specs.HeldRow.{row_in}
use Rattle.segment_blocks.specs.Walk.{from_key}
use Rattle.segment_blocks.proofs.KeyLemmas.{key_order, from_key-below, from_key-not, from_key-nil}
use Rattle.segment_blocks.proofs.packed_rows.pass_below.Goals as goal

not_ge : (o : Ordering) → is_ge o ≡ false → is_lt o ≡ true
not_ge Less e = refl
not_ge Equal e = absurd (true≢false e)
not_ge Greater e = absurd (true≢false e)

ge : (o : Ordering) → is_ge o ≡ true → is_lt o ≡ false
ge Less e = absurd (true≢false (sym e))
ge Equal e = refl
ge Greater e = refl

pub loop-held-preserved : goal.loop-held-preserved
loop-held-preserved g c =
    let below = ap (λ k. is_lt (key_order k c.args.key.now)) (sym c.key.ensures) ∙ ap is_lt (sym c.cmp.ensures) ∙ not_ge c.cmp.result (sym c.is_ge.ensures ∙ c.if-is_ge.false) in
    let met = c.in-Some.ensures in
    record {
      rows = sym (from_key-below c.args.key.now (row_in c.in-Some.held) c.next.new.self below) ∙ ap (from_key c.args.key.now) (sym met) ∙ c.loop-held.invariant.rows;
      cost = omega (arith, c.loop-held.invariant.cost, ap length met, c.tick.ensures);
    }

pub returns-then-is_ge-clause-rows : goal.returns-then-is_ge-clause-rows
returns-then-is_ge-clause-rows g c =
    let not_below = ap (λ k. is_lt (key_order k c.args.key.now)) (sym c.key.ensures) ∙ ap is_lt (sym c.cmp.ensures) ∙ ge c.cmp.result (sym c.is_ge.ensures ∙ c.if-is_ge.true) in
    sym (from_key-not c.args.key.now (row_in c.in-Some.held) c.next.new.self not_below) ∙ ap (from_key c.args.key.now) (sym c.in-Some.ensures) ∙ c.loop-held.invariant.rows

pub returns-clause-rows : goal.returns-clause-rows
returns-clause-rows g c =
    let none = c.in_default.ensures in
    none.1 ∙ sym (from_key-nil c.args.key.now) ∙ ap (from_key c.args.key.now) (sym none.0) ∙ c.loop-held.invariant.rows
