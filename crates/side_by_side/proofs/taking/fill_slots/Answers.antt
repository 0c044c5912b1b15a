use Rattle.std.proofs.Common.{refl, sym, ◌∙◌, arith, rules}
use Rattle.std.specs.Fn.{FnReturns}
use Rattle.side_by_side.specs.Taking.{IsGiven}
use Rattle.side_by_side.proofs.SlotLemmas.{no-slot, one-given, slot-behind, slot-given, slot-within}
use Rattle.side_by_side.proofs.taking.fill_slots.Goals as goal

pub given_at-requires-clause-given : goal.given_at-requires-clause-given
given_at-requires-clause-given g c =
    slot-given (IsGiven g.F.Fn c.args.f.now) c.args.slots.items _ _ c.in-Some.slot _ _ c.requires.given
    c.loop-slot.invariant.left c.in-Some.ensures.steps.0 (search rules)

pub loop-slot-preserved : goal.loop-slot-preserved
loop-slot-preserved g c =
    let given = one-given (λ k x. FnReturns g.F.Fn c.args.f.now (k, tt) x) c.loop-slot.made.items c.push.new.self.items c.given_at.result
    c.len-in-loop-slot.result c.in_ok-push.ensures.items (search rules) c.given_at.ensures (λ k d below. (c.loop-slot.invariant.made k d below).1) in
    record {
      made = λ k d below. (refl, given k d below);
      within = slot-within c.args.slots.items _ _ _ _ _ _ c.in_ok-push.ensures.items c.loop-slot.invariant.left c.in-Some.ensures.steps.0;
      left = slot-behind c.args.slots.items _ _ _ _ _ _ c.in_ok-push.ensures.items c.loop-slot.invariant.left c.in-Some.ensures.steps.0;
    }

pub returns : goal.returns
returns g c =
    let none = sym c.loop-slot.slot-iterator.rest.ok.0 ∙ c.in-None.ensures.steps.0 in
    let all = no-slot _ c.args.slots.items _ c.loop-slot.invariant.left none in
    record {
      len = omega (arith, all, c.loop-slot.invariant.within);
      each = λ i d below. c.loop-slot.invariant.made i d (omega (arith, below, all));
    }
