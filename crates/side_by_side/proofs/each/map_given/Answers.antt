use Rattle.std.proofs.Common.{get_or, refl, sym, ◌∙◌, subst, arith}
use Rattle.std.specs.List.{flat_map}
use Rattle.std.specs.Fork.{GivesJob}
use Rattle.std.proofs.lemmas.Result.{IfOk-weaker}
use Rattle.side_by_side.specs.Taking.{taken_by}
use Rattle.side_by_side.proofs.SlotLemmas.{slots-given}
use Rattle.side_by_side.proofs.JobLemmas.{each-stands, left-stands, stand-count}
use Rattle.side_by_side.proofs.each.map_given.Goals as goal

pub returns-clause-len : goal.returns-clause-len
returns-clause-len g c =
    let slots = c.in_ok-slots in
    let given = flat_map taken_by c.in_ok-leaves.leaves.items in
    IfOk-weaker c.all_of.result _ _
    (λ made all. stand-count slots.slots.items _ made.items _ given c.in_ok-left.left.items slots.ensures c.put_all.ensures all
    ∙ (c.len-count.ensures ∙ c.args.jobs.ok.0))
    c.all_of.ensures

pub returns-clause-each : goal.returns-clause-each
returns-clause-each g c =
    let gives = GivesJob g.F.Fn c.args.f.now in
    let slots = c.in_ok-slots in
    let leaves = c.in_ok-leaves in
    let given = flat_map taken_by leaves.leaves.items in
    let before = slots-given (λ one. gives g.B.Given.jobs one.0 one.1) slots.slots.items _ leaves.leaves.items slots.ensures
    (λ n d below. (leaves.ensures.each n d (omega (arith, below, leaves.ensures.len))).1.met) in
    let stands = left-stands (λ one. gives g.B.Given.jobs one.0 one.1) slots.slots.items _ c.in_ok-left.left.items c.put_all.ensures
    c.in_ok-left.ensures before in
    IfOk-weaker c.all_of.result _ _
    (λ made all i d below.
    let count = stand-count slots.slots.items _ made.items _ given c.in_ok-left.left.items slots.ensures c.put_all.ensures all ∙ c.len-count.ensures in (
      refl,
      subst (λ js. gives js i (get_or made.items i d)) (sym c.requires.given)
          (each-stands (λ one. gives g.B.Given.jobs one.0 one.1) _ made.items all stands i d (omega (arith, below, count))),
    ))
    c.all_of.ensures
