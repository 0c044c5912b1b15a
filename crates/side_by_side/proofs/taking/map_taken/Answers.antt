use Rattle.std.proofs.Common.{◌∙◌, arith}
use Rattle.std.specs.List.{flat_map}
use Rattle.std.proofs.lemmas.Result.{IfOk-weaker}
use Rattle.side_by_side.specs.Taking.{IsGiven, taken_by}
use Rattle.side_by_side.proofs.SlotLemmas.{slots-count, slots-given}
use Rattle.side_by_side.proofs.taking.map_taken.Goals as goal

pub fill_slots-requires-clause-accepts : goal.fill_slots-requires-clause-accepts
fill_slots-requires-clause-accepts g c = λ i below.
    let leaves = c.in_ok-leaves.leaves.items in
    let slots = c.in_ok-slots in
    c.requires.accepts i (omega (arith, below, slots-count slots.slots.items c.args.count (flat_map taken_by leaves) slots.ensures))

pub fill_slots-requires-clause-given : goal.fill_slots-requires-clause-given
fill_slots-requires-clause-given g c =
    let leaves = c.in_ok-leaves in
    let slots = c.in_ok-slots in
    slots-given (IsGiven g.F.Fn c.args.f.now) slots.slots.items c.args.count leaves.leaves.items slots.ensures
    (λ n d below. (leaves.ensures.each n d (omega (arith, below, leaves.ensures.len))).1.met)

pub returns-clause-len : goal.returns-clause-len
returns-clause-len g c =
    let count = slots-count c.in_ok-slots.slots.items c.args.count (flat_map taken_by c.in_ok-leaves.leaves.items) c.in_ok-slots.ensures in
    IfOk-weaker c.fill_slots.result _ _ (λ made long. long ∙ count) c.fill_slots.ensures.len

pub returns-clause-each : goal.returns-clause-each
returns-clause-each g c =
    let count = slots-count c.in_ok-slots.slots.items c.args.count (flat_map taken_by c.in_ok-leaves.leaves.items) c.in_ok-slots.ensures in
    IfOk-weaker c.fill_slots.result _ _ (λ made each i d below. each i d (omega (arith, below, count))) c.fill_slots.ensures.each
