use Rattle.std.proofs.Common.{ℕ, ◌-◌, ◌*◌, ◌≤◌, sym, ap, ◌∙◌, subst, arith}
use Rattle.spill_blobs.specs.Index.{AreRising, Begins}
use Rattle.spill_blobs.specs.Parts.{Spilled}
use Rattle.spill_blobs.proofs.PartLemmas.{begins-within, part-begins-by, place-is, rising-keys}
use Rattle.spill_blobs.proofs.part.Part.place_of.Goals as goal

pub count_less-less-requires : goal.count_less-less-requires
count_less-less-requires g c =
    let s = c.self.inside in
    let part : Spilled = record { start = s.start; count = s.count; keys = s.keys.items; kept = s.kept; segment = s.was.value } in
    subst AreRising (sym c.as_slice.ensures.value) (rising-keys part c.self.invariant)

pub overflow_mul-result : goal.overflow_mul-result
overflow_mul-result g c =
    let s = c.self.inside in
    let f = c.count_less-less.ensures in
    let part : Spilled = record { start = s.start; count = s.count; keys = s.keys.items; kept = s.kept; segment = s.was.value } in
    let begun = part-begins-by part c.self.invariant c.as_slice.result.now c.as_slice.ensures.value c.args.key.now c.count_less-less.result f.within f.less f.others in
    let within : 128 * (c.count_less-less.result - 1) ≤ s.count = begins-within part c.self.invariant c.args.key.now _ begun in
    omega (arith, within, c.saturating_sub.ensures, c.self.invariant.low)

pub returns-clause-place : goal.returns-clause-place
returns-clause-place g c =
    let s = c.self.inside in
    let f = c.count_less-less.ensures in
    let part : Spilled = record { start = s.start; count = s.count; keys = s.keys.items; kept = s.kept; segment = s.was.value } in
    rw (← c.self.view_is)
    (ap (λ n. 128 * n) c.saturating_sub.ensures
    ∙ place-is part c.self.invariant c.as_slice.result.now c.as_slice.ensures.value c.args.key.now c.count_less-less.result f.count)

pub returns-clause-begins : goal.returns-clause-begins
returns-clause-begins g c =
    let s = c.self.inside in
    let f = c.count_less-less.ensures in
    let part : Spilled = record { start = s.start; count = s.count; keys = s.keys.items; kept = s.kept; segment = s.was.value } in
    let begun = part-begins-by part c.self.invariant c.as_slice.result.now c.as_slice.ensures.value c.args.key.now c.count_less-less.result f.within f.less f.others in
    rw (← c.self.view_is) (subst (λ (n : ℕ). Begins c.args.key.now s.was.value.rows (128 * n)) (sym c.saturating_sub.ensures) begun)

pub returns-clause-within : goal.returns-clause-within
returns-clause-within g c =
    let s = c.self.inside in
    let f = c.count_less-less.ensures in
    let part : Spilled = record { start = s.start; count = s.count; keys = s.keys.items; kept = s.kept; segment = s.was.value } in
    let begun = part-begins-by part c.self.invariant c.as_slice.result.now c.as_slice.ensures.value c.args.key.now c.count_less-less.result f.within f.less f.others in
    let within : 128 * (c.count_less-less.result - 1) ≤ s.count = begins-within part c.self.invariant c.args.key.now _ begun in
    rw (← c.self.view_is) (omega (arith, within, c.saturating_sub.ensures))
