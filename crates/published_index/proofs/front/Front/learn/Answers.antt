use Rattle.std.proofs.Common.{◌≤◌, ap, subst, arith, length, List}
use mathlib.Core.List.{IsPrefix}
use Rattle.explorer_model.specs.declared.archive.Batch.{Batch}
use Rattle.published_index.proofs.PrefixLemmas.{prefix-shorter}
use Rattle.published_index.proofs.front.Front.learn.Goals as goal

pub returns-then-self-other-clause-own : goal.returns-then-self-other-clause-own
returns-then-self-other-clause-own c =
    let both = c.learn.new.self.log in
    let own : IsPrefix c.self.inside.seen.log both = subst (λ (l : List Batch). IsPrefix l both) (ap (λ s. s.log) c.again-both.ensures) c.learn.ensures.2 in
    let less : length c.self.inside.seen.log ≤ length c.other.inside.seen.log = omega (arith, c.self.invariant, c.other.invariant) in
    rw (← c.self.view_is) (prefix-shorter c.self.inside.seen.log c.other.inside.seen.log both own c.learn.ensures.3 less)

pub returns-else-self-other-clause-told : goal.returns-else-self-other-clause-told
returns-else-self-other-clause-told c =
    let both = c.learn.new.self.log in
    let own : IsPrefix c.self.inside.seen.log both = subst (λ (l : List Batch). IsPrefix l both) (ap (λ s. s.log) c.again-both.ensures) c.learn.ensures.2 in
    let less : length c.other.inside.seen.log ≤ length c.self.inside.seen.log = omega (arith, c.self.invariant, c.other.invariant) in
    rw (← c.self.view_is, ← c.other.view_is) (prefix-shorter c.other.inside.seen.log c.self.inside.seen.log both c.learn.ensures.3 own less)
