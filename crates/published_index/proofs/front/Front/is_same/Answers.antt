use Rattle.std.proofs.Common.{ap, subst, List}
use mathlib.Core.List.{IsPrefix}
use Rattle.explorer_model.specs.declared.archive.Batch.{Batch}
use Rattle.published_index.proofs.PrefixLemmas.{where-same}
use Rattle.published_index.proofs.front.Front.is_same.Goals as goal

pub returns : goal.returns
returns c =
    let both = c.learn.new.self.log in
    let own : IsPrefix c.self.inside.seen.log both = subst (λ (l : List Batch). IsPrefix l both) (ap (λ s. s.log) c.again-both.ensures) c.learn.ensures.2 in
    rw (← c.self.view_is, ← c.other.view_is) (where-same c.self.inside.count c.other.inside.count c.self.inside.seen.log c.other.inside.seen.log both own c.learn.ensures.3 c.self.invariant c.other.invariant)
