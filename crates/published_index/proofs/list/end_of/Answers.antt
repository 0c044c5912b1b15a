use Rattle.std.proofs.Common.{arith, sym}
use Rattle.std.specs.Arc.{arc_value}
use Rattle.published_index.proofs.CoverLemmas.{last-end}
use Rattle.published_index.proofs.list.end_of.Goals as goal

pub returns-in-Some : goal.returns-in-Some
returns-in-Some c =
    let last = last-end arc_value c.args.segments.now 0 c.in-Some.last.now c.requires.covers.adjoin (sym c.in-Some.ensures.value) in
    rw (c.span-span.ensures.first, c.span-span.ensures.count, c.deref.ensures) (omega (arith, last))
