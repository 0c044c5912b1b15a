use Rattle.std.proofs.Common.{◌≤◌, arith, length, sym, ap, ◌∙◌, is_some}
use Rattle.ingest_desk.specs.IdTable.{number_at}
use Rattle.ingest_desk.proofs.RegisterLemmas.{none_clashing, none_more, some_clash}
use Rattle.ingest_desk.proofs.ids.Ids.has_any.Goals as goal

pub returns-then-is_some-clause-some : goal.returns-then-is_some-clause-some
returns-then-is_some-clause-some c = λ is.
    some_clash (number_at c.args.self.now) c.args.segment.now.classes c.loop-n.n c.classes.result.now
    c.classes.ensures (ap is_some (sym c.find.ensures) ∙ sym c.is_some.ensures ∙ c.if-is_some.true)

pub loop-n-preserved : goal.loop-n-preserved
loop-n-preserved c =
    none_more (number_at c.args.self.now) c.args.segment.now.classes c.loop-n.n c.classes.result.now
    c.classes.ensures (ap is_some (sym c.find.ensures) ∙ sym c.is_some.ensures ∙ c.if-is_some.false)
    c.loop-n.invariant

pub returns-clause-none : goal.returns-clause-none
returns-clause-none c = λ is.
    let all = c.args.segment.now.classes in
    let end : length all ≤ c.loop-n.n = omega (arith, c.loop-n-test.false, c.games-n-end.ensures) in
    none_clashing (number_at c.args.self.now) all c.loop-n.n end c.loop-n.invariant
