use Rattle.explorer.proofs.ServeLemmas.Drawers.{took-none, took-one}
use Rattle.explorer.proofs.serve.returning.take_drawer.Goals as goal

pub returns-clause-drawn : goal.returns-clause-drawn
returns-clause-drawn g c = rw c.in-Some.is
    (took-one c.in-Some.drawer c.args.cabinet.now.drawer c.take.new.self.drawer c.take.ensures.drawer)

pub returns-in_default-clause-drawn : goal.returns-in_default-clause-drawn
returns-in_default-clause-drawn g c = rw c.in_default.is (took-none c.args.cabinet.now.drawer)
