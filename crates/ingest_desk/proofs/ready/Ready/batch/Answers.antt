use Rattle.std.proofs.Common.{◌∙◌, length, ap, arith}
use Rattle.tally_rows.specs.Tally.{Counted}
use Rattle.ingest_desk.proofs.RegisterLemmas.{first_is}
use Rattle.ingest_desk.proofs.ready.Ready.batch.Goals as goal

pub batch_of-requires : goal.batch_of-requires
batch_of-requires c =
    let batches = ap length c.self.invariant.made_of.batches in
    omega (arith, batches)

pub returns-clause-batch : goal.returns-clause-batch
returns-clause-batch c =
    let s = c.self in
    first_is _ _ _ s.invariant.made_of.batches c.batch_of.ensures ∙ ap (λ (t : Counted). t.batch) s.view_is

pub returns-clause-counted : goal.returns-clause-counted
returns-clause-counted c =
    let s = c.self in
    rw (← s.view_is) s.invariant.counted
