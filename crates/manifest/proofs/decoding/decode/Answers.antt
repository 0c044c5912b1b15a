use Rattle.std.proofs.Common.{Some, arith}
use Rattle.manifest.proofs.ReadingLemmas.{batch-is, was-stored}
use Rattle.manifest.proofs.decoding.decode.Goals as goal

pub returns-clause-stored : goal.returns-clause-stored
returns-clause-stored c =
    was-stored c.args.payload.now (record { label = c.in-Some.label; texts = c.in-Some-2.texts }) (λ i. omega (arith, c.type_inv.payload i))
    (batch-is c.args.payload.now c.in-Some.label c.in-Some.rest.now (Some c.in-Some-2.texts) c.in-Some.ensures
    (rw c.in-Some-2.is at c.in_ok-texts.ensures))
