use Rattle.std.proofs.Common.{arith}
use Rattle.manifest.proofs.FirstLemmas.{first-bare}
use Rattle.manifest.proofs.first.decode_first.Goals as goal

pub returns-clause-bare : goal.returns-clause-bare
returns-clause-bare c =
    let read = rw c.in-Some.is at c.in_ok-texts.ensures in
    rw c.none-label.ensures (first-bare c.args.payload.now c.in-Some.texts (λ i. omega (arith, c.type_inv.payload i)) read)
