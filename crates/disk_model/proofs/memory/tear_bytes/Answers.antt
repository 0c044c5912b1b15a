use Rattle.std.proofs.Common.{arith}
use Rattle.disk_model.proofs.CrashLemmas.{torn-by-bytes}
use Rattle.disk_model.proofs.memory.tear_bytes.Goals as goal

pub returns : goal.returns
returns c =
    let l = c.loop-index in
    torn-by-bytes c.args.number c.args.piece.now l.piece l.auto.piece
    (λ k inside. l.invariant.0 k (omega (arith, c.loop-index-test.false, inside, l.auto.piece)))
