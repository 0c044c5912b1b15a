use Rattle.std.proofs.Common.{Result, Ok, Err, OnErr}
use Rattle.http_wire.proofs.Sending.{fails-second}
use Rattle.http_wire.proofs.reply.send_both.Goals as goal

on_err : {A E : Type 0} (r : Result A E) (P Q : Type 0) → (P → Q) → OnErr r P → OnErr r Q
on_err (Ok a) P Q on holds = tt
on_err (Err e) P Q on holds = on holds

pub returns-in-Ok-clause-fails : goal.returns-in-Ok-clause-fails
returns-in-Ok-clause-fails g c =
    on_err c.send-in-Ok.result _ _
    (λ fails. fails-second c.args.first.now c.args.second.now _ _ _ c.in-Ok.ensures.takes fails)
    c.send-in-Ok.ensures.fails
