use Rattle.std.proofs.Common.{Result, Ok, Err, IfErr}
use Rattle.std.proofs.lemmas.Result.{IfOk-weaker}
use Rattle.http_wire.proofs.Growing.{skips-finds, skips-misses}
use Rattle.http_wire.proofs.head.find_head.Goals as goal

if_err : {A E : Type 0} (r : Result A E) (P Q : E → Type 0) → ((e : E) → P e → Q e) → IfErr r P → IfErr r Q
if_err (Ok a) P Q on holds = tt
if_err (Err e) P Q on holds = on e holds

pub returns-clause-found : goal.returns-clause-found
returns-clause-found g c =
    IfOk-weaker c.find_end.result _ _
    (λ count finds. skips-finds c.in_ok-skipped.skipped count _ _ _ _ _ _ c.in_ok-skipped.ensures.skipped finds)
    c.find_end.ensures.found

pub returns-clause-missed : goal.returns-clause-missed
returns-clause-missed g c =
    if_err c.find_end.result _ _
    (λ asked misses. skips-misses c.in_ok-skipped.skipped asked _ _ _ _ _ c.in_ok-skipped.ensures.skipped misses)
    c.find_end.ensures.missed
