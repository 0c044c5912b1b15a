use Rattle.std.proofs.Common.{◌≡◌, List, ℕ, take, subst, ap}
use Rattle.httparse.specs.Grammar.{RequestHead}
use Rattle.http_wire.specs.declared.judging.Judged.{Judged}
use Rattle.http_wire.specs.Judging.{Says}
use Rattle.http_wire.proofs.Requests.{next-request, next-lacking}
use Rattle.http_wire.proofs.wire.read_request.Goals as goal

-- the text that was judged is the head
says-same : (count : ℕ) (shown ahead : List ℕ) (judged : Judged) → shown ≡ ahead
    → (head : RequestHead) × Says (take count shown) judged head
    → (head : RequestHead) × Says (take count ahead) judged head
says-same count shown ahead judged same says =
    subst (λ (text : List ℕ). (head : RequestHead) × Says text judged head)
    (ap (take count) same) says

pub returns-in-Ok-read_body-clause-next : goal.returns-in-Ok-read_body-clause-next
returns-in-Ok-read_body-clause-next g c =
    next-request c.args.more c.in-Ok.count c.in-Ok-judge.judged c.request_of.result c.in-Ok-read_body.body.items
    c.args.ahead.now c.find_head.new.ahead c.skip.new.self c.read_body.new.ahead _ _ _
    c.in-Ok.ensures.found
    (says-same c.in-Ok.count c.as_slice.result.now c.find_head.new.ahead c.in-Ok-judge.judged
    c.as_slice.ensures.items c.in-Ok-judge.ensures.says)
    c.skip.ensures c.in-Ok-read_body.ensures.took c.request_of.ensures

pub returns-in-Err-read_body-clause-next : goal.returns-in-Err-read_body-clause-next
returns-in-Err-read_body-clause-next g c =
    next-lacking c.args.more c.in-Ok.count c.in-Ok-judge.judged c.in-Err-read_body.asked
    c.args.ahead.now c.find_head.new.ahead c.skip.new.self c.read_body.new.ahead _ _ _
    c.in-Ok.ensures.found
    (says-same c.in-Ok.count c.as_slice.result.now c.find_head.new.ahead c.in-Ok-judge.judged
    c.as_slice.ensures.items c.in-Ok-judge.ensures.says)
    c.skip.ensures c.in-Err-read_body.ensures.lacked
