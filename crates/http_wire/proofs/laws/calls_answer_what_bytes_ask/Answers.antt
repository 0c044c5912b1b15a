use Rattle.std.proofs.Common.{arith}
use Rattle.http_wire.specs.Asking.{fresh}
use Rattle.http_wire.proofs.RunLemmas.{run}
use Rattle.http_wire.proofs.laws.calls_answer_what_bytes_ask.Goals as goal

pub returns : goal.returns
returns c bytes asked new before after is calls ends =
    run c.what_stands_first_stays.ensures.whole c.what_stands_first_stays.ensures.refused c.requests_are_bounded.ensures.last
    asked fresh new before after bytes (omega arith) is calls ends
