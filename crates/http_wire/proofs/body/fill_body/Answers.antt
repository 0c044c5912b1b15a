use Rattle.std.proofs.Common.{◌≡◌, ◌≤◌, ◌+◌, length, arith}
use Rattle.std.specs.Result.{is_ok}
use Rattle.std.specs.Vec.{vec_len}
use Rattle.http_wire.proofs.Bodies.{breaks-more, either-within}
use Rattle.http_wire.proofs.body.fill_body.Goals as goal

pub returns-in-Err-clause-broken : goal.returns-in-Err-clause-broken
returns-in-Err-clause-broken g c =
    let body = c.loop-body.body in
    let begun : c.len-start.result ≡ length body.items = omega (arith, c.len-start.ensures, body.ok.0) in
    let longer : c.len-start.result + c.min-room.result ≤ c.args.count =
    omega (arith, begun, c.min-room.ensures, c.loop-body.invariant.within) in
    let as_long : vec_len body ≤ c.args.count = omega (arith, body.ok.0, c.loop-body.invariant.within) in
    let room = either-within (is_ok c.resize.result) (c.len-start.result + c.min-room.result) (vec_len body) c.args.count longer as_long in
    let within : length c.deref_mut.result.now ≤ c.args.count = omega (arith, c.deref_mut.ensures.len, c.resize.ensures.len, room) in
    breaks-more c.in-Err.asked c.args.body.now.items body.items c.len-start.result _ c.args.count _ _ _
    c.loop-body.invariant.grows begun within c.in-Err.ensures.broken
