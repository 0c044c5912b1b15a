use Rattle.std.proofs.Common.{◌-◌, ◌++◌, length, take, drop, arith, length-append}
use Rattle.std.proofs.lemmas.List.{length-take-le}
use Rattle.http_wire.proofs.Bodies.{filled-gives}
use Rattle.http_wire.proofs.body.read_rest.Goals as goal

pub loop-at-preserved : goal.loop-at-preserved
loop-at-preserved g c =
    let body = c.loop-at.body in
    let at = c.loop-at.at in
    let into = c.read.new.into in
    let gives = c.in-Ok.ensures.gives in
    let rest = drop (length body - at) (drop at body) in
    record {
      within = omega (
        arith,
        length-append (take at body) (into ++ rest),
        length-append into rest,
        length-take-le at body c.loop-at.invariant.within,
        gives.within,
      );
      filled =
          filled-gives c.args.start at c.in-Ok.count (length body - at) _ body into _ _ _
          c.loop-at.invariant.within c.loop-at.invariant.filled gives;
    }
