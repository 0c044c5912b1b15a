use Rattle.std.proofs.Common.{◌∙◌, reverse, take, ap, sym, rules}
use Rattle.disk_model.specs.Memory.{content_of}
use Rattle.disk_model.proofs.CrashLemmas.{next-call}
use Rattle.disk_model.proofs.memory.replay.Goals as goal

pub loop-call-init : goal.loop-call-init
unfolding content_of
loop-call-init c = search rules

pub loop-call-preserved : goal.loop-call-preserved
loop-call-preserved c =
    let l = c.loop-call in (
      c.redo.ensures.content (reverse (take l.call-index c.args.calls.now)) l.invariant.0
          ∙ ap content_of (sym (next-call c.args.calls.now l.call-index c.call-item.result c.loop-call-test.true c.call-item.is)),
      c.redo.ensures.room.0,
      c.redo.ensures.room.1,
    )
