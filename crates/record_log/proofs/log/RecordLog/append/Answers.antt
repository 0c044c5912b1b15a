use Rattle.std.proofs.Common.{◌+◌, ◌∙◌, ℕ, refl, ap}
use Rattle.record_log.proofs.Appending.{one-write-leaves, both-writes-leave, both-writes-add}
use Rattle.record_log.proofs.Told.{done_so}
use Rattle.record_log.proofs.log.RecordLog.append.Goals as goal
use Rattle.record_log.proofs.log.RecordLog.append.Goals.{else-is_ok-via-then-is_ok+else-is_ok-2, else-is_ok-via-else-is_ok}

pub returns-then-is_ok-2-clause-added : goal.returns-then-is_ok-2-clause-added
returns-then-is_ok-2-clause-added g c =
    let allowed = rw (← c.self.view_is) at c.requires.length in
    let low = rw (← c.self.view_is) at c.requires.low in
    rw (← c.self.view_is)
    (λ payloads holds.
    both-writes-add g.D.Disk.disk g.D.Disk.left_since payloads c.args.payload.now _ holds allowed low g.met.D.Disk.told_left
    c.deref.result.now (c.deref.ensures.value ∙ c.in-Ok.ensures.bytes) c.write_synced.new.disk c.write_synced.ensures.any_moment
    (done_so c.write_synced.result c.if-is_ok.ensures.value c.write_synced.ensures.written) _ holds.sound refl
    (ap (λ (n : ℕ). c.self.inside.gate + n) (c.len.ensures ∙ c.in-Ok.ensures.size))
    (done_so c.write_synced-then-is_ok.result c.if-is_ok-2.ensures.value c.write_synced-then-is_ok.ensures.written))

pub returns-then-is_ok-2-clause-any_moment : goal.returns-then-is_ok-2-clause-any_moment
returns-then-is_ok-2-clause-any_moment g c =
    let allowed = rw (← c.self.view_is) at c.requires.length in
    let low = rw (← c.self.view_is) at c.requires.low in
    rw (← c.self.view_is)
    (λ payloads holds.
    both-writes-leave g.D.Disk.disk g.D.Disk.left_since payloads c.args.payload.now _ holds allowed low g.met.D.Disk.told_left
    c.deref.result.now (c.deref.ensures.value ∙ c.in-Ok.ensures.bytes) c.write_synced.new.disk c.write_synced.ensures.any_moment
    (done_so c.write_synced.result c.if-is_ok.ensures.value c.write_synced.ensures.written) _
    c.write_synced-then-is_ok.ensures.any_moment)

pub returns-clause-any_moment : goal.returns-clause-any_moment
returns-clause-any_moment g c =
    let allowed = rw (← c.self.view_is) at c.requires.length in
    let low = rw (← c.self.view_is) at c.requires.low in
    let behind = c.deref.ensures.value ∙ c.in-Ok.ensures.bytes in
    rw (← c.self.view_is)
    (λ payloads holds.
    elim c.else-is_ok.branch [
      | else-is_ok-via-then-is_ok+else-is_ok-2 w ↦
          rw w.self-inside-is
          (both-writes-leave g.D.Disk.disk g.D.Disk.left_since payloads c.args.payload.now _ holds allowed low g.met.D.Disk.told_left
          c.deref.result.now behind c.write_synced.new.disk c.write_synced.ensures.any_moment
          (done_so c.write_synced.result w.if-is_ok.ensures.value c.write_synced.ensures.written) _
          w.write_synced-then-is_ok.ensures.any_moment)
      | else-is_ok-via-else-is_ok w ↦
          rw w.self-inside-is
          (one-write-leaves g.D.Disk.disk g.D.Disk.left_since payloads c.args.payload.now _ holds allowed low g.met.D.Disk.told_left
          c.deref.result.now behind _ c.write_synced.ensures.any_moment)
    ])
