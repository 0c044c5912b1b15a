use Rattle.std.proofs.Common.{◌≡◌, ℕ, length, subst, ap, ◌∙◌, arith, rules}
use Rattle.disk_model.proofs.Moments.{quiet_done, quiet_failed}
use Rattle.disk_model.specs.Disk.{DiskState, LeavesOnly}
use Rattle.record_log.specs.Log.{IsTornOf}
use Rattle.record_log.proofs.Creation.{quiet-torn, torn-behind-quiet, written-alone}
use Rattle.record_log.proofs.Told.{told-fails, told-stays}
use Rattle.record_log.proofs.creating.write_empty.Goals as goal

-- the size is not told
pub returns-in_err-size-clause-told : goal.returns-in_err-size-clause-told
returns-in_err-size-clause-told g c =
    told-fails (g.D.Disk.disk c.args.disk.now) (g.D.Disk.disk c.size.new.self) c.in_err-size.ensures.fails

pub returns-in_err-size-clause-any_moment : goal.returns-in_err-size-clause-any_moment
returns-in_err-size-clause-any_moment g c =
    quiet-torn g.D.Disk.disk g.D.Disk.left_since 0 13 c.args.disk.now c.size.new.self
    (quiet_failed g.D.Disk.disk g.D.Disk.left_since c.args.disk.now c.size.new.self c.size.ensures.crash c.in_err-size.ensures.fails)

pub returns-in_err-size-clause-quiet : goal.returns-in_err-size-clause-quiet
returns-in_err-size-clause-quiet g c = λ filled.
    quiet_failed g.D.Disk.disk g.D.Disk.left_since c.args.disk.now c.size.new.self c.size.ensures.crash c.in_err-size.ensures.fails

-- a disk that is not empty
pub returns-then-size-ne0-clause-told : goal.returns-then-size-ne0-clause-told
returns-then-size-ne0-clause-told g c =
    told-stays (g.D.Disk.disk c.args.disk.now) (g.D.Disk.disk c.size.new.self) c.in_ok-size.ensures.done

pub returns-then-size-ne0-clause-any_moment : goal.returns-then-size-ne0-clause-any_moment
returns-then-size-ne0-clause-any_moment g c =
    quiet-torn g.D.Disk.disk g.D.Disk.left_since 0 13 c.args.disk.now c.size.new.self
    (quiet_done g.D.Disk.disk g.D.Disk.left_since c.args.disk.now c.size.new.self c.size.ensures.crash c.in_ok-size.ensures.done)

pub returns-then-size-ne0-clause-quiet : goal.returns-then-size-ne0-clause-quiet
returns-then-size-ne0-clause-quiet g c = λ filled.
    quiet_done g.D.Disk.disk g.D.Disk.left_since c.args.disk.now c.size.new.self c.size.ensures.crash c.in_ok-size.ensures.done

-- an empty one
pub returns-in_err-write_synced-clause-told : goal.returns-in_err-write_synced-clause-told
returns-in_err-write_synced-clause-told g c = λ is.
    c.write_synced.ensures.told
    (told-stays (g.D.Disk.disk c.args.disk.now) (g.D.Disk.disk c.size.new.self) c.in_ok-size.ensures.done is)

pub returns-in_err-write_synced-clause-any_moment : goal.returns-in_err-write_synced-clause-any_moment
returns-in_err-write_synced-clause-any_moment g c =
    let long : length c.empty_bytes.result ≡ 13 = omega (arith, ap length c.empty_bytes.ensures) in
    torn-behind-quiet g.D.Disk.disk g.D.Disk.left_since 0 13 c.args.disk.now c.size.new.self c.write_synced.new.disk
    (quiet_done g.D.Disk.disk g.D.Disk.left_since c.args.disk.now c.size.new.self c.size.ensures.crash c.in_ok-size.ensures.done)
    (subst (λ (n : ℕ). LeavesOnly g.D.Disk.disk g.D.Disk.left_since c.size.new.self c.write_synced.new.disk
    (IsTornOf g.D.Disk.disk g.D.Disk.left_since c.size.new.self 0 n)) long c.write_synced.ensures.any_moment)

pub returns-in_err-write_synced-clause-quiet : goal.returns-in_err-write_synced-clause-quiet
returns-in_err-write_synced-clause-quiet g c = λ filled.
    let empty : (g.D.Disk.disk c.args.disk.now).size ≡ 0 = search rules in
    absurd (filled empty)

pub returns-clause-told : goal.returns-clause-told
returns-clause-told g c = λ is.
    c.write_synced.ensures.told
    (told-stays (g.D.Disk.disk c.args.disk.now) (g.D.Disk.disk c.size.new.self) c.in_ok-size.ensures.done is)

pub returns-clause-any_moment : goal.returns-clause-any_moment
returns-clause-any_moment g c =
    let long : length c.empty_bytes.result ≡ 13 = omega (arith, ap length c.empty_bytes.ensures) in
    torn-behind-quiet g.D.Disk.disk g.D.Disk.left_since 0 13 c.args.disk.now c.size.new.self c.write_synced.new.disk
    (quiet_done g.D.Disk.disk g.D.Disk.left_since c.args.disk.now c.size.new.self c.size.ensures.crash c.in_ok-size.ensures.done)
    (subst (λ (n : ℕ). LeavesOnly g.D.Disk.disk g.D.Disk.left_since c.size.new.self c.write_synced.new.disk
    (IsTornOf g.D.Disk.disk g.D.Disk.left_since c.size.new.self 0 n)) long c.write_synced.ensures.any_moment)

pub returns-clause-quiet : goal.returns-clause-quiet
returns-clause-quiet g c = λ filled.
    let empty : (g.D.Disk.disk c.args.disk.now).size ≡ 0 = search rules in
    absurd (filled empty)

pub returns-clause-done : goal.returns-clause-done
returns-clause-done g c =
    let empty : (g.D.Disk.disk c.args.disk.now).size ≡ 0 = search rules in
    let still : (g.D.Disk.disk c.size.new.self).size ≡ 0 = search rules in
    let same = ap (λ (s : DiskState). s.faults) c.in_ok-size.ensures.done in
    let long : length c.empty_bytes.result ≡ 13 = omega (arith, ap length c.empty_bytes.ensures) in
    record {
      was_empty = empty;
      size = omega (arith, c.in_ok-write_synced.ensures.size, still, long);
      no_fault = c.in_ok-write_synced.ensures.counts ∙ same;
      file = λ image left.
          written-alone g.D.Disk.disk g.D.Disk.left_since g.met.D.Disk.told_size c.size.new.self c.write_synced.new.disk
          c.empty_bytes.result still c.in_ok-write_synced.ensures.written image left
          ∙ c.empty_bytes.ensures;
    }
