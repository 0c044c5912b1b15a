use Rattle.std.proofs.Common.{length}
use Rattle.record_log.proofs.SyncedWrites.{after_write, after_sync, is-written}
use Rattle.record_log.proofs.Told.{told-fails, told-stays, told-torn, told-writes}
use Rattle.record_log.proofs.writing.write_synced.Goals as goal

pub returns-clause-written : goal.returns-clause-written
returns-clause-written g c =
    is-written g.D.Disk.disk g.D.Disk.left_since c.args.disk.now c.write_at.new.self c.sync.new.self c.args.at
    c.args.piece.now c.in_ok-write_at.ensures.done c.in_ok-sync.ensures.done c.in_ok-sync.ensures.durable

pub returns-clause-any_moment : goal.returns-clause-any_moment
returns-clause-any_moment g c =
    after_sync g.D.Disk.disk g.D.Disk.left_since c.args.disk.now c.write_at.new.self c.sync.new.self c.args.at
    (length c.args.piece.now) c.write_at.ensures.crash c.sync.ensures.crash

pub returns-in_err-sync-clause-any_moment : goal.returns-in_err-sync-clause-any_moment
returns-in_err-sync-clause-any_moment g c =
    after_sync g.D.Disk.disk g.D.Disk.left_since c.args.disk.now c.write_at.new.self c.sync.new.self c.args.at
    (length c.args.piece.now) c.write_at.ensures.crash c.sync.ensures.crash

pub returns-in_err-write_at-clause-any_moment : goal.returns-in_err-write_at-clause-any_moment
returns-in_err-write_at-clause-any_moment g c =
    after_write g.D.Disk.disk g.D.Disk.left_since c.args.disk.now c.write_at.new.self c.args.at
    (length c.args.piece.now) c.write_at.ensures.crash

pub returns-clause-told : goal.returns-clause-told
returns-clause-told g c = λ is.
    told-stays (g.D.Disk.disk c.write_at.new.self) (g.D.Disk.disk c.sync.new.self) c.in_ok-sync.ensures.done
    (told-writes c.args.at c.args.piece.now (g.D.Disk.disk c.args.disk.now) (g.D.Disk.disk c.write_at.new.self) c.in_ok-write_at.ensures.done is)

pub returns-in_err-sync-clause-told : goal.returns-in_err-sync-clause-told
returns-in_err-sync-clause-told g c = λ is.
    told-fails (g.D.Disk.disk c.write_at.new.self) (g.D.Disk.disk c.sync.new.self) c.in_err-sync.ensures.fails
    (told-writes c.args.at c.args.piece.now (g.D.Disk.disk c.args.disk.now) (g.D.Disk.disk c.write_at.new.self) c.in_ok-write_at.ensures.done is)

pub returns-in_err-write_at-clause-told : goal.returns-in_err-write_at-clause-told
returns-in_err-write_at-clause-told g c =
    told-torn c.args.at (length c.args.piece.now) (g.D.Disk.disk c.args.disk.now) (g.D.Disk.disk c.write_at.new.self) c.in_err-write_at.ensures.fails
