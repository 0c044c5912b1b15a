use Rattle.std.proofs.Common.{◌≡◌, List, ℕ, length, refl, arith, string_bytes}
use Rattle.outside.specs.Stream.{FailsToTake, Takes}
use Rattle.explorer.specs.World.{world}
use Rattle.explorer.proofs.MigrateLemmas.{migrated, not_had_or_read, unmade}
use Rattle.explorer.proofs.migrate.migrate.Goals as goal

pub returns-in-Err : goal.returns-in-Err
returns-in-Err g c = λ input errors.
    not_had_or_read (string_bytes c.args.old) (string_bytes c.args.new)
    (world input (g.O.Sink.sink c.args.output.now) errors (g.H.Host.host c.args.host.now))
    (world input (g.O.Sink.sink c.args.output.now) errors (g.H.Host.host c.read_old.new.host))
    refl c.in-Err.fault c.in-Err.ensures.reads

pub returns-in-Err-make_new : goal.returns-in-Err-make_new
returns-in-Err-make_new g c = λ input errors.
    unmade (string_bytes c.args.old) (string_bytes c.args.new)
    (world input (g.O.Sink.sink c.args.output.now) errors (g.H.Host.host c.args.host.now))
    (world input (g.O.Sink.sink c.args.output.now) errors (g.H.Host.host c.make_new.new.host))
    refl _ _ c.in-Ok.ensures.reads c.in-Err-make_new.fault (rw c.in-Err-make_new.is at (rw c.as_slice.ensures.value at c.make_new.ensures))

pub returns-in-Ok-write : goal.returns-in-Ok-write
returns-in-Ok-write g c = λ input errors.
    let old = g.O.Sink.sink c.args.output.now in
    let new = g.O.Sink.sink c.write.new.self in
    let count : c.len.result ≡ length c.in-Ok.journal.items = omega (arith, c.len.ensures, c.in-Ok.journal.ok.0) in
    let wrote = rw count at (rw c.migrated_line-line.ensures at (rw c.as_str.ensures.value at (rw c.as_bytes.ensures.value at c.in-Ok-write.ensures.takes))) in
    migrated (λ (line : List ℕ). Takes line old new) (string_bytes c.args.old) (string_bytes c.args.new)
    (world input old errors (g.H.Host.host c.args.host.now))
    (world input new errors (g.H.Host.host c.make_new.new.host))
    _ _ c.in-Ok.ensures.reads (rw c.as_slice.ensures.value at (rw c.in_default.is at c.make_new.ensures)) wrote refl

pub returns : goal.returns
returns g c = λ input errors.
    let old = g.O.Sink.sink c.args.output.now in
    let new = g.O.Sink.sink c.write.new.self in
    let count : c.len.result ≡ length c.in-Ok.journal.items = omega (arith, c.len.ensures, c.in-Ok.journal.ok.0) in
    let wrote = rw count at (rw c.migrated_line-line.ensures at (rw c.as_str.ensures.value at (rw c.as_bytes.ensures.value at c.in-Err-write.ensures.fails))) in
    migrated (λ (line : List ℕ). FailsToTake line old new) (string_bytes c.args.old) (string_bytes c.args.new)
    (world input old errors (g.H.Host.host c.args.host.now))
    (world input new errors (g.H.Host.host c.make_new.new.host))
    _ _ c.in-Ok.ensures.reads (rw c.as_slice.ensures.value at (rw c.in_default.is at c.make_new.ensures)) wrote refl
