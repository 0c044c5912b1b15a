use Rattle.std.proofs.Common.{refl}
use Rattle.explorer.proofs.serve.workers.Worker.work.Goals as goal

pub returns-in-File : goal.returns-in-File
returns-in-File g c = rw c.in-File.is
    (record {
      report = c.import-report.result;
      report_is = refl;
      imports = rw c.none.ensures at c.import-report.ensures.imports;
      drawn = c.import-report.ensures.drawn;
    })

-- an index of no game covers a front of everything
pub serve_door-requires-after_bounds : goal.serve_door-requires-after_bounds
serve_door-requires-after_bounds g c κs within =
    rw c.new-players.ensures (record { rest = c.in-Reader.reader.pass.seen; is = refl })
