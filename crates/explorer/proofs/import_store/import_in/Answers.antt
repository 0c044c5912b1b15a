use Rattle.std.proofs.Common.{subst, sym}
use Rattle.ingest_desk.specs.Stored.{Stored, journal}
use Rattle.explorer.specs.Imported.{ImportedTo}
use Rattle.explorer.proofs.import_store.import_in.Goals as goal

pub returns : goal.returns
returns g c =
    let source = g.S.Source.source c.args.source.now in
    let source_after = g.S.Source.source c.import_into-came.new.source in
    let P : Stored g.row.D.Denot → Type 0 = λ s. ImportedTo c.args.label (journal s) (g.D.Disk.disk s.manifest.disk) (g.D.Disk.disk c.into_disk-2.result) source source_after c.import_into-came.result in
    let Q : g.row.D.Denot → Type 0 = λ d. ImportedTo c.args.label (journal c.in-Ok.named.0) (g.D.Disk.disk c.in-Ok.named.0.manifest.disk) (g.D.Disk.disk d) source source_after c.import_into-came.result in
    subst P c.in-Ok.ensures.ingest (subst Q (sym c.into_disk-2.ensures) (journal c.import_into-came.new.ingest, c.import_into-came.ensures))
