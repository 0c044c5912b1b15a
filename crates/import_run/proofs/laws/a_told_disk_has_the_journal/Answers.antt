use Rattle.ingest_desk.specs.Stored.{journal}
use Rattle.ingest_desk.proofs.KeptLemmas.{left_broken, sound_manifest}
use Rattle.import_run.proofs.laws.a_told_disk_has_the_journal.Goals as goal

pub returns-clause-sound : goal.returns-clause-sound
returns-clause-sound g c = λ store file told keeps none.
    let kept = sound_manifest g.D.Disk.disk g.D.Disk.left_since store.failed (journal store) store.manifest keeps none in
    kept.images file (g.met.D.Disk.told_left store.manifest.disk file told)

pub returns-clause-closed : goal.returns-clause-closed
returns-clause-closed g c = λ store file before after told keeps is.
    let kept = left_broken g.D.Disk.disk g.D.Disk.left_since store.failed (before, after) (journal store) store.manifest keeps is in
    (kept.batch, kept.is_failed, kept.sound, kept.images file (g.met.D.Disk.told_left store.manifest.disk file told))
