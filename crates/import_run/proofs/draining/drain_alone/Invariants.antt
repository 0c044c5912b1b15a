use Rattle.std.proofs.Common.{◌≡◌, ◌+◌, length}
use Rattle.ingest_desk.specs.Installs.{list_by}
use Rattle.ingest_desk.specs.Stored.{journal}
use Rattle.import_run.proofs.draining.drain_alone.Given as goal

abbrev pub invariant-draining : goal.invariant-draining
invariant-draining g l = record {
  same_journal : journal l.ingest ≡ journal l.fn.ingest;
  same_manifest : l.ingest.manifest ≡ l.fn.ingest.manifest;
  same_failed : l.ingest.failed ≡ l.fn.ingest.failed;
  counted : l.jobs + length (list_by l.ingest.index) ≡ length (list_by l.fn.ingest.index);
}

abbrev pub decreases-draining : goal.decreases-draining
decreases-draining g l = length (list_by l.ingest.index)
