use Rattle.std.proofs.Common.{◌≡◌, ℕ, List, length}
use Rattle.ingest_desk.specs.Installs.{list_by}
use Rattle.ingest_desk.specs.Stored.{journal}
use Rattle.explorer.specs.Trial.Segments.{AreJoined}
use Rattle.explorer.specs.Trial.{segment_sizes}
use Rattle.explorer.proofs.trial.merge_all.Given as goal

abbrev pub invariant-merging : goal.invariant-merging
invariant-merging g l = record {
  same_journal : journal l.ingest ≡ journal l.fn.ingest;
  same_manifest : l.ingest.manifest ≡ l.fn.ingest.manifest;
  same_failed : l.ingest.failed ≡ l.fn.ingest.failed;
  joined : (new : List ℕ) → AreJoined (segment_sizes (list_by l.ingest.index)) new
      → AreJoined (segment_sizes (list_by l.fn.ingest.index)) new;
}

abbrev pub decreases-merging : goal.decreases-merging
decreases-merging g l = length (list_by l.ingest.index)
