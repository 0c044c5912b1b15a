use Rattle.std.proofs.Common.{◌∙◌, ap}
use Rattle.published_index.specs.States.{Publishing}
use Rattle.explorer.specs.Trial.{segment_sizes}
use Rattle.explorer.proofs.TrialLemmas.{join_first, join_none}
use Rattle.explorer.proofs.trial.merge_all.Goals as goal

pub merging-preserved : goal.merging-preserved
merging-preserved g c =
    let after = c.merge_due.new.ingest.index in
    let merges = c.in-Joined.ensures.merges in
    record {
      same_journal = c.merge_due.ensures.same.same_journal ∙ c.merging.invariant.same_journal;
      same_manifest = c.merge_due.ensures.same.same_manifest ∙ c.merging.invariant.same_manifest;
      same_failed = c.merge_due.ensures.same.same_failed ∙ c.merging.invariant.same_failed;
      joined = λ new later. c.merging.invariant.joined new (join_first c.merging.ingest.index after.list after.held new merges.0 merges.1 later);
    }

pub returns-in-Left-Idle-clause-joined : goal.returns-in-Left-Idle-clause-joined
returns-in-Left-Idle-clause-joined g c =
    let after = c.merge_due.new.ingest.index in
    let merges = rw c.in-Left-Idle.field-0-is at c.in-Left-Idle.ensures.merges in
    c.merging.invariant.joined (segment_sizes after.list) (join_none c.merging.ingest.index after.list (ap (λ (p : Publishing). p.list) merges.0) merges.1)
