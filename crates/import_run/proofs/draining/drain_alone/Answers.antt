use Rattle.std.proofs.Common.{◌∙◌, arith}
use Rattle.import_run.proofs.DrainLemmas.{drains_by, few_by, one_shorter}
use Rattle.import_run.proofs.draining.drain_alone.Goals as goal

pub overflow_add-jobs : goal.overflow_add-jobs
overflow_add-jobs g c =
    omega (arith, few_by c.args.ingest.now.index c.batches-before.ensures.list, c.draining.invariant.counted)

pub draining-preserved : goal.draining-preserved
draining-preserved g c =
    let merges = c.in-Joined.ensures.merges in
    let shorter = one_shorter c.draining.ingest.index c.merge_due.new.ingest.index merges.0 merges.1 in
    record {
      same_journal = c.merge_due.ensures.same.same_journal ∙ c.draining.invariant.same_journal;
      same_manifest = c.merge_due.ensures.same.same_manifest ∙ c.draining.invariant.same_manifest;
      same_failed = c.merge_due.ensures.same.same_failed ∙ c.draining.invariant.same_failed;
      counted = omega (arith, shorter, c.draining.invariant.counted);
    }

pub draining-smaller : goal.draining-smaller
draining-smaller g c =
    let merges = c.in-Joined.ensures.merges in
    omega (arith, one_shorter c.draining.ingest.index c.merge_due.new.ingest.index merges.0 merges.1)

pub returns-in-Left : goal.returns-in-Left
returns-in-Left g c = record {
  answers = drains_by c.in-Left.end c.draining.jobs c.args.ingest.now c.draining.ingest c.merge_due.new.ingest c.draining.invariant.counted c.in-Left.ensures.merges;
  same_journal = c.merge_due.ensures.same.same_journal ∙ c.draining.invariant.same_journal;
  same_manifest = c.merge_due.ensures.same.same_manifest ∙ c.draining.invariant.same_manifest;
  same_failed = c.merge_due.ensures.same.same_failed ∙ c.draining.invariant.same_failed;
}
