use Rattle.std.proofs.Common.{◌≡◌, ◌∙◌, ap, length, sym, rules}
use Rattle.std.proofs.lemmas.List.{length-map}
use Rattle.std.specs.Arc.{arc_value}
use Rattle.ingest_desk.specs.Installs.{list_by}
use Rattle.ingest_desk.specs.Stored.{journal}
use Rattle.published_index.specs.States.{Publishing}
use Rattle.explorer.specs.Trial.{segment_sizes}
use Rattle.explorer.proofs.TrialLemmas.{all_published, found_over}
use Rattle.explorer.proofs.trial.count_stored.Goals as goal

pub returns : goal.returns
returns g c =
    let after = c.merge_all.new.ingest in
    let idle = c.in_ok-merge_all.ensures.drained in
    let count : length c.segments.result.now ≡ length after.index.list =
    sym (length-map c.segments.result.now arc_value) ∙ ap length (c.segments.ensures.segments ∙ c.list.ensures.list ∙ ap (λ (p : Publishing). p.list) c.publisher-2.ensures) in
    let covers = all_published after.index.list after.index.held (journal c.args.ingest.now) idle.0 c.merge_all.ensures.same.same_journal in
    record {
      segments = after.index.list;
      drained = record {
        covers = covers;
        none_due = idle.1;
        drained = record { behind = segment_sizes (list_by c.args.ingest.now.index); go = c.requires.behind; joined = c.in_ok-merge_all.ensures.joined };
      };
      found = c.in_ok-found.found;
      is_found = record {
        query = c.in_ok-query.query;
        asks = c.in_ok-query.ensures.asks;
        is_found = found_over c.publisher.result.now after.index (journal c.args.ingest.now) c.in_ok-query.query c.in_ok-found.found c.publisher.ensures covers c.in_ok-found.ensures;
      };
      batches_are = c.batches.ensures.batches ∙ ap length c.merge_all.ensures.same.same_journal;
      segments_are = search (rules, count);
      totals_are = search rules;
    }
