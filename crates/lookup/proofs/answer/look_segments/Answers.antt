use Rattle.std.proofs.Common.{◌≤◌, ◌+◌, ℕ, List, map, subst, ◌∙◌}
use Rattle.std.specs.Arc.{arc_value}
use Rattle.std.specs.List.{sum_by}
use Rattle.std.proofs.lemmas.Result.{IfOk-weaker}
use Rattle.explorer_model.specs.declared.archive.Batch.{Batch}
use Rattle.explorer_model.specs.Finds.{IsFound}
use Rattle.explorer_model.specs.Spans.{Covers}
use Rattle.lookup.specs.Parts.{journal_of, segment_part}
use Rattle.lookup.specs.SegmentRows.{row_steps}
use Rattle.lookup.proofs.Journal.{segments-journal}
use Rattle.lookup.proofs.OneKey.{one-key}
use Rattle.segment_blocks.specs.Segment.{CountedSpan}
use Rattle.lookup.proofs.answer.look_segments.Goals as goal

pub returns-in_err-hits-clause-cost : goal.returns-in_err-hits-clause-cost
returns-in_err-hits-clause-cost g c = λ key digits tidy small.
    subst (λ (k : List ℕ). c.rows_of_segments.new.steps ≤ c.args.steps.now + sum_by (row_steps k digits) (map arc_value c.args.segments.now))
    (one-key c.tidy_is_determined.ensures c.args.query.now.at c.board_and_key-board.result.1 key c.board_and_key-board.ensures.key tidy)
    (c.rows_of_segments.ensures.cost digits small)

pub returns-clause-cost : goal.returns-clause-cost
returns-clause-cost g c = λ key digits tidy small.
    subst (λ (k : List ℕ). c.rows_of_segments.new.steps ≤ c.args.steps.now + sum_by (row_steps k digits) (map arc_value c.args.segments.now))
    (one-key c.tidy_is_determined.ensures c.args.query.now.at c.board_and_key-board.result.1 key c.board_and_key-board.ensures.key tidy)
    (c.rows_of_segments.ensures.cost digits small)

pub returns-clause-found : goal.returns-clause-found
returns-clause-found g c =
    let segments : List CountedSpan = map arc_value c.args.segments.now in
    IfOk-weaker c.found_of.result (λ found. IsFound (journal_of (map segment_part segments)) c.args.query.now found)
    (λ found. (journal : List Batch) → Covers (map (λ (segment : CountedSpan). segment.span) segments) journal → IsFound journal c.args.query.now found)
    (λ found is journal covers. subst (λ (j : List Batch). IsFound j c.args.query.now found) (segments-journal segments ∙ covers.whole) is)
    c.found_of.ensures
