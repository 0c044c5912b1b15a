-- Statement: a published list as a timeline.
use Rattle.std.specs.Prelude.{List}
use Rattle.explorer_model.specs.declared.archive.Batch.{Batch}
use Rattle.explorer_model.specs.Timeline.{Timeline}
use Rattle.segment_blocks.specs.Segment.{CountedSpan}
use Rattle.published_index.specs.Cover.{spans_of, journal_of}

-- the timeline of a published list, with what its passes have seen
abbrev pub timeline : List CountedSpan → List (List Batch) → Timeline
timeline list passes = record {
  journal = journal_of list;
  cover = spans_of list;
  passes = passes;
}
