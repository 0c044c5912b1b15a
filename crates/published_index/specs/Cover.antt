-- Statement: a list of segments as a cover of the journal of their batches.
use Rattle.std.specs.Prelude.{ℕ, ◌≤◌, List, map, length}
use Rattle.explorer_model.specs.declared.archive.Batch.{Batch}
use Rattle.explorer_model.specs.Spans.{Span, Covers, batches_of}
use Rattle.segment_blocks.specs.Segment.{CountedSpan}

-- the most segments of a list
abbrev pub list_limit : ℕ
list_limit = 64

-- where the segments stand
abbrev pub spans_of : List CountedSpan → List Span
spans_of list = map (λ segment. segment.span) list

-- the batches of segments, in order
abbrev pub journal_of : List CountedSpan → List Batch
journal_of list = batches_of (spans_of list)

-- a list of at most 64 segments whose spans adjoin and start at 0
pub record IsList (list : List CountedSpan) : Type 0 where
  pub few : length list ≤ list_limit
  pub covers : Covers (spans_of list) (journal_of list)
