-- Bridge: neighbours of a list that are to become one, and where the batches of a span stand.
use Rattle.std.specs.Prelude.{◌≡◌, ℕ, ◌+◌, ◌<◌, List, length, slice_get}
use Rattle.explorer_model.specs.declared.archive.Batch.{Batch}
use Rattle.explorer_model.specs.Spans.{Span}
use Rattle.segment_blocks.specs.Segment.{CanJoin, CountedSpan}
use Rattle.ingest_desk.specs.Picking.{AreDue}

pub record Neighbours : Type 0 where
  pub left : CountedSpan
  pub right : CountedSpan

-- the neighbours are to become one, and can
pub record AreToJoin (left right : CountedSpan) : Type 0 where
  pub due : AreDue left right
  pub join : CanJoin left right

-- the journal has the batches of the span at their places
abbrev pub StandsIn : List Batch → Span → Type 0
StandsIn journal span =
    (k : ℕ) → k < length span.batches
    → slice_get span.batches k ≡ slice_get journal (span.first + k)

-- a journal has the batches of both spans at their places
pub record AreOfOneJournal (one other : Span) : Type 0 where
  pub journal : List Batch
  pub one_stands : StandsIn journal one
  pub other_stands : StandsIn journal other
