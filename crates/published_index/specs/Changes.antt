-- Statement: what may be done to a published list.
use Rattle.std.specs.Prelude.{◌≡◌, ℕ, ◌+◌, ◌<◌, List, [], ◌∷◌, ◌++◌, length, take, drop, slice_get, Option, None, Some}
use Rattle.explorer_model.specs.declared.archive.Batch.{Batch}
use Rattle.explorer_model.specs.Timeline.{both}
use Rattle.segment_blocks.specs.Segment.{CountedSpan}
use Rattle.published_index.specs.Cover.{list_limit, journal_of}

pub data Change : Type 0 where
  -- the segment of the next batch comes to the end of the list
  AddOf : CountedSpan → Change
  -- a segment comes in place of the ones at a place and behind it
  JoinAt : ℕ → CountedSpan → Change

-- the segment has one batch, which starts where the list ends
pub record CanAdd (list : List CountedSpan) (segment : CountedSpan) : Type 0 where
  pub room : length list < list_limit
  pub starts : segment.span.first ≡ length (journal_of list)
  pub one : length segment.span.batches ≡ 1

-- the segment has the span and the batches of two neighbours together
pub record CanJoin (list : List CountedSpan) (at : ℕ) (segment : CountedSpan) : Type 0 where
  pub pair : at + 1 < length list
  pub spans : (left right : CountedSpan) → slice_get list at ≡ Some left
      → slice_get list (at + 1) ≡ Some right → segment.span ≡ both left.span right.span

abbrev pub MayMake : List CountedSpan → Change → Type 0
MayMake list (AddOf segment) = CanAdd list segment
MayMake list (JoinAt at segment) = CanJoin list at segment

-- the list once a change is made
abbrev pub with_change : List CountedSpan → Change → List CountedSpan
with_change list (AddOf segment) = list ++ (segment ∷ [])
with_change list (JoinAt at segment) = take at list ++ segment ∷ drop (at + 2) list

-- the journal once a change is made: it gets the batch, and a join leaves it
abbrev pub with_put : List Batch → Change → List Batch
with_put journal (AddOf segment) = journal ++ segment.span.batches
with_put journal (JoinAt at segment) = journal

-- the published journal, and the batch of a change that is held behind it
abbrev pub with_held : List Batch → Option Change → List Batch
with_held published None = published
with_held published (Some change) = with_put published change
