-- Statement: what a commit does to the published list.
use Rattle.std.specs.Prelude.{◌≡◌, ◌≤◌, ◌<◌, true, false, List, [], ◌∷◌, ◌++◌, length, Result, Ok, Err}
use Rattle.explorer_model.specs.declared.archive.Batch.{Batch}
use Rattle.segment_blocks.specs.Segment.{CountedSpan, IsSegment}
use Rattle.segment_merge.specs.Merging.{IsMergeOf}
use Rattle.published_index.specs.Changes.{JoinAt, with_change}
use Rattle.published_index.specs.Cover.{journal_of, list_limit}
use Rattle.published_index.specs.States.{Publishing}
use Rattle.ingest_desk.specs.Installs.{list_by}
use Rattle.ingest_desk.specs.Picking.{IsPicked}
use Rattle.ingest_desk.specs.declared.fault.CommitFault.{CommitFault}
use Rattle.ingest_desk.specs.declared.fault.CommitFault.TheVariants as faults
use Rattle.ingest_desk.specs.declared.receipt.Receipt.{Receipt}

-- the last neighbours that are due have become one, and all others are as they were
pub record JoinsPicked (list new : List CountedSpan) : Type 0 where
  pub left : CountedSpan
  pub right : CountedSpan
  pub picked : IsPicked list left right
  pub joined : CountedSpan
  pub merged : IsMergeOf left right joined
  pub list_is : new ≡ with_change list (JoinAt picked.at joined)

-- a list that is full gets room by a join; another one is left as it is
pub record MakesRoom (list new : List CountedSpan) : Type 0 where
  pub has_room : length list < list_limit → new ≡ list
  pub is_full : list_limit ≤ length list → JoinsPicked list new

-- a segment stands behind the list, which counts the batch behind the list's journal
pub record PutsBehind (batch : Batch) (list new : List CountedSpan) : Type 0 where
  pub segment : CountedSpan
  pub starts : segment.span.first ≡ length (journal_of list)
  pub batch_is : segment.span.batches ≡ batch ∷ []
  pub counts : IsSegment segment
  pub list_is : new ≡ list ++ segment ∷ []

-- a list that is full gets room first, and then the segment of the batch comes behind it
pub record PublishesBatch (batch : Batch) (old : Publishing) (new : List CountedSpan)
    : Type 0 where
  pub roomy : List CountedSpan
  pub room : MakesRoom (list_by old) roomy
  pub puts : PutsBehind batch roomy new

-- What is published after a commit. Behind a store that is closed it stays. Else it is first what it
-- was with the change that was held; a list that is full gets room where nothing is against the batch.
abbrev pub Lists : {J : Type 0} → Result (Receipt J) (CommitFault J)
    → Batch → Publishing → List CountedSpan → Type 0
Lists (Ok receipt) batch old new = PublishesBatch batch old new
Lists (Err (faults.Closed before after mark)) batch old new = new ≡ old.list
Lists (Err (faults.Clash handed pairs note)) batch old new = new ≡ list_by old
Lists (Err (faults.Full games bytes note)) batch old new = new ≡ list_by old
Lists (Err (faults.DiskFault before after mark)) batch old new = MakesRoom (list_by old) new
Lists (Err (faults.OutOfMemory true)) batch old new = MakesRoom (list_by old) new
Lists (Err (faults.OutOfMemory false)) batch old new = Unit {0}
