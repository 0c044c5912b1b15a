-- Statement: what becomes of two neighbours that were merged apart from the list.
use Rattle.std.specs.Prelude.{◌≡◌, ⊤, ℕ, List, length, map, Option, None, Some, Result, Ok, Err}
use Rattle.explorer_model.specs.declared.archive.Batch.{Batch}
use Rattle.explorer_model.specs.Spans.{Span}
use Rattle.segment_blocks.specs.Segment.{CountedSpan}
use Rattle.published_index.specs.Changes.{Change, JoinAt, with_change}
use Rattle.published_index.specs.Cover.{journal_of}
use Rattle.published_index.specs.States.{Publishing}
use Rattle.ingest_desk.specs.Picking.{AreAt}
use Rattle.ingest_desk.specs.declared.job.Standing.{Standing}
use Rattle.ingest_desk.specs.declared.fault.InstallFault.{InstallFault}
use Rattle.ingest_desk.specs.declared.fault.InstallFault.TheVariants as faults

-- a list once a change is made, if one is held
abbrev pub caught_up : List CountedSpan → Option Change → List CountedSpan
caught_up list None = list
caught_up list (Some change) = with_change list change

-- the list once what is held is published
abbrev pub list_by : Publishing → List CountedSpan
list_by index = caught_up index.list index.held

-- neighbours at this place have these spans, with their batches
pub record StandAt (list : List CountedSpan) (at : ℕ) (left right : Span) : Type 0 where
  pub first : CountedSpan
  pub second : CountedSpan
  pub stand : AreAt list at first second
  pub left_is : first.span ≡ left
  pub right_is : second.span ≡ right

-- two spans are these, with their batches
abbrev pub HaveSpans : Span → Span → Span → Span → Type 0
HaveSpans first second left right = (first ≡ left) × (second ≡ right)

-- no neighbours have
abbrev pub AreGone : List CountedSpan → Span → Span → Type 0
AreGone list left right = (at : ℕ) → ¬ StandAt list at left right

-- where a segment stands, by numbers
abbrev pub place_of : CountedSpan → Standing
place_of segment = record { first = segment.span.first; count = length segment.span.batches }

-- the segment stands in place of the neighbours
pub record IsInstalled (left right : Span) (merged : CountedSpan) (list : List CountedSpan)
    (new : Publishing) (note : List Batch) : Type 0 where
  pub at : ℕ
  pub stood : StandAt list at left right
  pub list_is : new.list ≡ with_change list (JoinAt at merged)
  pub none_held : new.held ≡ None
  pub told : note ≡ journal_of new.list

-- the neighbours are gone, and these spans stand there
pub record IsGone (left right : Span) (list : List CountedSpan) (new : Publishing)
    (spans : List Standing) : Type 0 where
  pub gone : AreGone list left right
  pub same : new.list ≡ list
  pub none_held : new.held ≡ None
  pub spans_are : spans ≡ map place_of list

abbrev pub Installs : Span → Span → CountedSpan → Publishing → Publishing
    → Result (List Batch) InstallFault → Type 0
Installs left right merged old new (Ok note) =
    IsInstalled left right merged (list_by old) new note
Installs left right merged old new (Err (faults.Gone spans)) =
    IsGone left right (list_by old) new spans.items
Installs left right merged old new (Err faults.OutOfMemory) = Unit {0}

-- memory was there
abbrev pub IsDecided : Result (List Batch) InstallFault → Type 0
IsDecided (Err faults.OutOfMemory) = ⊥
IsDecided _ = ⊤
