-- Statement: what contracts see of an index, its publisher and its passes.
use Rattle.std.specs.Prelude.{ℕ, List, Option, None, IfSome}
use Rattle.explorer_model.specs.declared.archive.Batch.{Batch}
use Rattle.segment_blocks.specs.Segment.{CountedSpan}
use Rattle.published_index.specs.Cover.{IsList, journal_of}
use Rattle.published_index.specs.Changes.{Change, MayMake, with_held}
use Rattle.published_index.specs.Names.{Name}

-- the published list, and the change that is held because it could not be published
pub record Publishing : Type 0 where
  pub list : List CountedSpan
  pub held : Option Change

pub record IsPublishing (publishing : Publishing) : Type 0 where
  pub list : IsList publishing.list
  pub held : IfSome publishing.held (λ change. MayMake publishing.list change)

-- the published journal, and the batch of the held change behind it
abbrev pub journal_by : Publishing → List Batch
journal_by index = with_held (journal_of index.list) index.held

-- the batches that a pass has seen, how often it saw what was published, and how many readings were
-- not given
pub record Watching : Type 0 where
  pub seen : List Batch
  pub entered : ℕ
  pub unread : ℕ

-- an index that has no name in types yet: its list, and for how many readers it is
pub record Opened : Type 0 where
  pub name : Name
  pub list : List CountedSpan
  pub readers : ℕ

-- nothing is held
abbrev pub publishing : List CountedSpan → Publishing
publishing list = record { list = list; held = None }

-- a pass that has made no event
abbrev pub watching : List Batch → Watching
watching journal = record { seen = journal; entered = 0; unread = 0 }
