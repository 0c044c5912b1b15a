-- Statement: what becomes of a published list as neighbours become one, and as batches are stored.
use Rattle.std.specs.Prelude.{◌≡◌, ◌⊎◌, ⊤, ℕ, Bool, false, List, [], ◌∷◌, ◌++◌, Option, None, Result, Ok, Err, MatchOption, length}
use Rattle.disk_model.specs.Disk.{DiskState}
use Rattle.explorer_model.specs.declared.archive.Batch.{Batch}
use Rattle.segment_blocks.specs.Segment.{CountedSpan, IsSegment}
use Rattle.published_index.specs.Cover.{IsList}
use Rattle.published_index.specs.States.{Publishing, publishing}
use Rattle.ingest_desk.specs.Installs.{list_by}
use Rattle.ingest_desk.specs.Listing.{JoinsPicked, MakesRoom, PutsBehind}
use Rattle.ingest_desk.specs.Picking.{HasNoneDue, IsPicked}
use Rattle.ingest_desk.specs.Stored.{Stored, journal}
use Rattle.ingest_desk.specs.declared.fault.CommitFault.{CommitFault}
use Rattle.ingest_desk.specs.declared.fault.CommitFault.TheVariants as faults
use Rattle.ingest_desk.specs.declared.fault.InstallFault.{InstallFault}
use Rattle.ingest_desk.specs.declared.fault.InstallFault.TheVariants as install
use Rattle.ingest_desk.specs.Jobs.{Neighbours}
use Rattle.ingest_desk.specs.declared.receipt.Receipt.{Receipt}
use Rattle.import_run.specs.Since.{IsSince}
use Rattle.import_run.specs.declared.draining.DrainEnd.TheVariants.{Idle, Gone, OutOfMemory}
use Rattle.import_run.specs.declared.merging.Merging.{Merging}
use Rattle.import_run.specs.declared.merging.Merging.TheVariants.{Joined, Left}

-- ---- one step of merging

-- what was held is published, and this is the job of the list, or no neighbours are due
pub record Finds (found : Option Neighbours) (old new : Publishing) : Type 0 where
  pub caught_up : new ≡ publishing (list_by old)
  pub list : IsList new.list
  pub picks : MatchOption found (HasNoneDue new.list)
      (λ job. IsPicked new.list job.left job.right)

-- What a step of merging does: what was held is published, and no neighbours are due, or the last
-- that are have become one; or memory was wanting.
abbrev pub Merges : Merging → Publishing → Publishing → Type 0
Merges Joined old new = JoinsPicked (list_by old) new.list × (new.held ≡ None)
Merges (Left Idle) old new = (new ≡ publishing (list_by old)) × HasNoneDue new.list
Merges (Left Gone) old new = ⊥
Merges (Left OutOfMemory) old new = ⊤

-- what a step came to, by whether the segment that it merged was installed
abbrev pub merging_by : Result (List Batch) InstallFault → Merging
merging_by (Ok note) = Joined
merging_by (Err (install.Gone spans)) = Left Gone
merging_by (Err install.OutOfMemory) = Left OutOfMemory

-- the stored journal and the manifest are as they were, and the batch that failed
pub record StoresSame {D : Type 0} (before after : Stored D) : Type 0 where
  pub same_journal : journal after ≡ journal before
  pub same_manifest : after.manifest ≡ before.manifest
  pub same_failed : after.failed ≡ before.failed

-- ---- behind batches

-- the segment counts the batches of its span, in however many blocks its rows stand
abbrev pub CountsItsSpan : CountedSpan → Type 0
CountsItsSpan segment = IsSegment (record segment { blocks = length segment.rows })

-- the last neighbours that are due have become one; where none are due, the list is as it was
abbrev pub IsMerged : List CountedSpan → List CountedSpan → Type 0
IsMerged list new = (HasNoneDue list × (new ≡ list)) ⊎ JoinsPicked list new

-- what is published behind the answer to a commit, where memory was not wanting
abbrev pub MergesBehind : {J : Type 0} → Result (Receipt J) (CommitFault J)
    → Publishing → Publishing → Type 0
MergesBehind (Ok receipt) old new = IsMerged (list_by old) (list_by new)
MergesBehind (Err (faults.OutOfMemory stored)) old new = ⊥
MergesBehind (Err _) old new = new ≡ old

-- A batch stands behind the list, which got room for it where it was full, and then the last
-- neighbours that are due have become one.
pub record FollowsBatch (batch : Batch) (list new : List CountedSpan) : Type 0 where
  pub roomy : List CountedSpan
  pub room : MakesRoom list roomy
  pub longer : List CountedSpan
  pub puts : PutsBehind batch roomy longer
  pub merged : IsMerged longer new

-- the same of batches, one after another
abbrev pub FollowsAll : List Batch → List CountedSpan → List CountedSpan → Type 0
FollowsAll [] list new = new ≡ list
FollowsAll (batch ∷ batches) list new =
    (next : List CountedSpan) × FollowsBatch batch list next × FollowsAll batches next new

-- batches were stored, and the list, with what is held, followed each of them
pub record Follows {D : Type 0} (before after : Stored D) : Type 0 where
  pub batches : List Batch
  pub journal_is : journal after ≡ journal before ++ batches
  pub lists : FollowsAll batches (list_by before.index) (list_by after.index)

-- ---- one who stores alone

-- no disk fault had closed the store, memory had not been wanting, and the list followed the batches
pub record KeepsUp {D : Type 0} (lacked : Bool) (before after : Stored D) : Type 0 where
  pub had_memory : lacked ≡ false
  pub was_sound : before.manifest.fault ≡ None
  pub follows : Follows before after

-- What calls have done together, and whether memory was wanting before and after them.
pub record IsSinceAlone {D : Type 0} (disk : D → DiskState)
    (left_since : D → ℕ → List ℕ → Type 0) (before after : Stored D) (lacked lacks : Bool)
    : Type 0 where
  pub since : IsSince disk left_since before after
  pub keeps_up : lacks ≡ false → after.manifest.fault ≡ None → KeepsUp lacked before after
