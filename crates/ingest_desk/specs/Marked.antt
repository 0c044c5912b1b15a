-- Bridge: what contracts see of a mark.
use Rattle.std.specs.Prelude.{◌≡◌, ℕ, Option}
use Rattle.explorer_model.specs.declared.archive.Batch.{Batch}
use Rattle.ingest_desk.specs.declared.mark.MarkKind.{MarkKind}

-- the kind and the counts of the answer, and the batch that failed, if one did
pub record Marked : Type 0 where
  pub kind : MarkKind
  pub before : ℕ
  pub after : ℕ
  pub failed : Option Batch

-- the mark of an answer of this kind with these counts, by which this batch failed or none
pub record IsMark (kind : MarkKind) (before after : ℕ) (failed : Option Batch) (mark : Marked)
    : Type 0 where
  pub kind_is : mark.kind ≡ kind
  pub before_is : mark.before ≡ before
  pub after_is : mark.after ≡ after
  pub failed_is : mark.failed ≡ failed
