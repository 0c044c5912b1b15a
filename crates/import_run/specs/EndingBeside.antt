-- Statement: what an import of a source comes to, whoever else stores beside it.
use Rattle.std.specs.Prelude.{◌≡◌, ◌≢◌, ◌<◌, ◌≤◌, ℕ, List, [], ◌∷◌, ◌++◌, length, Option}
use Rattle.std.specs.Io.KnownBytes.{IsAtEnd}
use Rattle.outside.specs.Stream.{Stream, Reads}
use Rattle.explorer_model.specs.declared.archive.Batch.{Batch}
use Rattle.explorer_model.specs.declared.fault.Refusal.{Refusal}
use Rattle.explorer_model.specs.Cuts.{Cut, cuts}
use Rattle.explorer_model.specs.Imports.{AccountedBeside, Candidate, batch_of}
use Rattle.explorer_model.specs.Journal.{input_limit}
use Rattle.ingest_desk.specs.Reporting.{FindsNoRoom, IsJudged, Reports, games_of}
use Rattle.ingest_desk.specs.declared.report.End.{End}
use Rattle.ingest_desk.specs.declared.report.End.TheVariants as ends
use Rattle.ingest_desk.specs.declared.report.Report.{Report}
use Rattle.import_run.specs.Ending.{ReadFaultsAre}
use Rattle.import_run.specs.SoFar.{AreGroupsSoFar, AreInGroups, ended_cuts}

-- ---- streams that break off

-- all groups that are whole in the cuts that have ended are accounted
pub record IsCutBeside (label : List ℕ) (stream : List ℕ) (batches : List Batch)
    (refused : List Refusal) : Type 0 where
  pub whole : List (List Cut)
  pub hand : List Cut
  pub in_groups : AreInGroups (ended_cuts stream) whole hand
  pub accounted : AccountedBeside label whole batches refused

-- all groups are accounted that are whole before the last byte that an import takes
pub record IsTooMuchBeside (label : List ℕ) (stream : List ℕ) (batches : List Batch)
    (refused : List Refusal) : Type 0 where
  pub at : length stream ≡ input_limit
  pub front : List ℕ
  pub last : ℕ
  pub front_is : stream ≡ front ++ last ∷ []
  pub cut : IsCutBeside label front batches refused

-- ---- groups at which an import ends

-- A commit of what was left of a group ended the import. It is one of the groups so far: those
-- before it are accounted, and what is refused of it stands last.
pub record BreaksBeside (label : List ℕ) (stream : List ℕ) (left_over : Option (List ℕ))
    (batches : List Batch) (refused : List Refusal) (left : List Candidate) : Type 0 where
  pub below : length stream < input_limit
  pub so_far : List (List Cut)
  pub are_so_far : AreGroupsSoFar stream left_over so_far
  pub done : List (List Cut)
  pub next : List Cut
  pub rest : List (List Cut)
  pub so_far_is : so_far ≡ done ++ next ∷ rest
  pub earlier : List Refusal
  pub accounted : AccountedBeside label done batches earlier
  pub of_next : List Refusal
  pub judged : IsJudged next left of_next
  pub some_left : left ≢ []
  pub refused_are : refused ≡ earlier ++ of_next

-- memory was wanting: some of the groups so far are accounted
pub record LacksBeside (label : List ℕ) (stream : List ℕ) (left_over : Option (List ℕ))
    (batches : List Batch) (refused : List Refusal) : Type 0 where
  pub below : length stream < input_limit
  pub so_far : List (List Cut)
  pub are_so_far : AreGroupsSoFar stream left_over so_far
  pub done : List (List Cut)
  pub rest : List (List Cut)
  pub so_far_is : so_far ≡ done ++ rest
  pub accounted : AccountedBeside label done batches refused

-- ---- the ends of an import

-- How an import stands with the bytes that it took, by its end. After a disk fault the batch that
-- failed is that of the texts that were left of the group, under the label.
abbrev pub StandsBeside : {J : Type 0} → List ℕ → End J → List ℕ → Option (List ℕ) → List Batch
    → List Refusal → Type 0
StandsBeside label ends.Whole stream left_over batches refused =
    IsAtEnd left_over × (length stream < input_limit)
StandsBeside label (ends.ReadFault before after) stream left_over batches refused =
    (length stream < input_limit) × IsCutBeside label stream batches refused
StandsBeside label (ends.TooMuch bytes) stream left_over batches refused =
    (bytes ≡ length stream) × IsTooMuchBeside label stream batches refused
StandsBeside label (ends.DiskFault before after mark) stream left_over batches refused =
    (left : List Candidate) × BreaksBeside label stream left_over batches refused left
    × (mark.failed ≡ batch_of label left)
StandsBeside label (ends.Closed before after mark) stream left_over batches refused =
    (left : List Candidate) × BreaksBeside label stream left_over batches refused left
StandsBeside label (ends.Full games bytes note) stream left_over batches refused =
    (left : List Candidate) × BreaksBeside label stream left_over batches refused left
    × FindsNoRoom note games bytes left
StandsBeside label ends.OutOfMemory stream left_over batches refused =
    LacksBeside label stream left_over batches refused

-- the report of an import that took these bytes
pub record ComesBeside {J : Type 0} (label : List ℕ) (stream : List ℕ) (left_over : Option (List ℕ))
    (report : Report J) : Type 0 where
  pub reports : Reports label (cuts stream) report
  pub stands : StandsBeside label report.end stream left_over reports.batches report.refused.items
  -- each game that is stored is a text of its own
  pub few : games_of report.receipts.items ≤ length (cuts stream)

-- What an import under a label comes to by its report, from the bytes that it took of its source: to a
-- read fault only where a read failed, and to its end or to the bound only where none did.
pub record ImportsBeside {J : Type 0} (label : List ℕ) (before after : Stream) (report : Report J)
    : Type 0 where
  pub stream : List ℕ
  pub reads : Reads stream before after
  pub faults : ReadFaultsAre report.end before after
  pub comes : ComesBeside label stream after.left report
