-- Statement: where an import ends, and what has become of the groups before, where nobody else
-- stores anything.
use Rattle.std.specs.Prelude.{◌≡◌, ◌≢◌, ◌⊎◌, ◌<◌, ◌+◌, ℕ, List, [], ◌∷◌, ◌++◌, length, sum_by, IsSome, Option, None, Some}
use Rattle.std.specs.Io.KnownBytes.{IsAtEnd}
use Rattle.std.specs.List.{AllByRecursion, AllZip}
use Rattle.outside.specs.Stream.{Stream, Rises}
use Rattle.explorer_model.specs.declared.archive.Batch.{Batch}
use Rattle.explorer_model.specs.declared.fault.Refusal.{Refusal}
use Rattle.explorer_model.specs.Cuts.{Cut, cuts}
use Rattle.explorer_model.specs.Imports.{Accounted, Candidate, Examination, IsExaminationOf, batch_of, groups, verdicts}
use Rattle.explorer_model.specs.Journal.{AreWithin, byte_count, game_count, input_limit}
use Rattle.ingest_desk.specs.Marked.{IsMark}
use Rattle.ingest_desk.specs.Reporting.{FindsNoRoom}
use Rattle.ingest_desk.specs.declared.mark.MarkKind.TheVariants as kinds
use Rattle.ingest_desk.specs.declared.report.End.{End}
use Rattle.ingest_desk.specs.declared.report.End.TheVariants as ends
use Rattle.import_run.specs.Committing.{Known, Store}
use Rattle.import_run.specs.Progress.{HasNoCandidate}
use Rattle.import_run.specs.Rounds.{MayStore, stored_by}
use Rattle.import_run.specs.Settling.{kept, lost}
use Rattle.import_run.specs.SoFar.{AreGroupsSoFar, AreInGroups, ended_cuts}

-- ---- groups that are settled

-- The groups are accounted under the label behind the stored games. Where the store was closed before, none of
-- them has a candidate.
pub record AreSettled (label : List ℕ) (start : Known) (groups : List (List Cut))
    (batches : List Batch) (refused : List Refusal) : Type 0 where
  pub accounted : Accounted label start.games groups batches refused
  pub closed : IsSome start.fault → AllByRecursion HasNoCandidate accounted.examinations

-- ---- streams that break off

-- the stream was cut off below the bound: all whole groups are settled
pub record IsCutOff (label : List ℕ) (start : Known) (stream : List ℕ) (batches : List Batch)
    (refused : List Refusal) : Type 0 where
  pub below : length stream < input_limit
  pub whole : List (List Cut)
  pub hand : List Cut
  pub in_groups : AreInGroups (ended_cuts stream) whole hand
  pub settled : AreSettled label start whole batches refused

-- the stream came to the bound: all groups that are whole before its last byte are settled
pub record IsTooMuch (label : List ℕ) (start : Known) (stream : List ℕ) (batches : List Batch)
    (refused : List Refusal) : Type 0 where
  pub at : length stream ≡ input_limit
  pub front : List ℕ
  pub last : ℕ
  pub front_is : stream ≡ front ++ last ∷ []
  pub whole : List (List Cut)
  pub hand : List Cut
  pub in_groups : AreInGroups (ended_cuts front) whole hand
  pub settled : AreSettled label start whole batches refused

-- ---- groups at which an import ends

-- The import ended at a group, of which these candidates are left to be stored: those whose ids are
-- not stored, or all where the store is closed. The groups before it are settled, and what is
-- refused of it stands last.
pub record EndsIn (label : List ℕ) (start : Known) (so_far : List (List Cut))
    (batches : List Batch) (refused : List Refusal) (left : List Candidate) : Type 0 where
  pub done : List (List Cut)
  pub next : List Cut
  pub rest : List (List Cut)
  pub so_far_is : so_far ≡ done ++ next ∷ rest
  pub earlier : List Refusal
  pub settled : AreSettled label start done batches earlier
  pub known : Known
  pub journal_is : known.journal ≡ start.journal ++ batches
  pub fault_is : known.fault ≡ start.fault
  pub examinations : List Examination
  pub are_examinations : AllZip IsExaminationOf next examinations
  pub left_are : left ≡ kept (stored_by known.fault known.games) (verdicts examinations)
  pub some_left : left ≢ []
  pub refused_are :
      refused ≡ earlier ++ lost (stored_by known.fault known.games) (verdicts examinations)

-- it is a group of the stream, below the bound
pub record EndsAt (label : List ℕ) (start : Known) (stream : List ℕ)
    (left_over : Option (List ℕ)) (batches : List Batch) (refused : List Refusal) : Type 0 where
  pub below : length stream < input_limit
  pub so_far : List (List Cut)
  pub are_so_far : AreGroupsSoFar stream left_over so_far
  pub left : List Candidate
  pub ends : EndsIn label start so_far batches refused left

-- the journal passes no limit with the candidates
abbrev pub HasRoomFor : List Batch → List Candidate → Type 0
HasRoomFor journal left = AreWithin (game_count journal + length left)
    (byte_count journal + sum_by (λ candidate. length candidate.text) left)

-- Memory was wanting: some of the groups so far are settled. What is stored is their batches, and
-- maybe that of the next group, without a receipt.
pub record Lacks (label : List ℕ) (start : Known) (stream : List ℕ)
    (left_over : Option (List ℕ)) (batches : List Batch) (refused : List Refusal)
    (stored : List Batch) : Type 0 where
  pub below : length stream < input_limit
  pub so_far : List (List Cut)
  pub are_so_far : AreGroupsSoFar stream left_over so_far
  pub done : List (List Cut)
  pub rest : List (List Cut)
  pub so_far_is : so_far ≡ done ++ rest
  pub settled : AreSettled label start done batches refused
  pub known : Known
  pub journal_is : known.journal ≡ start.journal ++ batches
  pub fault_is : known.fault ≡ start.fault
  pub stored_is : MayStore label known rest stored

-- ---- the ends of an import

-- How an import stands with the bytes that it took and with the store afterwards, by its end. After a
-- disk fault the batch that failed is that of the texts that were left of the group, under the label.
abbrev pub StandsAt : {J : Type 0} → List ℕ → End J → Known → List ℕ → Option (List ℕ)
    → List Batch → List Refusal → Store → Type 0
StandsAt label ends.Whole start stream left_over batches refused new =
    IsAtEnd left_over × (length stream < input_limit)
    × AreSettled label start (groups (cuts stream)) batches refused
StandsAt label (ends.ReadFault before after) start stream left_over batches refused new =
    IsCutOff label start stream batches refused
StandsAt label (ends.TooMuch bytes) start stream left_over batches refused new =
    (bytes ≡ length stream) × IsTooMuch label start stream batches refused
StandsAt label (ends.DiskFault before after mark) start stream left_over batches refused new =
    IsMark kinds.DiskFault before after new.failed mark × (start.fault ≡ None)
    × ((ends : EndsAt label start stream left_over batches refused)
    × HasRoomFor (start.journal ++ batches) ends.left
    × (new.failed ≡ batch_of label ends.left))
StandsAt label (ends.Closed before after mark) start stream left_over batches refused new =
    IsMark kinds.Closed before after None mark × (start.fault ≡ Some (before, after))
    × EndsAt label start stream left_over batches refused
StandsAt label (ends.Full games bytes note) start stream left_over batches refused new =
    (start.fault ≡ None) × (note ≡ start.journal ++ batches)
    × ((ends : EndsAt label start stream left_over batches refused)
    × FindsNoRoom note games bytes ends.left)
StandsAt label ends.OutOfMemory start stream left_over batches refused new =
    Lacks label start stream left_over batches refused new.journal

-- a count is as before, or it rose
abbrev pub MayRise : ℕ → ℕ → Type 0
MayRise before after = (after ≡ before) ⊎ Rises before after

-- No read failed before an import that is whole, or took all that it may; a read fault is one of the
-- source. Behind a group at which an import ends a read may have failed.
abbrev pub ReadFaultsAre : {J : Type 0} → End J → Stream → Stream → Type 0
ReadFaultsAre ends.Whole old new = new.read_faults ≡ old.read_faults
ReadFaultsAre (ends.ReadFault before after) old new =
    (before ≡ old.read_faults) × (after ≡ new.read_faults) × Rises before after
ReadFaultsAre (ends.TooMuch bytes) old new = new.read_faults ≡ old.read_faults
ReadFaultsAre _ old new = MayRise old.read_faults new.read_faults

-- the stored journal, with one batch more or without it
abbrev pub HasMaybeOneMore : List Batch → List Batch → Type 0
HasMaybeOneMore journal new = (new ≡ journal) ⊎ ((batch : Batch) × (new ≡ journal ++ batch ∷ []))

-- What is stored afterwards, and the counts of the fault that closed the store: the batches stand
-- behind the journal. Where memory was wanting, there may be one more; `Lacks` says which.
abbrev pub StoresBy : {J : Type 0} → End J → List Batch → Option (ℕ × ℕ) → Store → Type 0
StoresBy (ends.DiskFault before after mark) journal fault new =
    (new.journal ≡ journal) × (new.fault ≡ Some (before, after))
StoresBy ends.OutOfMemory journal fault new =
    HasMaybeOneMore journal new.journal × (new.fault ≡ fault)
StoresBy _ journal fault new = (new.journal ≡ journal) × (new.fault ≡ fault)
