-- Statement: what a stored journal comes to when it is counted anew.
use Rattle.std.specs.Prelude.{◌≡◌, ◌<◌, ◌+◌, ◌^◌, ℕ, List, [], ◌∷◌, ◌++◌, length, map, MatchOption}
use Rattle.std.specs.Arc.{arc_value}
use Rattle.explorer_model.specs.declared.archive.Batch.{Batch}
use Rattle.explorer_model.specs.declared.archive.Placed.{Placed}
use Rattle.explorer_model.specs.declared.fault.Stop.{Stop}
use Rattle.explorer_model.specs.declared.fault.Stop.TheVariants as stops
use Rattle.explorer_model.specs.Journal.{IsSound}
use Rattle.explorer_model.specs.StoreFile.{payload_of, store_of}
use Rattle.tally_rows.specs.Tally.{Counted, IsCounted}
use Rattle.batch_tally.specs.declared.tallying.Tallying.{Tallying}
use Rattle.batch_tally.specs.Tallying.{IsTallying}
use Rattle.segment_blocks.specs.Segment.{CountedSpan}
use Rattle.published_index.specs.Cover.{IsList, journal_of}
use Rattle.ingest_desk.specs.Registers.{IsRegisterOf, IsSegmentOf}
use Rattle.ingest_desk.specs.declared.counting.BatchAt.{BatchAt}
use Rattle.ingest_desk.specs.declared.counting.CountedBatch.{CountedBatch}
use Rattle.ingest_desk.specs.declared.recount.Recounted.{Recounted}
use Rattle.ingest_desk.specs.declared.register.Register.{Register}

-- The journal is not sound from a batch on, whose record's gate stands at this place: a text of it
-- has no game, an id stands twice, or a limit is passed.
pub record IsUnsoundAt (journal : List Batch) (gate : ℕ) : Type 0 where
  pub before : List Batch
  pub batch : Batch
  pub rest : List Batch
  pub is : journal ≡ before ++ batch ∷ rest
  pub sound : IsSound before
  pub unsound : ¬ IsSound (before ++ batch ∷ [])
  pub place : gate ≡ length (store_of before)

-- ---- how batches are counted, each by itself

-- the texts of the batch were tallied, whatever their places are
pub record IsBatchTallied (batch : Batch) (tallying : Tallying) : Type 0 where
  pub texts : List Placed
  pub same : map (λ text. text.bytes) texts ≡ batch.texts
  pub is : IsTallying texts tallying

-- no journal is sound with the batch
abbrev pub IsNeverSound : Batch → Type 0
IsNeverSound batch = (journal : List Batch) → IsSound journal → ¬ IsSound (journal ++ batch ∷ [])

-- the segment has the batch, which is counted, at this place of a journal
pub record IsAloneAt (place : ℕ) (batch : Batch) (segment : CountedSpan) : Type 0 where
  pub tally : Counted
  pub counted : IsCounted tally
  pub batch_is : tally.batch ≡ batch
  pub made_of : IsSegmentOf tally segment
  -- a journal of more batches is not sound
  pub first : place + 1 < 2 ^ 32 → segment.span.first ≡ place

-- the batch was counted at this place
pub record IsCountedAt (place : ℕ) (batch : Batch) (counted : CountedBatch) : Type 0 where
  pub size : counted.size ≡ length (payload_of batch)
  pub segment : MatchOption counted.segment (IsNeverSound batch)
      (λ segment. IsAloneAt place batch (arc_value segment))

-- the batch stands at this place
pub record IsAt (place : ℕ) (batch : Batch) (at : BatchAt) : Type 0 where
  pub batch_is : at.batch ≡ batch
  pub place_is : place + 1 < 2 ^ 32 → at.place ≡ place
  pub fits : at.place + 1 < 2 ^ 32

-- what holds of each batch and of what stands for it, at their places from one on
abbrev pub AllFrom : {X : Type 0} → (ℕ → Batch → X → Type 0) → ℕ → List Batch → List X → Type 0
AllFrom R place [] [] = Unit {0}
AllFrom R place [] (x ∷ xs) = ⊥
AllFrom R place (batch ∷ batches) [] = ⊥
AllFrom R place (batch ∷ batches) (x ∷ xs) = R place batch x × AllFrom R (place + 1) batches xs

-- ---- how they are put together

-- the register is that of one batch more, and the segment has the batch and a game for each text
pub record HasOneMore (journal : List Batch) (batch : Batch) (register : Register)
    (segment : CountedSpan) : Type 0 where
  pub knows : IsRegisterOf (journal ++ batch ∷ []) register
  pub first : segment.span.first ≡ length journal
  pub batches : segment.span.batches ≡ batch ∷ []
  pub games : length segment.classes ≡ length batch.texts

-- the register and the segments are those of the journal
pub record IsRecountOf (journal : List Batch) (recounted : Recounted) : Type 0 where
  pub knows : IsRegisterOf journal recounted.register
  pub list : IsList (map arc_value recounted.segments.items)
  pub whole : journal_of (map arc_value recounted.segments.items) ≡ journal

-- why counting stopped
abbrev pub Stops : List Batch → Stop ℕ → Type 0
Stops journal (stops.Fault gate) = IsUnsoundAt journal gate
Stops journal stops.OutOfMemory = Unit {0}
