-- Bridge: what is kept of a journal, so that a batch can be judged without its texts.
use Rattle.std.specs.Prelude.{◌≡◌, ℕ, ◌+◌, ◌≤◌, List, [], ◌∷◌, length, sum_by}
use Rattle.explorer_model.specs.declared.archive.Batch.{Batch}
use Rattle.explorer_model.specs.Imports.{numbers_of}
use Rattle.explorer_model.specs.Journal.{AreWithin, IsSound, game_count, byte_count}
use Rattle.segment_blocks.specs.Segment.{CountedSpan}
use Rattle.tally_rows.specs.Tally.{Counted, IsCounted}
use Rattle.ingest_desk.specs.Clashes.{clashes_of}
use Rattle.ingest_desk.specs.IdTable.{number_at}
use Rattle.ingest_desk.specs.declared.register.Register.{Register}

-- the register of a journal, which is sound
pub record IsRegisterOf (journal : List Batch) (register : Register) : Type 0 where
  pub sound : IsSound journal
  pub numbers : (id : List ℕ) → number_at register.ids id ≡ numbers_of sound.games id
  pub batches : register.batches ≡ length journal
  pub games : register.games ≡ game_count journal
  pub bytes : register.bytes ≡ byte_count journal

-- how many bytes the texts of a batch have
abbrev pub text_bytes : Batch → ℕ
text_bytes batch = sum_by (λ text. length text) batch.texts

-- a batch can be stored, by the register
pub record Fits (register : Register) (tally : Counted) : Type 0 where
  pub none : clashes_of (number_at register.ids) tally.classes ≡ []
  pub within : AreWithin (register.games + length tally.batch.texts)
      (register.bytes + text_bytes tally.batch)

-- the registers tell the same
pub record IsSame (old new : Register) : Type 0 where
  pub numbers : (id : List ℕ) → number_at new.ids id ≡ number_at old.ids id
  pub batches : new.batches ≡ old.batches
  pub games : new.games ≡ old.games
  pub bytes : new.bytes ≡ old.bytes

-- the segment is that of a batch
pub record IsSegmentOf (tally : Counted) (segment : CountedSpan) : Type 0 where
  pub batches : segment.span.batches ≡ tally.batch ∷ []
  pub classes : segment.classes ≡ tally.classes

-- the segment is that of a batch that fits
pub record CanEnter (register : Register) (segment : CountedSpan) : Type 0 where
  pub tally : Counted
  pub counted : IsCounted tally
  pub made_of : IsSegmentOf tally segment
  pub fits : Fits register tally
  pub few : register.batches ≤ register.games
