-- Bridge: the history of an index, as a book of logbook keeps it.
--
-- A cell that is not at home can be brought home by one pen alone, and the rule lets the history grow
-- by no other way than bringing the first such cell home. So nobody adds to it but who has that pen.
use Rattle.std.specs.Prelude.{◌≡◌, ◌==◌, ◌+◌, ⊤, ℕ, true, false, List, [], ◌∷◌, ◌++◌, length, replicate, slice_index_or, MatchBool}
use Rattle.logbook.specs.Pages.{Cell, Nib, nib, may_make, may_write, Step, View, Book, Named}
use Rattle.explorer_model.specs.declared.archive.Batch.{Batch}
use Rattle.segment_blocks.specs.Segment.{CountedSpan}

-- a batch of a segment
abbrev pub batch_at : CountedSpan → ℕ → Batch
batch_at segment place = slice_index_or segment.span.batches place (record { label = []; texts = [] })

-- a beginning of the history of a book
pub record Reached : Type 0 where
  pub book : Book
  pub log : List Batch

-- the first word says how many cells are away; a book has two words, of which this one leaves the
-- second at 0; behind them a cell is at home for each batch, and then come those that are away
abbrev pub cells_of : ℕ → ℕ → List Cell
cells_of batches away =
    (away, true) ∷ (0, true) ∷ replicate batches (0, true) ++ replicate away (0, false)

-- none is away before the first one was made, when there is no batch
pub record IsKept (cells : List Cell) (log : List Batch) : Type 0 where
  pub away : ℕ
  pub cells_are : cells ≡ cells_of (length log) away
  pub first : away ≡ 0 → log ≡ []

abbrev pub word_of : Book → Named
word_of book = record { tracked = true; key = 0; book = book }

-- ---- pens

-- the key of the first cell that is away
abbrev pub key_behind : List Batch → ℕ
key_behind log = 2 + length log

-- the pen of whoever may add the next batch
abbrev pub next_nib : List Batch → Nib
next_nib log = nib may_write (key_behind log) 0

-- ---- steps

-- a cell was added behind those that were away, with the right to make its word, or there was
-- another number of these
abbrev pub AddsCell : Step Batch → View Batch ℕ → ℕ → View Batch ℕ → Type 0
AddsCell step before found after = MatchBool (found == step.old)
    ((after.1.0 ≡ nib may_make (key_behind after.0 + step.old) 0) × (step.old ≡ 0 → after.0 ≡ []))
    ⊤

-- the batch was added behind all that was seen, which was all, or the pen is as before
abbrev pub AddsBatch : Step Batch → View Batch ℕ → ℕ → View Batch ℕ → Type 0
AddsBatch step before found after = MatchBool (found == step.old)
    ((after.0 ≡ before.0 ++ (step.ask ∷ [])) × (before.1.0.key ≡ key_behind before.0))
    (after.1.0 ≡ before.1.0)

-- the whole history was seen, and the pen is as before
abbrev pub SeesAll : Step Batch → View Batch ℕ → ℕ → View Batch ℕ → Type 0
SeesAll step before found after =
    (before.1.0.key ≡ key_behind after.0) × (after.1.0 ≡ before.1.0)
