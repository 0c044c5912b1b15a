-- Bridge: the batches of a segment, as it holds them.
use Rattle.std.specs.Prelude.{◌≡◌, ⊤, ℕ, ◌+◌, ◌<◌, List, [], ◌∷◌, map, length, slice_get}
use Rattle.std.specs.Arc.{arc_value}
use Rattle.std.specs.List.{flat_map}
use Rattle.explorer_model.specs.declared.archive.Batch.{Batch}
use Rattle.explorer_model.specs.declared.archive.Classes.{Classes}
use Rattle.explorer_model.specs.Visits.{texts_of}
use Rattle.segment_blocks.specs.declared.held_batch.HeldBatch.{HeldBatch}
use Rattle.segment_blocks.specs.PackedRows.{Packed}
use Rattle.segment_blocks.specs.Segment.{CountedSpan, IsSegment}

abbrev pub batch_of : HeldBatch → Batch
batch_of held = (arc_value held.tagged).batch

abbrev pub classes_of : HeldBatch → List Classes
classes_of held = (arc_value held.tagged).classes

abbrev pub all_batches : List HeldBatch → List Batch
all_batches held = map batch_of held

abbrev pub all_classes : List HeldBatch → List Classes
all_classes held = flat_map classes_of held

abbrev pub counted_span : ℕ → List HeldBatch → Packed → CountedSpan
counted_span first held packed = record {
  span = record { first = first; batches = all_batches held };
  classes = all_classes held;
  rows = packed.rows;
  blocks = packed.blocks;
}

-- a batch has the number of its first game, and a text for each of its games
pub record IsHeldFrom (first : ℕ) (held : HeldBatch) : Type 0 where
  pub start : held.start ≡ first
  pub aligned : length (batch_of held).texts ≡ length (classes_of held)

-- so do batches that stand one after another
abbrev pub StandFrom : ℕ → List HeldBatch → Type 0
StandFrom first [] = ⊤
StandFrom first (held ∷ more) =
    IsHeldFrom first held × StandFrom (first + length (classes_of held)) more

-- what is true of each segment
pub record IsHeld (first count : ℕ) (held : List HeldBatch) (packed : Packed) : Type 0 where
  pub segment : IsSegment (counted_span first held packed)
  pub games : count ≡ length (all_classes held)
  pub stand : StandFrom 0 held

-- game n of the batches is the one at this place of this batch
pub record IsGame (all : List HeldBatch) (n : ℕ) (held : HeldBatch) (place : ℕ) : Type 0 where
  pub in_classes : place < length (classes_of held)
  pub in_texts : place < length (batch_of held).texts
  pub classes : slice_get (classes_of held) place ≡ slice_get (all_classes all) n
  pub text : slice_get (batch_of held).texts place ≡ slice_get (texts_of (all_batches all)) n
