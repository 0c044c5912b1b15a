-- Statement: what is kept of a segment without its rows.
use Rattle.std.specs.Prelude.{ℕ, List}
use Rattle.explorer_model.specs.declared.archive.Classes.{Classes}
use Rattle.explorer_model.specs.Spans.{Span}
use Rattle.segment_blocks.specs.declared.held_batch.HeldBatch.{HeldBatch}
use Rattle.segment_blocks.specs.HeldBatches.{all_batches, all_classes, IsHeld}
use Rattle.segment_blocks.specs.PackedRows.{Packed}
use Rattle.segment_blocks.specs.Segment.{CountedSpan}

-- the batches of a span, and the classes of their games in order
pub record KeptSpan : Type 0 where
  pub span : Span
  pub classes : List Classes

-- what is left of a segment once its rows are gone
abbrev pub kept_of : CountedSpan → KeptSpan
kept_of segment = record { span = segment.span; classes = segment.classes }

-- ---- how it is held

abbrev pub kept_span : ℕ → List HeldBatch → KeptSpan
kept_span first held = record {
  span = record { first = first; batches = all_batches held };
  classes = all_classes held;
}

-- they are those of a segment with some rows
pub record IsKept (first count : ℕ) (held : List HeldBatch) : Type 0 where
  pub packed : Packed
  pub segment : IsHeld first count held packed
