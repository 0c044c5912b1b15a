-- Statement: a span of a journal with what its tags say and the rows that count its games.
use Rattle.std.specs.Prelude.{◌≡◌, ℕ, ◌+◌, ◌<◌, ◌≤◌, ◌^◌, List, ◌++◌, length}
use Rattle.std.specs.List.{All}
use Rattle.explorer_model.specs.declared.archive.Classes.{Classes}
use Rattle.explorer_model.specs.Journal.{IsBatch}
use Rattle.explorer_model.specs.Spans.{Span}
use Rattle.explorer_model.specs.Visits.{texts_of}
use Rattle.tally_rows.specs.declared.row.Row.{Row}
use Rattle.tally_rows.specs.Tally.{IsTallyOf}
use Rattle.segment_blocks.specs.PackedRows.{AreBlocksOf}

-- the batches of a span, the classes of their games in order, and rows, with how many blocks they
-- take
pub record CountedSpan : Type 0 where
  pub span : Span
  pub classes : List Classes
  pub rows : List Row
  pub blocks : ℕ

-- the most games of a segment
abbrev pub segment_limit : ℕ
segment_limit = 262144

-- the rows are the tally of the span's texts, and the blocks hold them; the span's first game has
-- number 0
pub record IsSegment (segment : CountedSpan) : Type 0 where
  pub some : 0 < length segment.span.batches
  pub place : segment.span.first + length segment.span.batches < 2 ^ 32
  pub few : length segment.classes ≤ segment_limit
  pub batches : All IsBatch segment.span.batches
  pub tally : IsTallyOf (texts_of segment.span.batches) segment.classes segment.rows
  pub blocks : AreBlocksOf segment.rows segment.blocks

-- both spans in one
abbrev pub span_of_both : Span → Span → Span
span_of_both left right = record { first = left.first; batches = left.batches ++ right.batches }

-- the right span begins where the left one ends, and a segment may have the games of both
pub record CanJoin (left right : CountedSpan) : Type 0 where
  pub adjoin : right.span.first ≡ left.span.first + length left.span.batches
  pub few : length left.classes + length right.classes ≤ segment_limit

-- the rows are the tally of both spans' texts
abbrev pub IsTallyOfBoth : CountedSpan → CountedSpan → List Row → Type 0
IsTallyOfBoth left right rows =
    IsTallyOf (texts_of (left.span.batches ++ right.span.batches)) (left.classes ++ right.classes)
    rows
