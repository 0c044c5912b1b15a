-- Statement. Parts of a journal: batches that stand one after another, with what their tags say and
-- the rows that count their games.
use Rattle.std.specs.Prelude.{ℕ, ◌+◌, List, [], ◌∷◌, map, length}
use Rattle.std.specs.Arc.{arc_value}
use Rattle.std.specs.declared.sync.Arc.{Arc}
use Rattle.std.specs.List.{AllByRecursion, flat_map}
use Rattle.explorer_model.specs.declared.archive.Batch.{Batch}
use Rattle.explorer_model.specs.declared.archive.Classes.{Classes}
use Rattle.explorer_model.specs.declared.archive.Game.{Game}
use Rattle.explorer_model.specs.Spans.{Span}
use Rattle.explorer_model.specs.Visits.{texts_of}
use Rattle.segment_blocks.specs.Segment.{CountedSpan}
use Rattle.tally_rows.specs.declared.row.Row.{Row}
use Rattle.tally_rows.specs.Tally.{IsTallyOf}
use Rattle.tally_rows.specs.Track.{Track}

pub record Part : Type 0 where
  pub batches : List Batch
  pub classes : List Classes
  pub rows : List Row

-- the rows are the tally of the texts
pub record IsPart (part : Part) : Type 0 where
  pub tally : IsTallyOf (texts_of part.batches) part.classes part.rows

-- the batches of parts, in order
abbrev pub journal_of : List Part → List Batch
journal_of parts = flat_map (λ part. part.batches) parts

-- a segment is a part
abbrev pub segment_part : CountedSpan → Part
segment_part segment =
    record { batches = segment.span.batches; classes = segment.classes; rows = segment.rows }

-- so are segments that are shared
abbrev pub parts_in : {Z : Type 0} → List (Arc CountedSpan Z) → List Part
parts_in segments = map segment_part (map arc_value segments)

-- ---- parts as a cover of their games

-- a span for each part, behind so many other batches
abbrev pub spans_from : ℕ → List Part → List Span
spans_from first [] = []
spans_from first (part ∷ parts) =
    record { first = first; batches = part.batches }
    ∷ spans_from (first + length part.batches) parts

-- the games of each part
abbrev pub games_in : (parts : List Part) → AllByRecursion IsPart parts → List (List Game)
games_in [] each = []
games_in (part ∷ parts) each = each.0.tally.games ∷ games_in parts each.1

-- and their tracks
abbrev pub tracks_in : (parts : List Part) → AllByRecursion IsPart parts → List (List Track)
tracks_in [] each = []
tracks_in (part ∷ parts) each = each.0.tally.tracks ∷ tracks_in parts each.1
