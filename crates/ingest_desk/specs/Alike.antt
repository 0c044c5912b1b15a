-- Statement: segments that count the same, and lists of such segments.
use Rattle.std.specs.Prelude.{◌≡◌, List}
use Rattle.std.specs.List.{AllZip}
use Rattle.segment_blocks.specs.Segment.{CountedSpan}

-- the same batches at the same place, with the same classes and rows; in how many blocks these are
-- packed is left free
pub record CountAlike (segment other : CountedSpan) : Type 0 where
  pub span : segment.span ≡ other.span
  pub classes : segment.classes ≡ other.classes
  pub rows : segment.rows ≡ other.rows

-- as many segments, each of which counts the same as the other list's at its place
abbrev pub StandAlike : List CountedSpan → List CountedSpan → Type 0
StandAlike list other = AllZip CountAlike list other
