-- Bridge: the operations on what readers take.
use Rattle.std.specs.Prelude.{List}
use Rattle.std.specs.Arc.{arc_value}
use Rattle.segment_blocks.specs.Segment.{CountedSpan}
use Rattle.published_index.specs.declared.published.Operation.{Operation}
use Rattle.published_index.specs.declared.published.Operation.TheVariants.{Add, Join}
use Rattle.published_index.specs.Changes.{Change, AddOf, JoinAt, with_change}
use Rattle.published_index.specs.History.{Reached}

abbrev pub change_made : Operation → Change
change_made (Add segment front) = AddOf (arc_value segment)
change_made (Join at segment) = JoinAt at (arc_value segment)

-- the history behind an operation
abbrev pub front_after : Reached → Operation → Reached
front_after front (Add segment reached) = reached
front_after front (Join at segment) = front

abbrev pub applied : List CountedSpan × Reached → Operation → List CountedSpan × Reached
applied shown operation =
    (with_change shown.0 (change_made operation), front_after shown.1 operation)
