use Rattle.std.proofs.Common.{◌≡◌, ◌++◌}
use Rattle.std.specs.List.{flat_map}
use Rattle.batch_tally.specs.Reading.{readings_of}
use Rattle.batch_tally.proofs.reading.readings_of.Given as goal

abbrev pub invariant-loop-part : goal.invariant-loop-part
invariant-loop-part l =
    l.readings.items ++ readings_of l.rest.rest.items (flat_map (λ part. part.items) l.part-iterator.rest.items)
    ≡ readings_of l.fn.texts.items (flat_map (λ part. part.items) l.fn.parts.items)
