use Rattle.std.proofs.Common.{◌≡◌, ◌++◌, List}
use Rattle.batch_tally.specs.declared.reading.Contents.{Contents}
use Rattle.batch_tally.specs.Reading.{readings_of}
use Rattle.batch_tally.proofs.reading.put_together.Given as goal

abbrev pub invariant-loop-game : goal.invariant-loop-game
invariant-loop-game l =
    (behind : List Contents) → l.readings.items ++ readings_of l.texts.rest.items (l.game-iterator.rest.items ++ behind)
    ≡ l.fn.readings.items ++ readings_of l.fn.texts.rest.items (l.fn.part.items ++ behind)
