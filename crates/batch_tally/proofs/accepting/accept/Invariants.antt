use Rattle.std.proofs.Common.{◌≡◌, length, map}
use Rattle.std.specs.List.{All}
use Rattle.batch_tally.specs.Accepting.{IsCounted, id_word_of}
use Rattle.batch_tally.specs.Marks.{AreIdsMarked}
use Rattle.batch_tally.specs.Reading.{HasCount}
use Rattle.batch_tally.proofs.Verdicts.{Sorting}
use Rattle.batch_tally.proofs.accepting.accept.Given as goal

abbrev pub invariant-loop-reading : goal.invariant-loop-reading
invariant-loop-reading l = record {
  sorting : Sorting l.fn.readings.items l.accepted.items l.refused.items l.reading-iterator.rest.items;
  counted : All IsCounted l.accepted.items;
  words : l.words.items ≡ map id_word_of l.accepted.items;
  marks : AreIdsMarked l.marks l.words.items;
  wide : length l.marks ≡ 4096;
  counts : All HasCount l.reading-iterator.rest.items;
}
