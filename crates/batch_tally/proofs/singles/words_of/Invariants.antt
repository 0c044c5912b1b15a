use Rattle.std.proofs.Common.{◌≡◌, map, take}
use Rattle.batch_tally.specs.Singles.{word_of}
use Rattle.batch_tally.proofs.singles.words_of.Given as goal

abbrev pub invariant-loop-single : goal.invariant-loop-single
invariant-loop-single l = l.words.items ≡ map word_of (take l.single-index l.singles)
