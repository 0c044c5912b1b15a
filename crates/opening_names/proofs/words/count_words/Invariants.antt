use Rattle.std.proofs.Common.{◌≡◌, ◌≤◌, ◌+◌, length}
use Rattle.std.specs.Option.{option_copied}
use Rattle.explorer_model.specs.Openings.{words_of}
use Rattle.opening_names.specs.Reading.{size_left, words_left}
use Rattle.opening_names.proofs.words.count_words.Given as goal

abbrev pub invariant-loop-rest : goal.invariant-loop-rest
invariant-loop-rest l = record {
  count : l.count + length (words_left (option_copied l.rest)) ≡ length (words_of l.fn.text);
  room : l.count + size_left (option_copied l.rest) ≤ length l.fn.text + 1;
}

abbrev pub decreases-loop-rest : goal.decreases-loop-rest
decreases-loop-rest l = size_left (option_copied l.rest)
