use Rattle.std.proofs.Common.{◌≡◌, reverse, length}
use Rattle.explorer_model.specs.San.{unmarked}
use Rattle.san_codec.proofs.grammar.without_marks.Given as goal

abbrev pub invariant-loop-front : goal.invariant-loop-front
invariant-loop-front l = unmarked (reverse l.rest) ≡ unmarked (reverse l.fn.text)

abbrev pub decreases-loop-front : goal.decreases-loop-front
decreases-loop-front l = length l.rest
