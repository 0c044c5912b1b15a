use Rattle.std.proofs.Common.{◌-◌, length}
use Rattle.std.specs.List.{All}
use Rattle.pgn_lex.specs.Reading.{section_as, front_of, IsReadUpTo}
use Rattle.pgn_lex.specs.Span.{IsWithin}
use Rattle.pgn_lex.proofs.reading.spanned_parts.Given as goal

abbrev pub invariant-loop-at : goal.invariant-loop-at
invariant-loop-at l =
    IsReadUpTo l.text l.at (section_as l.section) (front_of l.text l.found)
    × All (IsWithin (length l.text)) l.found.spans.items

abbrev pub decreases-loop-at : goal.decreases-loop-at
decreases-loop-at l = length l.text - l.at
