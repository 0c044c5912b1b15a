use Rattle.std.proofs.Common.{◌+◌, ◌≤◌, map}
use Rattle.std.specs.Option.{option_copied}
use Rattle.opening_names.specs.Held.{AreKeyed, named_line}
use Rattle.opening_names.specs.Reading.{size_left}
use Rattle.opening_names.proofs.LineLemmas.{ReadsOn}
use Rattle.opening_names.proofs.book.read_lines.Given as goal

abbrev pub invariant-loop-rest : goal.invariant-loop-rest
invariant-loop-rest l = record {
  reads : ReadsOn l.fn.text l.number (option_copied l.rest) (map named_line l.lines.items);
  keyed : AreKeyed l.lines.items;
  room : l.number + size_left (option_copied l.rest) ≤ 4194306;
}

abbrev pub decreases-loop-rest : goal.decreases-loop-rest
decreases-loop-rest l = size_left (option_copied l.rest)
