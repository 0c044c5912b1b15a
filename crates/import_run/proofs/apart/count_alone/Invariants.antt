use Rattle.std.specs.List.{All}
use Rattle.import_run.specs.Apart.{CanTally}
use Rattle.import_run.proofs.ApartLemmas.{CountsOn}
use Rattle.import_run.proofs.apart.count_alone.Given as goal

abbrev pub invariant-counting : goal.invariant-counting
invariant-counting g l = record {
  left : All CanTally l.group-iterator.rest.items;
  made : CountsOn l.fn.groups.items l.group-iterator.rest.items l.counted.items;
}
