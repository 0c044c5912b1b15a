use Rattle.std.proofs.Common.{map, take}
use Rattle.std.specs.List.{AllZip}
use Rattle.row_sums.specs.Hits.{hit_as}
use Rattle.lookup.specs.Lines.{IsLineMade}
use Rattle.lookup.proofs.lines.lines_of.Given as goal

abbrev pub invariant-loop-sum : goal.invariant-loop-sum
invariant-loop-sum g l =
    AllZip (λ sum line. IsLineMade l.board (g.G.Games.classes l.games) (map hit_as l.hits) sum.next line) (take l.sum-index l.sums) l.lines.items
