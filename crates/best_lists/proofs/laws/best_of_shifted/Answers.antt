use Rattle.best_lists.proofs.Entries.{best-moved}
use Rattle.best_lists.proofs.laws.best_of_shifted.Goals as goal

pub returns : goal.returns
returns g c = λ by entries. best-moved g.met.O.Ranking.keeps_when_moved by 4 entries
