use Rattle.std.proofs.Common.{[], ◌∷◌, rules}
use Rattle.published_index.proofs.PlaceLemmas.{begins}
use Rattle.published_index.proofs.tokens.new_cell.Goals as goal

pub ruled-requires : goal.ruled-requires
ruled-requires c = (search rules, (search rules, begins (0 ∷ [])))
