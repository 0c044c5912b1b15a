use Rattle.std.proofs.Common.{rules}
use Rattle.std.proofs.lemmas.Slice.Eq.{slice_eq-Decides}
use Rattle.plain_laws.specs.Options.{option_eq-decides}
use Rattle.player_lookup.proofs.visit.has_same_squares.Goals as goal

pub returns : goal.returns
returns c = slice_eq-Decides (option_eq-decides (λ a b. search rules)) c.args.a.now c.args.b.now c.eq.result c.eq.ensures
