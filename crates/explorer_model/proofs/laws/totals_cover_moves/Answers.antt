use Rattle.std.proofs.Common.{refl}
use Rattle.explorer_model.specs.declared.archive.Outcome.TheVariants as outcomes
use Rattle.explorer_model.proofs.Totals.{part-within}
use Rattle.explorer_model.proofs.laws.totals_cover_moves.Goals as goal

pub returns-clause-white : goal.returns-clause-white
returns-clause-white c = part-within (λ totals. totals.white) outcomes.White (λ counted games_at. refl)

pub returns-clause-draws : goal.returns-clause-draws
returns-clause-draws c = part-within (λ totals. totals.draws) outcomes.Draw (λ counted games_at. refl)

pub returns-clause-black : goal.returns-clause-black
returns-clause-black c = part-within (λ totals. totals.black) outcomes.Black (λ counted games_at. refl)
