use Rattle.std.proofs.Common.{◌≡◌, List, [], ◌∷◌, Option, sym, ◌∙◌, inl, inr}
use Rattle.explorer_model.specs.declared.chess.Move.{Move}
use Rattle.explorer_model.specs.declared.chess.Position.{Position}
use Rattle.explorer_model.specs.Visits.{Stage, FirstVisit}
use Rattle.explorer_model.proofs.laws.first_visit_is_determined.Goals as goal

one-visit : (at : Position) (stages : List Stage) (v w : Option (Option Move)) → FirstVisit at stages v → FirstVisit at stages w → v ≡ w
one-visit at [] v w first second = first ∙ sym second
one-visit at (stage ∷ stages) v w (inl here) (inl there) = here.1 ∙ sym there.1
one-visit at (stage ∷ stages) v w (inl here) (inr later) = absurd (later.0 here.0)
one-visit at (stage ∷ stages) v w (inr later) (inl here) = absurd (later.0 here.0)
one-visit at (stage ∷ stages) v w (inr first) (inr second) = one-visit at stages v w first.1 second.1

pub returns : goal.returns
returns c = one-visit
