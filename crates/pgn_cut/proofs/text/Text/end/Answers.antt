use Rattle.std.proofs.Common.{◌∙◌, ap}
use Rattle.std.specs.Prelude.{◌∷◌, []}
use Rattle.explorer_model.specs.Cuts.{Cut}
use Rattle.pgn_cut.specs.Text.{TextState, cuts_of_text}
use Rattle.pgn_cut.proofs.Texts.{cuts-nil}
use Rattle.pgn_cut.proofs.text.Text.end.Goals as goal

pub returns : goal.returns
returns c =
    ap (λ (x : Cut). x ∷ []) c.cut_of.ensures
    ∙ cuts-nil (record { place = c.self.inside.place; count = c.self.inside.count; matched = c.self.inside.matched; kept = c.self.inside.kept.items }) c.self.invariant
    ∙ ap (λ (t : TextState). cuts_of_text t []) c.self.view_is
