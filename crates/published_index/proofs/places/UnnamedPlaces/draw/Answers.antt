use Rattle.std.proofs.Common.{◌∙◌}
use Rattle.crossbeam_utils.specs.Seq.{cell_view}
use Rattle.published_index.proofs.PlaceLemmas.{draws-next}
use Rattle.published_index.proofs.places.UnnamedPlaces.draw.Goals as goal

pub invariant_of-self : goal.invariant_of-self
invariant_of-self g c =
    let s = c.self.invariant in
    let before = cell_view c.self.inside.token in
    rw c.draw_next.ensures.view
    (c.draw_next.ensures.own ∙ s.0, s.1, s.2, λ x. draws-next x before.count before.drawn (s.3 x))
