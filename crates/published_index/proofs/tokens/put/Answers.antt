use Rattle.std.proofs.Common.{◌<◌, rules, sym, subst, ◌∙◌}
use Rattle.published_index.specs.declared.views.View.{View}
use Rattle.published_index.proofs.PlaceLemmas.{merges, wholes}
use Rattle.published_index.proofs.tokens.put.Goals as goal

pub split_pass-whole-requires : goal.split_pass-whole-requires
split_pass-whole-requires c = (search rules, (search rules, (c.requires.drawer_own, wholes _ _ c.requires.drawer)))

pub join_pass-requires : goal.join_pass-requires
join_pass-requires c =
    let t = c.split_pass-whole.ensures in
    let given = subst (λ (u : View). 0 < u.parts) (sym t.given.1) c.requires.drawer_some in
    (search rules, (search rules, ((c.requires.own, t.given.0 ∙ (c.requires.drawer_own ∙ sym c.requires.own), t.given.2), merges _ _ _ _ c.requires.some given)))
