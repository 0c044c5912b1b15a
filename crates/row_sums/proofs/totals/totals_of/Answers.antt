use Rattle.std.proofs.Common.{[], refl, sym, ap, ◌∙◌, rules, subst}
use Rattle.explorer_model.specs.declared.answer.Totals.{Totals}
use Rattle.row_sums.specs.GroupSums.{HasRoom, totals_with}
use Rattle.row_sums.specs.Hits.{hit_as}
use Rattle.row_sums.specs.Sums.{any_row, totals_where}
use Rattle.row_sums.proofs.GroupedRows.{has-room, totals-taken}
use Rattle.row_sums.proofs.Rows.{hits-all, sum-none, totals-same}
use Rattle.row_sums.proofs.totals.totals_of.Goals as goal

pub loop-hit-init : goal.loop-hit-init
loop-hit-init c =
    totals-same c.default-totals.result (totals_where [] any_row) (search rules ∙ sym (sum-none any_row (λ row. row.white)))
    (search rules ∙ sym (sum-none any_row (λ row. row.draws))) (search rules ∙ sym (sum-none any_row (λ row. row.black)))

pub with_games-totals-requires : goal.with_games-totals-requires
with_games-totals-requires c =
    subst (λ (totals : Totals). HasRoom totals (hit_as c.hit-item.result).row) (sym c.loop-hit.invariant)
    (has-room c.args.hits.now c.requires c.loop-hit.hit-index c.hit-item.result c.loop-hit-test.true c.hit-item.is any_row)

pub loop-hit-preserved : goal.loop-hit-preserved
loop-hit-preserved c =
    c.with_games-totals.ensures ∙ ap (totals_with (hit_as c.hit-item.result).row) c.loop-hit.invariant
    ∙ sym (totals-taken c.args.hits.now c.loop-hit.hit-index c.hit-item.result c.loop-hit-test.true c.hit-item.is any_row refl)

pub returns : goal.returns
returns c = c.loop-hit.invariant ∙ ap (λ hits. totals_where hits any_row) (hits-all c.args.hits.now c.loop-hit.hit-index c.loop-hit-test.false)
