use Rattle.std.proofs.Common.{◌≡◌, [], ◌∷◌, ◌++◌, get_or, ap, ◌∙◌, rules, arith}
use Rattle.std.specs.Prelude.{slice_set}
use Rattle.explorer_model.specs.declared.answer.MonthLine.{MonthLine}
use Rattle.explorer_model.specs.declared.answer.Totals.{Totals}
use Rattle.row_sums.specs.Hits.{hit_as}
use Rattle.row_sums.specs.GroupSums.{line_with, no_line, no_totals, totals_with}
use Rattle.row_sums.proofs.Grouping.{changed-within, changed-behind}
use Rattle.row_sums.proofs.Rows.{totals-same}
use Rattle.tally_rows.specs.declared.row.Row.{Row}
use Rattle.row_sums.proofs.history.add_hit.Goals as goal

pub returns-then-place-len : goal.returns-then-place-len
returns-then-place-len c =
    let row : Row = (hit_as c.args.hit.now).row in
    let lines = c.args.lines.now.items in
    let line : MonthLine = c.index-line.result.now in
    let is : line ≡ get_or lines c.args.place line = search rules in
    let lined : Totals → MonthLine = λ t. record { month = line.month; totals = t } in
    ap (slice_set lines c.args.place) (ap lined c.with_games-totals.ensures ∙ ap (line_with row) is)
    ∙ changed-within (line_with row) (line_with row (no_line row.month)) c.args.place lines line (omega arith)

pub returns-in_ok-push : goal.returns-in_ok-push
returns-in_ok-push c =
    let row : Row = (hit_as c.args.hit.now).row in
    let lines = c.args.lines.now.items in
    let zero : c.default.result ≡ no_totals = totals-same c.default.result no_totals (search rules) (search rules) (search rules) in
    let counted : c.with_games.result ≡ totals_with row no_totals = c.with_games.ensures ∙ ap (totals_with row) zero in
    c.in_ok-push.ensures.items
    ∙ ap (λ (l : MonthLine). lines ++ l ∷ []) (λ i. record { month = c.month.ensures i; totals = counted i })
    ∙ changed-behind (line_with row) (line_with row (no_line row.month)) c.args.place lines (omega arith)
