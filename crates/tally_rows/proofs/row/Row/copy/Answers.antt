use Rattle.std.proofs.Common.{◌≡◌, ◌++◌, ap, ◌∙◌, append-nil}
use Rattle.explorer_model.specs.Best.{best}
use Rattle.best_lists.specs.Ranking.{before_by_rating, before_by_month}
use Rattle.tally_rows.proofs.row.Row.copy.Goals as goal

pub returns : goal.returns
returns c =
    let row = c.args.self.now in
    let top : c.join.result ≡ row.top =
    c.join.ensures ∙ ap (λ l. best before_by_rating 4 (row.top ++ l)) c.empty.ensures ∙ ap (best before_by_rating 4) (append-nil row.top) ∙ c.entries-top.ensures.own_best in
    let recent : c.join-2.result ≡ row.recent =
    c.join-2.ensures ∙ ap (λ l. best before_by_month 4 (row.recent ++ l)) c.empty-2.ensures ∙ ap (best before_by_month 4) (append-nil row.recent) ∙ c.entries-recent.ensures.own_best in
    λ i. record row { top = top i; recent = recent i }
