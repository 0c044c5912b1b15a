use Rattle.std.proofs.Common.{◌≡◌, List, map, take, ap, subst, ◌∙◌}
use Rattle.std.specs.Prelude.{filter_map}
use Rattle.std.specs.Arc.{arc_value}
use Rattle.std.proofs.lemmas.Result.{IfOk-weaker}
use Rattle.best_lists.specs.declared.entry.Entry.{Entry}
use Rattle.explorer_model.specs.declared.answer.Listed.{Listed}
use Rattle.player_lookup.specs.Made.{AreLatestOf}
use Rattle.row_sums.specs.Hits.{NumberedRow, hit_as}
use Rattle.row_sums.specs.Listing.{classes_in, listed_where}
use Rattle.player_lookup.proofs.rows.recent_games.Goals as goal

pub returns : goal.returns
returns c =
    let games = classes_in (map arc_value c.args.segments.now) in
    let hits : List NumberedRow = map hit_as c.args.hits.now in
    let told : (rows : List NumberedRow) (entries : List Entry) → List Listed → Type 0 =
    λ rows entries listed. listed ≡ filter_map (λ (entry : Entry). listed_where (λ row. row.recent) games rows entry.number) entries in
    let entries : c.first.result.now ≡ take c.args.most c.in_ok-recent.recent = c.first.ensures ∙ ap (take c.args.most) c.entries.ensures.entries in
    IfOk-weaker c.listed_by_month.result (λ listed. told (map hit_as c.as_slice.result.now) c.first.result.now listed.items) (λ listed. AreLatestOf games hits c.args.most listed.items)
    (λ listed is. record {
      rows = map hit_as c.in_ok-recent.rows.items;
      entries = c.in_ok-recent.recent;
      are_best = c.in_ok-recent.ensures;
      are_listed = subst (λ es. told (map hit_as c.in_ok-recent.rows.items) es listed.items) entries
          (subst (λ rs. told (map hit_as rs) c.first.result.now listed.items) c.as_slice.ensures.value is);
    })
    c.listed_by_month.ensures
