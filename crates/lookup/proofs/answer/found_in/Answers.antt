use Rattle.std.proofs.Common.{◌≡◌, List, map, take, sym, ap, ◌∙◌, subst}
use Rattle.std.specs.Prelude.{filter_map}
use Rattle.std.specs.List.{AllByRecursion, AllZip}
use Rattle.best_lists.specs.declared.entry.Entry.{Entry}
use Rattle.explorer_model.specs.Best.{best}
use Rattle.explorer_model.specs.declared.answer.MoveLine.{MoveLine}
use Rattle.explorer_model.specs.declared.archive.Classes.{Classes}
use Rattle.explorer_model.specs.declared.chess.Move.{Move}
use Rattle.explorer_model.specs.declared.chess.Position.{Position}
use Rattle.explorer_model.specs.Chess.{Legal}
use Rattle.row_sums.specs.declared.moves.MoveSum.{MoveSum}
use Rattle.row_sums.specs.Hits.{NumberedRow, hit_as}
use Rattle.row_sums.specs.MoveSums.{IsAveraged}
use Rattle.lookup.specs.Lines.{IsLineMade}
use Rattle.row_sums.specs.MoveSums.{sum_as}
use Rattle.row_sums.specs.Listing.{listed_where}
use Rattle.row_sums.specs.Sums.{moves_in, before_by_total}
use Rattle.row_sums.proofs.Averages.{averaged}
use Rattle.row_sums.proofs.SortedLines.{sums-have, sums-are}
use Rattle.lookup.proofs.answer.found_in.Goals as goal

pub lines_of-requires-clause-legal : goal.lines_of-requires-clause-legal
lines_of-requires-clause-legal g c =
    let L : List MoveSum → Type 0 = λ sums. AllByRecursion (λ (sum : MoveSum). Legal c.args.board.now sum.next) sums in
    subst L (sym (c.as_slice.ensures.value ∙ c.in_ok-sums.ensures)) (sums-have (λ m. Legal c.args.board.now m) (map hit_as c.args.hits.now) c.args.query.now.moves c.requires.legal)

pub lines_of-requires-clause-averaged : goal.lines_of-requires-clause-averaged
lines_of-requires-clause-averaged g c =
    let A : List MoveSum → Type 0 = λ sums. AllByRecursion (λ (sum : MoveSum). IsAveraged (map hit_as c.args.hits.now) sum.next) sums in
    subst A (sym (c.as_slice.ensures.value ∙ c.in_ok-sums.ensures))
    (sums-have (λ m. IsAveraged (map hit_as c.args.hits.now) m) (map hit_as c.args.hits.now) c.args.query.now.moves (averaged (map hit_as c.args.hits.now) c.requires.sound))

pub lines_of-requires-clause-sums : goal.lines_of-requires-clause-sums
lines_of-requires-clause-sums g c =
    let S : List MoveSum → Type 0 = λ sums. AllByRecursion (λ (sum : MoveSum). sum ≡ sum_as (map hit_as c.args.hits.now) sum.next) sums in
    subst S (sym (c.as_slice.ensures.value ∙ c.in_ok-sums.ensures)) (sums-are (map hit_as c.args.hits.now) _)

pub returns : goal.returns
returns g c =
    let hits : List NumberedRow = map hit_as c.args.hits.now in
    let games : List Classes = g.G.Games.classes c.args.games.now in
    let query = c.args.query.now in
    let moves : List Move = best (before_by_total hits) query.moves (moves_in hits) in
    let sums : c.as_slice.result.now ≡ map (sum_as hits) moves = c.as_slice.ensures.value ∙ c.in_ok-sums.ensures in
    let made : (at : Position) → MoveSum → MoveLine → Type 0 = λ at sum line. IsLineMade at games hits sum.next line in
    let AtBoard : Position → Type 0 = λ at. AllZip (made at) c.as_slice.result.now c.in_ok-moves.moves.items in
    let OfSums : List MoveSum → Type 0 = λ sums. AllZip (made query.at) sums c.in_ok-moves.moves.items in
    let OfLines : List MoveLine → Type 0 = λ lines. AllZip (made query.at) (map (sum_as hits) moves) lines in
    record {
      totals = c.totals_of.ensures;
      lines = subst OfLines (sym c.from_vec.ensures) (subst OfSums sums (subst AtBoard c.requires.board c.in_ok-moves.ensures));
      top = record {
        rows = map hit_as c.in_ok-top.rows.items;
        entries = c.in_ok-top.top;
        are_best = c.in_ok-top.ensures;
        are_listed = c.from_vec-2.ensures ∙ c.in_ok-top-2.ensures
            ∙ (λ i. filter_map (λ (entry : Entry). listed_where (λ row. row.top) games (map hit_as (c.as_slice-2.ensures.value i)) entry.number) (c.first-entries.ensures i))
            ∙ ap (λ entries. filter_map (λ (entry : Entry). listed_where (λ row. row.top) games (map hit_as c.in_ok-top.rows.items) entry.number) (take query.top entries)) c.entries.ensures.entries;
      };
      recent = record {
        rows = map hit_as c.in_ok-recent.rows.items;
        entries = c.in_ok-recent.recent;
        are_best = c.in_ok-recent.ensures;
        are_listed = c.from_vec-3.ensures ∙ c.in_ok-recent-2.ensures
            ∙ (λ i. filter_map (λ (entry : Entry). listed_where (λ row. row.recent) games (map hit_as (c.as_slice-3.ensures.value i)) entry.number) (c.first-entries-2.ensures i))
            ∙ ap (λ entries. filter_map (λ (entry : Entry). listed_where (λ row. row.recent) games (map hit_as c.in_ok-recent.rows.items) entry.number) (take query.recent entries)) c.entries-2.ensures.entries;
      };
      history = c.in_ok-asked_history.ensures;
    }
