use Rattle.std.proofs.Common.{◌≡◌, List, map, sym, subst, ◌∙◌}
use Rattle.std.specs.Arc.{arc_value}
use Rattle.std.specs.List.{AllByRecursion, AllZip}
use Rattle.std.proofs.lemmas.List.Elements.{All-from_recursion, recursion_from_All}
use Rattle.best_lists.proofs.BestLaws.{All-best}
use Rattle.explorer_model.specs.Chess.{Legal}
use Rattle.explorer_model.specs.declared.answer.Listed.{Listed}
use Rattle.explorer_model.specs.declared.chess.Position.{Position}
use Rattle.explorer_model.specs.declared.player.PlayerLine.{PlayerLine}
use Rattle.player_lookup.specs.Made.{AreLatestOf, HasMean, IsLineFrom, moves_listed}
use Rattle.player_lookup.proofs.MadeAnswers.{have-means}
use Rattle.row_sums.specs.Hits.{NumberedRow, hit_as}
use Rattle.row_sums.specs.Listing.{classes_in}
use Rattle.row_sums.specs.MoveSums.{IsAveraged, sum_as}
use Rattle.row_sums.specs.Sums.{before_by_total, moves_in}
use Rattle.row_sums.specs.declared.moves.MoveSum.{MoveSum}
use Rattle.row_sums.proofs.Averages.{averaged}
use Rattle.row_sums.proofs.SortedLines.{sums-of}
use Rattle.player_lookup.proofs.rows.found_in.Goals as goal

sums : (c : goal.After-as_slice) → c.as_slice.result.now ≡ map (sum_as (map hit_as c.args.hits.now)) (moves_listed c.args.query.now (map hit_as c.args.hits.now))
sums c = c.as_slice.ensures.value ∙ c.in_ok-sums.ensures

pub lines_of-requires-clause-legal : goal.lines_of-requires-clause-legal
lines_of-requires-clause-legal c =
    let hits : List NumberedRow = map hit_as c.args.hits.now in
    let L : List MoveSum → Type 0 = λ sums. AllByRecursion (λ (sum : MoveSum). Legal c.args.board.now sum.next) sums in
    subst L (sym (sums c)) (sums-of (λ m. Legal c.args.board.now m) hits (moves_listed c.args.query.now hits) c.requires.legal)

pub lines_of-requires-clause-means : goal.lines_of-requires-clause-means
lines_of-requires-clause-means c =
    let hits : List NumberedRow = map hit_as c.args.hits.now in
    let most = c.args.query.now.query.moves in
    let M : List MoveSum → Type 0 = λ sums. AllByRecursion HasMean sums in
    let means : AllByRecursion (IsAveraged hits) (moves_listed c.args.query.now hits) =
    recursion_from_All (IsAveraged hits) (moves_listed c.args.query.now hits)
    (All-best (before_by_total hits) (IsAveraged hits) most (moves_in hits)
    (All-from_recursion (IsAveraged hits) (moves_in hits) (averaged hits c.requires.sound))) in
    subst M (sym (sums c)) (have-means hits (moves_listed c.args.query.now hits) means)

pub returns : goal.returns
returns c =
    let hits : List NumberedRow = map hit_as c.args.hits.now in
    let q = c.args.query.now in
    let games = classes_in (map arc_value c.args.segments.now) in
    let made : (at : Position) → MoveSum → PlayerLine → Type 0 = λ at. IsLineFrom at games in
    let AtBoard : Position → Type 0 = λ at. AllZip (made at) c.as_slice.result.now c.in_ok-moves.moves.items in
    let OfSums : List MoveSum → Type 0 = λ sums. AllZip (made q.query.at) sums c.in_ok-moves.moves.items in
    let OfLines : List PlayerLine → Type 0 = λ lines. AllZip (made q.query.at) (map (sum_as hits) (moves_listed q hits)) lines in
    let Latest : List Listed → Type 0 = λ listed. AreLatestOf games hits q.query.recent listed in
    record {
      totals = c.totals_of.ensures;
      lines = subst OfLines (sym c.from_vec.ensures) (subst OfSums (c.as_slice.ensures.value ∙ c.in_ok-sums.ensures) (subst AtBoard c.requires.board c.in_ok-moves.ensures));
      recent = subst Latest (sym c.from_vec-2.ensures) c.in_ok-recent.ensures;
    }
