use Rattle.std.proofs.Common.{◌≡◌, true, false}
use Rattle.std.proofs.lemmas.List.{nil_from_length}
use Rattle.best_lists.proofs.BestLaws.{SplitsBest-left_first, SplitsBest-right_first, SplitsBest-left_alone, SplitsBest-right_alone}
use Rattle.best_lists.proofs.best4.split_best.Goals as goal

pub returns-then-is_before : goal.returns-then-is_before
returns-then-is_before g c =
    let m = c.in-Some-Some in
    let left = m.ensures.cases.0 in
    let right = m.ensures'.cases.0 in
    let test : g.O.Ranking.before m.right_first.now m.left_first.now ≡ true = cc in
    rw (left, right)
    (SplitsBest-right_first g.met.O.Ranking.is_order _ _ _ _ (rw left at c.requires.left_in_order) (rw right at c.requires.right_in_order) test)

pub returns-else-is_before : goal.returns-else-is_before
returns-else-is_before g c =
    let m = c.in-Some-Some in
    let left = m.ensures.cases.0 in
    let right = m.ensures'.cases.0 in
    let test : g.O.Ranking.before m.right_first.now m.left_first.now ≡ false = cc in
    rw (left, right)
    (SplitsBest-left_first g.met.O.Ranking.is_order _ _ _ _ (rw left at c.requires.left_in_order) (rw right at c.requires.right_in_order) test)

pub returns-in-Some-None : goal.returns-in-Some-None
returns-in-Some-None g c =
    let m = c.in-Some-None in
    let left = m.ensures.cases.0 in
    let right = nil_from_length _ m.ensures'.cases in
    rw (left, right) (SplitsBest-left_alone g.met.O.Ranking.is_order _ _ (rw left at c.requires.left_in_order))

pub returns-in-None-Some : goal.returns-in-None-Some
returns-in-None-Some g c =
    let m = c.in-None-Some in
    let left = nil_from_length _ m.ensures.cases in
    let right = m.ensures'.cases.0 in
    rw (left, right) (SplitsBest-right_alone g.met.O.Ranking.is_order _ _ (rw right at c.requires.right_in_order))
