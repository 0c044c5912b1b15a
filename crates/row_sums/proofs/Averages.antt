-- Each move of rows has games, and the mean rating of those who play it is below 2^16.
use Rattle.std.proofs.Common.{◌≡◌, ℕ, ◌+◌, ◌*◌, ◌<◌, ◌≤◌, Bool, true, false, cond, List, [], ◌∷◌, Some, refl, sym, ap, ◌∙◌, inl, inr, arith}
use Rattle.std.specs.List.{All, AllByRecursion, sum_by}
use Rattle.std.proofs.lemmas.Bool.Decides.{nat_tests}
use Rattle.std.proofs.lemmas.List.Sums.{sum_by-cons}
use Rattle.std.proofs.lemmas.List.Elements.{All-head, All-tail}
use Rattle.explorer_model.specs.declared.chess.Move.{Move}
use Rattle.explorer_model.specs.Counting.{is_move, is_same_move, total}
use Rattle.row_sums.specs.Hits.{NumberedRow, games_of, IsSound, AreSound}
use Rattle.row_sums.specs.Sums.{sum_where, totals_where, ratings_where, plays, moves_in}
use Rattle.row_sums.specs.MoveSums.{IsAveraged}
use Rattle.row_sums.proofs.RowNexts.{moves-have}
use Rattle.tally_rows.specs.declared.row.Row.{Row}
use Rattle.tally_rows.proofs.Members.{IsIn, recursion-from_IsIn}

pub sum-cons : (hit : NumberedRow) (hits : List NumberedRow) (test : Row → Bool) (count : Row → ℕ)
    → sum_where (hit ∷ hits) test count ≡ cond (test hit.row) (count hit.row) 0 + sum_where hits test count
unfolding sum_where
sum-cons hit hits test count = sum_by-cons (λ (h : NumberedRow). cond (test h.row) (count h.row) 0) hit hits

pub sum-nil : (test : Row → Bool) (count : Row → ℕ) → sum_where [] test count ≡ 0
unfolding sum_where
sum-nil test count = refl

rated : (hits : List NumberedRow) (test : Row → Bool) → All IsSound hits → ratings_where hits test ≤ 65535 * total (totals_where hits test)
rated [] test sound = omega (arith, sum-nil test (λ row. row.ratings))
rated (hit ∷ hits) test sound =
    let rest = rated hits test (All-tail IsSound hit hits sound) in
    let here = one (test hit.row) (All-head IsSound hit hits sound).ratings in
    omega (
      arith,
      rest,
      here,
      sum-cons hit hits test (λ row. row.ratings),
      sum-cons hit hits test (λ row. row.white),
      sum-cons hit hits test (λ row. row.draws),
      sum-cons hit hits test (λ row. row.black),
    )
  where
    one : (b : Bool) → hit.row.ratings ≤ 65535 * games_of hit.row
        → cond b hit.row.ratings 0 ≤ 65535 * (cond b hit.row.white 0 + cond b hit.row.draws 0 + cond b hit.row.black 0)
    one true le = le
    one false le = omega arith

-- games that pass a test are among all
few : (hits : List NumberedRow) (test : Row → Bool) → total (totals_where hits test) ≤ sum_by (λ hit. games_of hit.row) hits
few [] test = omega (arith, sum-nil test (λ row. row.white), sum-nil test (λ row. row.draws), sum-nil test (λ row. row.black))
few (hit ∷ hits) test =
    let rest = few hits test in
    let here = one (test hit.row) in
    omega (
      arith,
      rest,
      here,
      sum_by-cons (λ (h : NumberedRow). games_of h.row) hit hits,
      sum-cons hit hits test (λ row. row.white),
      sum-cons hit hits test (λ row. row.draws),
      sum-cons hit hits test (λ row. row.black),
    )
  where
    one : (b : Bool) → cond b hit.row.white 0 + cond b hit.row.draws 0 + cond b hit.row.black 0 ≤ games_of hit.row
    one true = omega arith
    one false = omega arith

same-itself : (m : Move) → is_same_move m m ≡ true
same-itself m = grind (arith, nat_tests)

played : (hits : List NumberedRow) (m : Move) → All IsSound hits → (hit : NumberedRow) → IsIn hit hits → hit.row.next ≡ Some m
    → 0 < total (totals_where hits (plays m))
played [] m sound hit is_in next = absurd is_in
played (first ∷ hits) m sound hit (inl same) next =
    let test : plays m first.row ≡ true = ap (λ (h : NumberedRow). is_move m h.row.next) (sym same) ∙ ap (λ o. is_move m o) next ∙ same-itself m in
    let some : 0 < games_of first.row = (All-head IsSound first hits sound).some in
    let white = ap (λ b. cond {A = ℕ} b first.row.white 0) test in
    let draws = ap (λ b. cond {A = ℕ} b first.row.draws 0) test in
    let black = ap (λ b. cond {A = ℕ} b first.row.black 0) test in
    omega (
      arith,
      some,
      white,
      draws,
      black,
      sum-cons first hits (plays m) (λ row. row.white),
      sum-cons first hits (plays m) (λ row. row.draws),
      sum-cons first hits (plays m) (λ row. row.black),
    )
played (first ∷ hits) m sound hit (inr later) next =
    let rest = played hits m (All-tail IsSound first hits sound) hit later next in
    omega (
      arith,
      rest,
      sum-cons first hits (plays m) (λ row. row.white),
      sum-cons first hits (plays m) (λ row. row.draws),
      sum-cons first hits (plays m) (λ row. row.black),
    )

pub averaged : (hits : List NumberedRow) → AreSound hits → AllByRecursion (IsAveraged hits) (moves_in hits)
averaged hits sound =
    moves-have (IsAveraged hits) hits (recursion-from_IsIn _ hits (λ hit is_in m next. record {
      played = played hits m sound.each hit is_in next;
      few = omega (arith, few hits (plays m), sound.few);
      rated = rated hits (plays m) sound.each;
    }))
