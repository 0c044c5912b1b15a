-- The lines of months and of moves, with one row more.
use Rattle.std.proofs.Common.{◌≡◌, ℕ, ◌+◌, ◌<◌, Bool, true, false, ◌||◌, cond, List, [], ◌∷◌, ◌++◌, length, map, take, get_or, Option, Some, None, refl, sym, ap, subst, ◌∙◌, add-zero, arith}
use Rattle.std.specs.List.{All, AllByRecursion, IsDistinct, list_any, position_or_len, filter_map, cons_option}
use Rattle.std.proofs.lemmas.Bool.Decides.{nat_tests}
use Rattle.std.proofs.lemmas.List.Elements.{All-map}
use Rattle.best_lists.specs.Entry.{moved_by}
use Rattle.best_lists.specs.declared.entry.Entry.{Entry}
use Rattle.explorer_model.specs.declared.answer.MonthLine.{MonthLine}
use Rattle.explorer_model.specs.declared.archive.Month.{Month}
use Rattle.explorer_model.specs.declared.chess.Move.{Move}
use Rattle.explorer_model.specs.Counting.{distinct, is_move, is_same_move, is_same_month, month_number, promotion_number}
use Rattle.row_sums.specs.declared.hits.Hit.{Hit}
use Rattle.row_sums.specs.declared.moves.MoveSum.{MoveSum}
use Rattle.row_sums.specs.Groups.{place_of, with_number, changed_at}
use Rattle.row_sums.specs.GroupSums.{no_totals, totals_with, HasRoom, HasRoomFor, no_line, line_with, move_number, shown_by, shown_with, no_sum, sum_with}
use Rattle.row_sums.specs.Hits.{NumberedRow, hit_as, AreSound}
use Rattle.row_sums.specs.MoveSums.{sum_as}
use Rattle.row_sums.specs.Sums.{sum_where, totals_where, entries_where, is_of_month, plays, moves_in, months_in, month_line}
use Rattle.row_sums.proofs.Averages.{sum-cons, sum-nil}
use Rattle.row_sums.proofs.Grouping.{same, place-numbers, more-numbers, grouped}
use Rattle.row_sums.proofs.Once.{none-once, once-distinct}
use Rattle.row_sums.proofs.RowMoves.{same_move-transitive, same_month-transitive, moves-more, moves-same, months-more}
use Rattle.row_sums.proofs.Rows.{sum-next, entries-next, count-fits, ratings-fit, totals-same}
use Rattle.tally_rows.specs.declared.row.Row.{Row}
use Rattle.tally_rows.proofs.Moves.{is_same_move-is}

-- ---- the number of a move

number-from : (a b : Move) → move_number a ≡ move_number b → a.from.index ≡ b.from.index
number-from a b e =
    let a_from = a.from.on_board in let a_to = a.to.on_board in let b_from = b.from.on_board in let b_to = b.to.on_board in
    omega (arith, e, a_from, a_to, b_from, b_to)

number-to : (a b : Move) → move_number a ≡ move_number b → a.to.index ≡ b.to.index
number-to a b e =
    let a_from = a.from.on_board in let a_to = a.to.on_board in let b_from = b.from.on_board in let b_to = b.to.on_board in
    omega (arith, e, a_from, a_to, b_from, b_to)

number-promotion : (a b : Move) → move_number a ≡ move_number b → promotion_number a.promotion ≡ promotion_number b.promotion
number-promotion a b e =
    let a_from = a.from.on_board in let a_to = a.to.on_board in let b_from = b.from.on_board in let b_to = b.to.on_board in
    omega (arith, e, a_from, a_to, b_from, b_to)

pub same-move : (a b : Move) → is_same_move a b ≡ same move_number a b
same-move a b = both (is_same_move a b) (same move_number a b) refl refl
  where
    both : (x y : Bool) → is_same_move a b ≡ x → same move_number a b ≡ y → is_same_move a b ≡ same move_number a b
    both true true e k = e ∙ sym k
    both false false e k = e ∙ sym k
    both true false e k = (let number : move_number a ≡ move_number b = ap move_number (is_same_move-is a b e) in grind (arith, nat_tests))
    both false true e k =
        let number : move_number a ≡ move_number b = grind (arith, nat_tests) in
        let from = number-from a b number in let to = number-to a b number in let promotion = number-promotion a b number in
        grind (arith, nat_tests)

-- ---- rows that don't pass a test

sums-none : (test : Row → Bool) (count : Row → ℕ) (hits : List NumberedRow) → AllByRecursion (λ hit. test hit.row ≡ false) hits → sum_where hits test count ≡ 0
sums-none test count [] each = sum-nil test count
sums-none test count (hit ∷ hits) each =
    sum-cons hit hits test count ∙ ap (λ b. cond b (count hit.row) 0 + sum_where hits test count) each.0
    ∙ ap (λ n. 0 + n) (sums-none test count hits each.1)

entries-out : (test : Row → Bool) (list : Row → List Entry) (hits : List NumberedRow) → AllByRecursion (λ hit. test hit.row ≡ false) hits → entries_where hits test list ≡ []
unfolding entries_where
entries-out test list [] each = refl
entries-out test list (hit ∷ hits) each =
    ap (λ b. cond b (map (moved_by hit.first) (list hit.row)) [] ++ entries_where hits test list) each.0 ∙ entries-out test list hits each.1

totals-none : (test : Row → Bool) (hits : List NumberedRow) → AllByRecursion (λ hit. test hit.row ≡ false) hits → totals_where hits test ≡ no_totals
totals-none test hits each =
    totals-same (totals_where hits test) no_totals (sums-none test (λ row. row.white) hits each) (sums-none test (λ row. row.draws) hits each)
    (sums-none test (λ row. row.black) hits each)

first-false : (a b : Bool) → (a || b) ≡ false → a ≡ false
first-false true b e = e
first-false false b e = refl

rest-false : (a b : Bool) → (a || b) ≡ false → b ≡ false
rest-false true false e = refl
rest-false true true e = e
rest-false false b e = e

months-out : (month : Month) (hits : List NumberedRow) → list_any (λ m. is_same_month m month) (map (λ hit. hit.row.month) hits) ≡ false
    → AllByRecursion (λ hit. is_of_month month hit.row ≡ false) hits
months-out month [] none = tt
months-out month (hit ∷ hits) none =
    let later : Bool = list_any (λ m. is_same_month m month) (map {A = NumberedRow} (λ h. h.row.month) hits) in
    let other : is_same_month hit.row.month month ≡ false = first-false (is_same_month hit.row.month month) later none in
    (grind (arith, nat_tests), months-out month hits (rest-false (is_same_month hit.row.month month) later none))

move-out : (m : Move) (next : Option Move) (moves : List Move) → list_any (λ n. is_same_move n m) (cons_option next moves) ≡ false
    → (is_move m next ≡ false) × (list_any (λ n. is_same_move n m) moves ≡ false)
move-out m None moves none = (refl, none)
move-out m (Some n) moves none =
    let later : Bool = list_any (λ x. is_same_move x m) moves in
    let other : is_same_move n m ≡ false = first-false (is_same_move n m) later none in
    (grind (arith, nat_tests), rest-false (is_same_move n m) later none)

moves-out : (m : Move) (hits : List NumberedRow) → list_any (λ n. is_same_move n m) (filter_map (λ hit. hit.row.next) hits) ≡ false
    → AllByRecursion (λ hit. plays m hit.row ≡ false) hits
moves-out m [] none = tt
moves-out m (hit ∷ hits) none =
    let out = move-out m hit.row.next (filter_map {X = NumberedRow} (λ h. h.row.next) hits) none in
    (out.0, moves-out m hits out.1)

-- ---- what is shown

shown-append : (xs ys : List Entry) → shown_by (xs ++ ys) ≡ shown_with (shown_by xs) ys
shown-append [] [] = refl
shown-append [] (y ∷ []) = refl
shown-append [] (y ∷ z ∷ zs) = refl
shown-append (x ∷ []) [] = refl
shown-append (x ∷ []) (y ∷ []) = refl
shown-append (x ∷ []) (y ∷ z ∷ zs) = refl
shown-append (x ∷ v ∷ xs) [] = refl
shown-append (x ∷ v ∷ xs) (y ∷ []) = refl
shown-append (x ∷ v ∷ xs) (y ∷ z ∷ zs) = refl

-- ---- one row more

module _ (hits : List Hit) (i : ℕ) (hit : Hit) (within : i < length hits) (is : hit ≡ get_or hits i hit) where
  abbrev before : List NumberedRow
  before = take i (map hit_as hits)

  abbrev now : List NumberedRow
  now = take (i + 1) (map hit_as hits)

  abbrev row : Row
  row = (hit_as hit).row

  sum-kept : (test : Row → Bool) → test row ≡ false → (count : Row → ℕ) → sum_where now test count ≡ sum_where before test count
  sum-kept test fails count = sum-next test count hits i hit within is false fails ∙ add-zero (sum_where before test count)

  sum-with : (test : Row → Bool) → test row ≡ true → (count : Row → ℕ) → sum_where now test count ≡ sum_where before test count + count row
  sum-with test passes count = sum-next test count hits i hit within is true passes

  totals-kept : (test : Row → Bool) → test row ≡ false → totals_where now test ≡ totals_where before test
  totals-kept test fails =
      totals-same (totals_where now test) (totals_where before test) (sum-kept test fails (λ r. r.white)) (sum-kept test fails (λ r. r.draws))
      (sum-kept test fails (λ r. r.black))

  pub totals-taken : (test : Row → Bool) → test row ≡ true → totals_where now test ≡ totals_with row (totals_where before test)
  totals-taken test passes =
      totals-same (totals_where now test) (totals_with row (totals_where before test)) (sum-with test passes (λ r. r.white))
      (sum-with test passes (λ r. r.draws)) (sum-with test passes (λ r. r.black))

  -- ---- the lines of months

  line-kept : (m : Month) → same month_number m row.month ≡ false → month_line now m ≡ month_line before m
  line-kept m other = ap (λ t. record { month = m; totals = t }) (totals-kept (is_of_month m) other)

  line-taken : (m : Month) → same month_number m row.month ≡ true → month_line now m ≡ line_with row (month_line before m)
  line-taken m one = ap (λ t. record { month = m; totals = t }) (totals-taken (is_of_month m) one)

  line-new : list_any (λ m. same month_number m row.month) (months_in before) ≡ false
      → month_line now row.month ≡ line_with row (no_line row.month)
  unfolding months_in
  line-new none =
      let itself : same month_number row.month row.month ≡ true = grind (arith, nat_tests) in
      let out = months-out row.month before (none-once is_same_month same_month-transitive (map (λ h. h.row.month) before) row.month none) in
      line-taken row.month itself
      ∙ ap (λ t. line_with row (record { month = row.month; totals = t })) (totals-none (is_of_month row.month) before out)

  months-distinct : IsDistinct is_same_month (months_in before)
  unfolding months_in
  months-distinct = once-distinct is_same_month same_month-transitive (map (λ h. h.row.month) before)

  -- the months with the row's
  pub months-next : months_in now
      ≡ cond (list_any (λ m. same month_number m row.month) (months_in before)) (months_in before) (months_in before ++ row.month ∷ [])
  months-next = months-more hits i hit within is (list_any (λ m. same month_number m row.month) (months_in before)) refl

  pub month-numbers-next : map month_number (months_in now) ≡ with_number (map month_number (months_in before)) (month_number row.month)
  month-numbers-next = ap (map month_number) months-next ∙ sym (more-numbers month_number (months_in before) row.month)

  pub month-lines-next : (lines : List MonthLine) (place : ℕ) → lines ≡ map (month_line before) (months_in before)
      → place ≡ place_of (map month_number (months_in before)) (month_number row.month)
      → changed_at (line_with row) (line_with row (no_line row.month)) place lines ≡ map (month_line now) (months_in now)
  month-lines-next lines place are at =
      let change : MonthLine → MonthLine = line_with row in
      let added : MonthLine = line_with row (no_line row.month) in
      ap (λ p. changed_at change added p lines) (at ∙ place-numbers month_number (months_in before) row.month)
      ∙ ap (changed_at change added (position_or_len (λ m. same month_number m row.month) (months_in before))) are
      ∙ sym (grouped month_number change added (month_line before) (month_line now) row.month line-kept line-taken (months_in before) months-distinct line-new)
      ∙ sym (ap (map (month_line now)) months-next)

  -- ---- the sums of moves

  shown-kept : (m : Move) → plays m row ≡ false
      → shown_by (entries_where now (plays m) (λ r. r.top)) ≡ shown_by (entries_where before (plays m) (λ r. r.top))
  shown-kept m fails =
      ap shown_by (entries-next (plays m) (λ r. r.top) hits i hit within is false fails)
      ∙ shown-append (entries_where before (plays m) (λ r. r.top)) []

  shown-taken : (m : Move) → plays m row ≡ true
      → shown_by (entries_where now (plays m) (λ r. r.top))
      ≡ shown_with (shown_by (entries_where before (plays m) (λ r. r.top))) (map (moved_by hit.first) row.top)
  shown-taken m passes =
      ap shown_by (entries-next (plays m) (λ r. r.top) hits i hit within is true passes)
      ∙ shown-append (entries_where before (plays m) (λ r. r.top)) (map (moved_by hit.first) row.top)

  sums-kept : (m : Move) → plays m row ≡ false → sum_as now m ≡ sum_as before m
  sums-kept m fails =
      let totals = totals-kept (plays m) fails in
      let ratings = sum-kept (plays m) fails (λ r. r.ratings) in
      let shown = shown-kept m fails in
      λ j. record { next = m; totals = totals j; ratings = ratings j; shown = shown j }

  sums-taken : (m : Move) → plays m row ≡ true → sum_as now m ≡ sum_with (hit_as hit) (sum_as before m)
  sums-taken m passes =
      let totals = totals-taken (plays m) passes in
      let ratings = sum-with (plays m) passes (λ r. r.ratings) in
      let shown = shown-taken m passes in
      λ j. record { next = m; totals = totals j; ratings = ratings j; shown = shown j }

  -- a row without a move adds nothing
  maps-same : (ms : List Move) → row.next ≡ None → map (sum_as before) ms ≡ map (sum_as now) ms
  maps-same [] none = refl
  maps-same (m ∷ ms) none =
      ap (λ s. s ∷ map (sum_as before) ms) (sym (sums-kept m (ap (is_move m) none))) ∙ ap (λ l. sum_as now m ∷ l) (maps-same ms none)

  pub sums-same : (sums : List MoveSum) → row.next ≡ None → sums ≡ map (sum_as before) (moves_in before) → sums ≡ map (sum_as now) (moves_in now)
  sums-same sums none are =
      are ∙ maps-same (moves_in before) none ∙ ap (map (sum_as now)) (sym (moves-same hits i hit within is none))

  pub move-numbers-same : row.next ≡ None → map move_number (moves_in now) ≡ map move_number (moves_in before)
  move-numbers-same none = ap (map move_number) (moves-same hits i hit within is none)

  module _ (next : Move) (played : row.next ≡ Some next) where
    plays-as : (m : Move) (b : Bool) → same move_number m next ≡ b → plays m row ≡ b
    plays-as m b one = ap (is_move m) played ∙ same-move m next ∙ one

    any-as : (ms : List Move) → list_any (λ m. same move_number m next) ms ≡ list_any (λ m. is_same_move m next) ms
    any-as [] = refl
    any-as (m ∷ ms) = (λ j. sym (same-move m next) j || any-as ms j)

    apart-as : (m : Move) (ms : List Move) → AllByRecursion (λ n. is_same_move m n ≡ false) ms → AllByRecursion (λ n. same move_number m n ≡ false) ms
    apart-as m [] each = tt
    apart-as m (n ∷ ms) each = (sym (same-move m n) ∙ each.0, apart-as m ms each.1)

    distinct-as : (ms : List Move) → IsDistinct is_same_move ms → IsDistinct (same move_number) ms
    unfolding IsDistinct
    distinct-as [] once = tt
    distinct-as (m ∷ ms) once = (apart-as m ms once.0, distinct-as ms once.1)

    sum-new : list_any (λ m. same move_number m next) (moves_in before) ≡ false → sum_as now next ≡ sum_with (hit_as hit) (no_sum next)
    unfolding moves_in
    sum-new none =
        let itself : plays next row ≡ true = plays-as next true (grind (arith, nat_tests)) in
        let nexts : List Move = filter_map {X = NumberedRow} (λ h. h.row.next) before in
        let out = moves-out next before
        (none-once is_same_move same_move-transitive nexts next (sym (any-as (distinct is_same_move nexts)) ∙ none)) in
        let totals = totals-none (plays next) before out in
        let ratings = sums-none (plays next) (λ r. r.ratings) before out in
        let shown = ap shown_by (entries-out (plays next) (λ r. r.top) before out) in
        let nothing : sum_as before next ≡ no_sum next = λ j. record { next = next; totals = totals j; ratings = ratings j; shown = shown j } in
        sums-taken next itself ∙ ap (sum_with (hit_as hit)) nothing

    moves-distinct : IsDistinct (same move_number) (moves_in before)
    unfolding moves_in
    moves-distinct =
        let nexts : List Move = filter_map {X = NumberedRow} (λ h. h.row.next) before in
        distinct-as (distinct is_same_move nexts) (once-distinct is_same_move same_move-transitive nexts)

    pub moves-next : moves_in now
        ≡ cond (list_any (λ m. same move_number m next) (moves_in before)) (moves_in before) (moves_in before ++ next ∷ [])
    moves-next =
        moves-more hits i hit within is next played (list_any (λ m. same move_number m next) (moves_in before)) (sym (any-as (moves_in before)))

    pub move-numbers-next : map move_number (moves_in now) ≡ with_number (map move_number (moves_in before)) (move_number next)
    move-numbers-next = ap (map move_number) moves-next ∙ sym (more-numbers move_number (moves_in before) next)

    pub sums-next : (sums : List MoveSum) (place : ℕ) → sums ≡ map (sum_as before) (moves_in before)
        → place ≡ place_of (map move_number (moves_in before)) (move_number next)
        → changed_at (sum_with (hit_as hit)) (sum_with (hit_as hit) (no_sum next)) place sums ≡ map (sum_as now) (moves_in now)
    sums-next sums place are at =
        let change : MoveSum → MoveSum = sum_with (hit_as hit) in
        let added : MoveSum = sum_with (hit_as hit) (no_sum next) in
        ap (λ p. changed_at change added p sums) (at ∙ place-numbers move_number (moves_in before) next)
        ∙ ap (changed_at change added (position_or_len (λ m. same move_number m next) (moves_in before))) are
        ∙ sym (grouped move_number change added (sum_as before) (sum_as now) next (λ m other. sums-kept m (plays-as m false other))
        (λ m one. sums-taken m (plays-as m true one)) (moves_in before) moves-distinct sum-new)
        ∙ sym (ap (map (sum_as now)) moves-next)

-- ---- what is added has room

module _ (hits : List Hit) (sound : AreSound (map hit_as hits)) (i : ℕ) (hit : Hit) (within : i < length hits) (is : hit ≡ get_or hits i hit) where
  pub has-room : (test : Row → Bool) → HasRoom (totals_where (take i (map hit_as hits)) test) (hit_as hit).row
  has-room test = record {
    white = count-fits test hits sound i hit within is (λ row. row.white) (λ row. omega arith) _ refl;
    draws = count-fits test hits sound i hit within is (λ row. row.draws) (λ row. omega arith) _ refl;
    black = count-fits test hits sound i hit within is (λ row. row.black) (λ row. omega arith) _ refl;
  }

  pub lines-room : (lines : List MonthLine) → lines ≡ map (month_line (take i (map hit_as hits))) (months_in (take i (map hit_as hits)))
      → All (λ line. HasRoom line.totals (hit_as hit).row) lines
  lines-room lines are =
      subst (All (λ (line : MonthLine). HasRoom line.totals (hit_as hit).row)) (sym are)
      (All-map (λ (line : MonthLine). HasRoom line.totals (hit_as hit).row) (month_line (take i (map hit_as hits))) (months_in (take i (map hit_as hits)))
      (λ k d less. has-room (is_of_month _)))

  pub sums-room : (sums : List MoveSum) → sums ≡ map (sum_as (take i (map hit_as hits))) (moves_in (take i (map hit_as hits)))
      → All (λ sum. HasRoomFor sum (hit_as hit)) sums
  sums-room sums are =
      subst (All (λ (sum : MoveSum). HasRoomFor sum (hit_as hit))) (sym are)
      (All-map (λ (sum : MoveSum). HasRoomFor sum (hit_as hit)) (sum_as (take i (map hit_as hits))) (moves_in (take i (map hit_as hits)))
      (λ k d less.
      let m : Move = get_or (moves_in (take i (map hit_as hits))) k d in
      record { totals = has-room (plays m); ratings = ratings-fit (plays m) hits sound i hit within is _ refl }))

  -- also to what has no game yet
  pub line-room : HasRoom no_totals (hit_as hit).row
  line-room =
      let room = has-room (is_of_month (hit_as hit).row.month) in
      record { white = omega (arith, room.white); draws = omega (arith, room.draws); black = omega (arith, room.black) }

  pub sum-room : (next : Move) → HasRoomFor (no_sum next) (hit_as hit)
  sum-room next =
      let fit = ratings-fit (plays next) hits sound i hit within is _ refl in
      record { totals = line-room; ratings = omega (arith, fit) }
