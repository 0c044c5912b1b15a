-- The totals of the moves that are played in a position are within the totals of the position.
use Rattle.std.proofs.Common.{◌≡◌, ℕ, zero, suc, ◌+◌, ◌≤◌, Bool, true, false, not, ◌&&◌, cond, if◌then◌else◌, List, [], ◌∷◌, refl, ap, ◌∙◌, arith, Option, Some, None}
use Rattle.std.proofs.lemmas.Bool.Decides.{nat_tests}
use Rattle.std.proofs.lemmas.List.Sums.{sum_by-cons, sum_by-le-sum_by}
use Rattle.std.specs.Prelude.{sum_by, filter, map}
use Rattle.std.specs.List.{AllZip}
use Rattle.explorer_model.specs.Best.{best, best_one, others, better, worse}
use Rattle.explorer_model.specs.declared.answer.Found.{Found}
use Rattle.explorer_model.specs.declared.answer.MoveLine.{MoveLine}
use Rattle.explorer_model.specs.declared.answer.Totals.{Totals}
use Rattle.explorer_model.specs.declared.archive.Outcome.{Outcome}
use Rattle.explorer_model.specs.declared.chess.Move.{Move}
use Rattle.explorer_model.specs.declared.archive.Classes.{Classes}
use Rattle.explorer_model.specs.declared.query.Query.{Query}
use Rattle.explorer_model.specs.Visits.{GameAt}
use Rattle.explorer_model.specs.Counting.{passes, is_same_move, is_move, visits, counts, any_next, is_outcome, count_of, totals_of, move_totals, distinct, moves_played, first_moves, before_by_total, games_with_move}
use Rattle.explorer_model.specs.Finds.{IsLineOf, IsRecount}

-- ---- sums

sum-nil : {X : Type 0} (f : X → ℕ) → sum_by f [] ≡ 0
sum-nil f = refl

-- a sum over the best of a list is within that over the list
pair-sum : {X : Type 0} (before : X → X → Bool) (f : X → ℕ) (x y : X) → f (better before x y) + f (worse before x y) ≡ f x + f y
pair-sum before f x y = elim (before y x) as (λ b. f (if b then y else x) + f (if b then x else y) ≡ f x + f y) [
  | true ↦ omega arith
  | false ↦ refl
]

one-others-sum : {X : Type 0} (before : X → X → Bool) (f : X → ℕ) (x : X) (ys : List X)
    → f (best_one before x ys) + sum_by f (others before x ys) ≡ f x + sum_by f ys
unfolding best_one others
one-others-sum before f x [] = refl
one-others-sum before f x (y ∷ ys) =
    let rest = one-others-sum before f (better before x y) ys in
    let pair = pair-sum before f x y in
    let left = sum_by-cons f (worse before x y) (others before (better before x y) ys) in
    let right = sum_by-cons f y ys in
    omega (arith, rest, pair, left, right)

pub best-sum : {X : Type 0} (before : X → X → Bool) (f : X → ℕ) (n : ℕ) (xs : List X) → sum_by f (best before n xs) ≤ sum_by f xs
unfolding best
best-sum before f zero xs = omega arith
best-sum before f (suc n) [] = omega arith
best-sum before f (suc n) (x ∷ xs) =
    let rest = best-sum before f n (others before x xs) in
    let both = one-others-sum before f x xs in
    let left = sum_by-cons f (best_one before x xs) (best before n (others before x xs)) in
    let right = sum_by-cons f x xs in
    omega (arith, rest, both, left, right)

-- ---- a list of different moves has a move at most once

abbrev pub AreOthers : Move → List Move → Type 0
AreOthers m [] = Unit {0}
AreOthers m (n ∷ moves) = (is_same_move m n ≡ false) × AreOthers m moves

abbrev pub AreDistinct : List Move → Type 0
AreDistinct [] = Unit {0}
AreDistinct (m ∷ moves) = AreOthers m moves × AreDistinct moves

others-filter : (p : Move → Bool) (m : Move) (moves : List Move) → AreOthers m moves → AreOthers m (filter p moves)
others-filter p m [] other = tt
others-filter p m (n ∷ moves) other = elim (p n) as (λ b. AreOthers m (cond b (n ∷ filter p moves) (filter p moves))) [
  | true ↦ (other.0, others-filter p m moves other.1)
  | false ↦ others-filter p m moves other.1
]

filter-others : (m : Move) (moves : List Move) → AreOthers m (filter (λ n. not (is_same_move m n)) moves)
filter-others m [] = tt
filter-others m (n ∷ moves) = filter-others-by m n moves (filter-others m moves) (is_same_move m n) refl
  where
    filter-others-by : (m n : Move) (moves : List Move) → AreOthers m (filter (λ n. not (is_same_move m n)) moves) → (b : Bool) → is_same_move m n ≡ b
        → AreOthers m (cond (not b) (n ∷ filter (λ n. not (is_same_move m n)) moves) (filter (λ n. not (is_same_move m n)) moves))
    filter-others-by m n moves rest true is = rest
    filter-others-by m n moves rest false is = (is, rest)

distinct-filter : (p : Move → Bool) (moves : List Move) → AreDistinct moves → AreDistinct (filter p moves)
distinct-filter p [] d = tt
distinct-filter p (m ∷ moves) d = elim (p m) as (λ b. AreDistinct (cond b (m ∷ filter p moves) (filter p moves))) [
  | true ↦ (others-filter p m moves d.0, distinct-filter p moves d.1)
  | false ↦ distinct-filter p moves d.1
]

pub distinct-AreDistinct : (moves : List Move) → AreDistinct (distinct is_same_move moves)
distinct-AreDistinct [] = tt
distinct-AreDistinct (m ∷ moves) =
    (filter-others m (distinct is_same_move moves), distinct-filter (λ n. not (is_same_move m n)) (distinct is_same_move moves) (distinct-AreDistinct moves))

-- two moves that are one with a third are one
same-both : (m n o : Move) → is_same_move m o ≡ true → is_same_move n o ≡ true → is_same_move m n ≡ true
same-both m n o = grind (arith, nat_tests)

-- how often a move stands in a list of moves
abbrev pub times : Move → List Move → ℕ
times o moves = sum_by (λ m. cond {A = ℕ} (is_same_move m o) 1 0) moves

none-times : (m o : Move) (moves : List Move) → is_same_move m o ≡ true → AreOthers m moves → times o moves ≡ 0
none-times m o [] is other = refl
none-times m o (n ∷ moves) is other =
    let rest = none-times m o moves is other.1 in
    let both = same-both m n o is in
    let whole = sum_by-cons (λ m. cond {A = ℕ} (is_same_move m o) 1 0) n moves in
    grind (arith, nat_tests)

once-by : (o m : Move) (moves : List Move) → AreOthers m moves → times o moves ≤ 1 → (b : Bool) → is_same_move m o ≡ b
    → times o (m ∷ moves) ≡ cond {A = ℕ} (is_same_move m o) 1 0 + times o moves → times o (m ∷ moves) ≤ 1
once-by o m moves other rest true is whole =
    let none = none-times m o moves is other in
    let first : times o (m ∷ moves) ≡ 1 + times o moves = whole ∙ ap (λ b. cond {A = ℕ} b 1 0 + times o moves) is in
    omega (arith, none, first)
once-by o m moves other rest false is whole =
    let later : times o (m ∷ moves) ≡ 0 + times o moves = whole ∙ ap (λ b. cond {A = ℕ} b 1 0 + times o moves) is in
    omega (arith, rest, later)

once-times : (o : Move) (moves : List Move) → AreDistinct moves → times o moves ≤ 1
once-times o [] d = omega arith
once-times o (m ∷ moves) d =
    once-by o m moves d.0 (once-times o moves d.1) (is_same_move m o) refl (sum_by-cons (λ n. cond {A = ℕ} (is_same_move n o) 1 0) m moves)

-- ---- a game plays one move at most

zero-sum : {X : Type 0} (f : X → ℕ) (xs : List X) → ((x : X) → f x ≤ 0) → sum_by f xs ≤ 0
zero-sum f [] each = omega arith
zero-sum f (x ∷ xs) each =
    let rest = zero-sum f xs each in
    let one = each x in
    let whole = sum_by-cons f x xs in
    omega (arith, rest, one, whole)

split-sum : {X : Type 0} (h f g : X → ℕ) (xs : List X) → ((x : X) → h x ≡ f x + g x) → sum_by h xs ≡ sum_by f xs + sum_by g xs
split-sum h f g [] each = refl
split-sum h f g (x ∷ xs) each =
    let rest = split-sum h f g xs each in
    let one = each x in
    let of_h = sum_by-cons h x xs in
    let of_f = sum_by-cons f x xs in
    let of_g = sum_by-cons g x xs in
    omega (arith, rest, one, of_h, of_f, of_g)

within : (b o : Bool) → cond {A = ℕ} (b && o) 1 0 ≤ cond {A = ℕ} b 1 0
within true true = omega arith
within true false = omega arith
within false o = omega arith

never : (b : Bool) → cond {A = ℕ} (b && false) 1 0 ≤ 0
never true = omega arith
never false = omega arith

one-by : (passed ends : Bool) (visit : Option (Option Move)) (moves : List Move) → AreDistinct moves
    → sum_by (λ m. cond {A = ℕ} ((passed && visits (is_move m) visit) && ends) 1 0) moves ≤ cond {A = ℕ} ((passed && visits any_next visit) && ends) 1 0
one-by false ends visit moves d = zero-sum (λ m. 0) moves (λ m. omega arith)
one-by true ends None moves d = zero-sum (λ m. 0) moves (λ m. omega arith)
one-by true ends (Some None) moves d =
    let none = zero-sum (λ m. 0) moves (λ m. omega arith) in omega (arith, none)
one-by true true (Some (Some next)) moves d =
    let once = once-times next moves d in
    let fewer = sum_by-le-sum_by (λ m. cond {A = ℕ} (is_same_move m next && true) 1 0) (λ m. cond {A = ℕ} (is_same_move m next) 1 0) moves (λ m. within (is_same_move m next) true) in
    omega (arith, once, fewer)
one-by true false (Some (Some next)) moves d =
    zero-sum (λ m. cond {A = ℕ} (is_same_move m next && false) 1 0) moves (λ m. never (is_same_move m next))

pub moves-within : (outcome : Outcome) (wanted : Classes → Bool) (moves : List Move) (games_at : List GameAt) → AreDistinct moves
    → sum_by (λ m. count_of outcome (counts (is_move m) wanted) games_at) moves ≤ count_of outcome (counts any_next wanted) games_at
moves-within outcome wanted moves [] d = zero-sum (λ m. 0) moves (λ m. omega arith)
moves-within outcome wanted moves (s ∷ games_at) d =
    let rest = moves-within outcome wanted moves games_at d in
    let one = one-by (wanted s.classes) (is_outcome outcome s.classes.outcome) s.visit moves d in
    let split = split-sum
    (λ m. count_of outcome (counts (is_move m) wanted) (s ∷ games_at))
    (λ m. cond {A = ℕ} (counts (is_move m) wanted s && is_outcome outcome s.classes.outcome) 1 0)
    (λ m. count_of outcome (counts (is_move m) wanted) games_at)
    moves
    (λ m. sum_by-cons (λ game. cond {A = ℕ} (counts (is_move m) wanted game && is_outcome outcome game.classes.outcome) 1 0) s games_at) in
    let whole = sum_by-cons (λ game. cond {A = ℕ} (counts any_next wanted game && is_outcome outcome game.classes.outcome) 1 0) s games_at in
    omega (arith, rest, one, split, whole)

-- ---- the lines of an answer

pub lines-sum : (part : Totals → ℕ) (query : Query) (games_at : List GameAt) (moves : List Move) (lines : List MoveLine)
    → AllZip (IsLineOf query games_at) moves lines
    → sum_by (λ line. part line.totals) lines ≡ sum_by (λ m. part (move_totals (passes query.filter) games_at m)) moves
lines-sum part query games_at [] [] are = refl
lines-sum part query games_at [] (line ∷ lines) are = absurd are
lines-sum part query games_at (m ∷ moves) [] are = absurd are
lines-sum part query games_at (m ∷ moves) (line ∷ lines) are =
    let rest = lines-sum part query games_at moves lines are.1 in
    let one = ap part are.0.totals in
    let left = sum_by-cons (λ line. part line.totals) line lines in
    let right = sum_by-cons (λ m. part (move_totals (passes query.filter) games_at m)) m moves in
    omega (arith, rest, one, left, right)

-- a part of the totals that counts the games of an outcome
pub part-within : (part : Totals → ℕ) (outcome : Outcome)
    → ((counted : GameAt → Bool) (games_at : List GameAt) → part (totals_of counted games_at) ≡ count_of outcome counted games_at)
    → (query : Query) (games_at : List GameAt) (found : Found) → IsRecount query games_at found
    → sum_by (λ line. part line.totals) found.moves ≤ part found.totals
unfolding moves_played
part-within part outcome counts_outcome query games_at found recount =
    let played : List Move = moves_played (passes query.filter) games_at in
    let shown : List Move = first_moves query.moves (passes query.filter) games_at in
    let f : Move → ℕ = λ m. part (move_totals (passes query.filter) games_at m) in
    let lines : sum_by (λ line. part line.totals) found.moves ≡ sum_by f shown = lines-sum part query games_at shown found.moves recount.moves in
    let fewer : sum_by f shown ≤ sum_by f played = best-sum (before_by_total (passes query.filter) games_at) f query.moves played in
    let same : sum_by f played ≤ sum_by (λ m. count_of outcome (counts (is_move m) (passes query.filter)) games_at) played =
    sum_by-le-sum_by f (λ m. count_of outcome (counts (is_move m) (passes query.filter)) games_at) played
    (λ m. let e = counts_outcome (counts (is_move m) (passes query.filter)) games_at in omega (arith, e)) in
    let inside = moves-within outcome (passes query.filter) played games_at (distinct-AreDistinct (map (λ s. s.next) (games_with_move (passes query.filter) games_at))) in
    let all : part found.totals ≡ count_of outcome (counts any_next (passes query.filter)) games_at = ap part recount.totals ∙ counts_outcome (counts any_next (passes query.filter)) games_at in
    omega (arith, lines, fewer, same, inside, all)
