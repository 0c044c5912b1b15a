-- Statement: what games say of a position: how often they came there, how they ended, and what was
-- played. A game counts once, at its first visit. Which games are wanted, and whose rating a move
-- is averaged over, are arguments.
use Rattle.std.specs.Prelude.{ℕ, ◌+◌, ◌*◌, ◌/◌, Bool, true, false, not, ◌&&◌, ◌||◌, ◌==◌, nat_le, nat_lt, cond, List, [], ◌∷◌, map, filter, filter_map, count_by, sum_by, slice_index_or, replicate, Option, Some, None}
use Rattle.std.specs.List.{enumerate_from, position_or_len}
use Rattle.std.specs.Ordering.{nat_cmp, is_lt}
use Rattle.std.specs.Cmp.Lexicographic.{slice_cmp}
use Rattle.explorer_model.specs.Best.{best}
use Rattle.explorer_model.specs.declared.answer.Listed.{Listed}
use Rattle.explorer_model.specs.declared.answer.MonthLine.{MonthLine}
use Rattle.explorer_model.specs.declared.answer.Totals.{Totals}
use Rattle.explorer_model.specs.declared.archive.Classes.{Classes}
use Rattle.explorer_model.specs.declared.archive.Month.{Month}
use Rattle.explorer_model.specs.declared.archive.Outcome.{Outcome}
use Rattle.explorer_model.specs.declared.archive.Outcome.TheVariants as outcomes
use Rattle.explorer_model.specs.declared.chess.Color.{Color}
use Rattle.explorer_model.specs.declared.chess.Color.TheVariants as colors
use Rattle.explorer_model.specs.declared.chess.Move.{Move}
use Rattle.explorer_model.specs.declared.chess.Role.{Role}
use Rattle.explorer_model.specs.declared.query.Filter.{Filter}
use Rattle.explorer_model.specs.Order.{role_index, speed_index}
use Rattle.explorer_model.specs.Uci.{uci_text}
use Rattle.explorer_model.specs.Visits.{GameAt}

-- ---- filters

-- the least ratings of the groups
abbrev pub group_ratings : List ℕ
group_ratings = 0 ∷ 1000 ∷ 1200 ∷ 1400 ∷ 1600 ∷ 1800 ∷ 2000 ∷ 2200 ∷ 2500 ∷ []

-- the place of a group among the groups
abbrev pub group_place : ℕ → ℕ
group_place rating = position_or_len (λ least. least == rating) group_ratings

-- months in their order in time
abbrev pub month_number : Month → ℕ
month_number month = 12 * month.year + month.month

-- no earlier than the month, where there is one
abbrev pub is_since : Option Month → Month → Bool
is_since None month = true
is_since (Some first) month = nat_le (month_number first) (month_number month)

-- no later than the month, where there is one
abbrev pub is_until : Option Month → Month → Bool
is_until None month = true
is_until (Some last) month = nat_le (month_number month) (month_number last)

-- the speed, the group and the month are among those that the filter takes
unfoldable pub passes : Filter → Classes → Bool
passes filter classes =
    slice_index_or filter.speeds (speed_index classes.speed) false
    && slice_index_or filter.groups (group_place classes.group.value) false
    && is_since filter.since classes.month
    && is_until filter.until classes.month

-- every speed, every group and every month
abbrev pub take_all : Filter
take_all =
    record { speeds = replicate 6 true; groups = replicate 9 true; since = None; until = None }

-- ---- which visits count: a test of what is played there

abbrev pub any_next : Option Move → Bool
any_next next = true

-- what a pawn becomes, as a number: 0 where a move promotes nothing
abbrev pub promotion_number : Option Role → ℕ
promotion_number None = 0
promotion_number (Some role) = role_index role + 1

abbrev pub is_same_move : Move → Move → Bool
is_same_move m n =
    (m.from.index == n.from.index) && (m.to.index == n.to.index)
    && (promotion_number m.promotion == promotion_number n.promotion)

abbrev pub is_move : Move → Option Move → Bool
is_move m None = false
is_move m (Some next) = is_same_move m next

-- there is a visit, and what is played there meets the test
abbrev pub visits : (Option Move → Bool) → Option (Option Move) → Bool
visits test None = false
visits test (Some next) = test next

abbrev pub counts : (Option Move → Bool) → (Classes → Bool) → GameAt → Bool
counts test wanted game = wanted game.classes && visits test game.visit

-- ---- totals

abbrev pub is_outcome : Outcome → Outcome → Bool
is_outcome outcomes.White outcomes.White = true
is_outcome outcomes.Draw outcomes.Draw = true
is_outcome outcomes.Black outcomes.Black = true
is_outcome _ _ = false

-- how many games are counted that end so
abbrev pub count_of : Outcome → (GameAt → Bool) → List GameAt → ℕ
count_of outcome counted games =
    count_by (λ game. counted game && is_outcome outcome game.classes.outcome) games

abbrev pub totals_of : (GameAt → Bool) → List GameAt → Totals
totals_of counted games = record {
  white = count_of outcomes.White counted games;
  draws = count_of outcomes.Draw counted games;
  black = count_of outcomes.Black counted games;
}

abbrev pub total : Totals → ℕ
total totals = totals.white + totals.draws + totals.black

-- ---- the games that may be listed: those that are counted and go on

-- a game by its number, with the move that it plays at its visit
pub record NumberedGame : Type 0 where
  pub number : ℕ
  pub next : Move
  pub classes : Classes

abbrev pub game_with_move_by : Bool → ℕ → Classes → Option (Option Move) → Option NumberedGame
game_with_move_by true number classes (Some (Some next)) =
    Some (record { number = number; next = next; classes = classes })
game_with_move_by _ _ _ _ = None

abbrev pub game_with_move : (Classes → Bool) → ℕ × GameAt → Option NumberedGame
game_with_move wanted (number, game) =
    game_with_move_by (wanted game.classes) number game.classes game.visit

-- in the order of their numbers
unfoldable pub games_with_move : (Classes → Bool) → List GameAt → List NumberedGame
games_with_move wanted games = filter_map (game_with_move wanted) (enumerate_from 0 games)

abbrev pub listed : NumberedGame → Listed
listed s = record { next = s.next; classes = s.classes }

-- both players' ratings
abbrev pub ratings_of : Classes → ℕ
ratings_of classes = classes.white.rating + classes.black.rating

-- the greater ratings first, then the lesser number
abbrev pub before_by_rating : NumberedGame → NumberedGame → Bool
before_by_rating a b =
    nat_lt (ratings_of b.classes) (ratings_of a.classes)
    || ((ratings_of a.classes == ratings_of b.classes) && nat_lt a.number b.number)

-- the later month first, then the greater number
abbrev pub before_by_month : NumberedGame → NumberedGame → Bool
before_by_month a b =
    nat_lt (month_number b.classes.month) (month_number a.classes.month)
    || ((month_number a.classes.month == month_number b.classes.month) && nat_lt b.number a.number)

-- the first so many games in an order
abbrev pub games_by : (NumberedGame → NumberedGame → Bool) → ℕ → (Classes → Bool) → List GameAt
    → List Listed
games_by before most wanted games = map listed (best before most (games_with_move wanted games))

-- the game of a move that just one game plays
abbrev pub the_only : List NumberedGame → Option Listed
the_only (s ∷ []) = Some (listed s)
the_only _ = None

abbrev pub game_of_move : Move → (Classes → Bool) → List GameAt → Option Listed
game_of_move m wanted games =
    the_only (filter (λ s. is_same_move m s.next) (games_with_move wanted games))

-- ---- the moves

-- each value once, where the test tells when two are one
abbrev pub distinct : {A : Type 0} → (A → A → Bool) → List A → List A
distinct is_same [] = []
distinct is_same (x ∷ xs) = x ∷ filter (λ y. not (is_same x y)) (distinct is_same xs)

unfoldable pub moves_played : (Classes → Bool) → List GameAt → List Move
moves_played wanted games = distinct is_same_move (map (λ s. s.next) (games_with_move wanted games))

abbrev pub move_totals : (Classes → Bool) → List GameAt → Move → Totals
move_totals wanted games m = totals_of (counts (is_move m) wanted) games

-- the greater total first, then the lesser text of UCI
abbrev pub before_by_total : (Classes → Bool) → List GameAt → Move → Move → Bool
before_by_total wanted games a b =
    let of_a = total (move_totals wanted games a) in
    let of_b = total (move_totals wanted games b) in
    nat_lt of_b of_a || ((of_a == of_b) && is_lt (slice_cmp nat_cmp (uci_text a) (uci_text b)))

abbrev pub first_moves : ℕ → (Classes → Bool) → List GameAt → List Move
first_moves most wanted games = best (before_by_total wanted games) most (moves_played wanted games)

-- the rating of the player who is to move
abbrev pub rating_of : Color → Classes → ℕ
rating_of colors.White classes = classes.white.rating
rating_of colors.Black classes = classes.black.rating

abbrev pub rating_sum : (Classes → ℕ) → (GameAt → Bool) → List GameAt → ℕ
rating_sum rated counted games = sum_by (λ game. cond (counted game) (rated game.classes) 0) games

-- the mean rating of the players who play the move, rounded down
abbrev pub average_of : (Classes → ℕ) → Move → (Classes → Bool) → List GameAt → ℕ
average_of rated m wanted games =
    rating_sum rated (counts (is_move m) wanted) games / total (move_totals wanted games m)

-- ---- the months

abbrev pub is_same_month : Month → Month → Bool
is_same_month a b = month_number a == month_number b

abbrev pub is_in_month : Month → (Classes → Bool) → GameAt → Bool
is_in_month month wanted game =
    counts any_next wanted game && is_same_month month game.classes.month

unfoldable pub months_counted : (Classes → Bool) → List GameAt → List Month
months_counted wanted games =
    distinct is_same_month
    (map (λ game. game.classes.month) (filter (counts any_next wanted) games))

abbrev pub before_in_time : Month → Month → Bool
before_in_time a b = nat_lt (month_number a) (month_number b)

abbrev pub month_line : (Classes → Bool) → List GameAt → Month → MonthLine
month_line wanted games month =
    record { month = month; totals = totals_of (is_in_month month wanted) games }
