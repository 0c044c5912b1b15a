-- What games say of a position, worked out on a few games: totals, moves, averages, lists, months, and the best of a list.
use Rattle.std.specs.Bool.{⊤}
use Rattle.std.proofs.Common.{◌≡◌, ℕ, Bool, true, false, List, [], ◌∷◌, replicate, nat_lt, Option, Some, None, codes, refl}
use Rattle.explorer_model.specs.declared.answer.Listed.{Listed}
use Rattle.explorer_model.specs.declared.answer.Totals.{Totals}
use Rattle.explorer_model.specs.declared.archive.Classes.{Classes}
use Rattle.explorer_model.specs.declared.archive.Mode.TheVariants.{Rated}
use Rattle.explorer_model.specs.declared.archive.Month.{Month}
use Rattle.explorer_model.specs.declared.archive.Outcome.{Outcome}
use Rattle.explorer_model.specs.declared.archive.Outcome.TheVariants as outcomes
use Rattle.explorer_model.specs.declared.archive.Speed.TheVariants.{Blitz}
use Rattle.explorer_model.specs.declared.chess.Color.TheVariants as colors
use Rattle.explorer_model.specs.declared.chess.Move.{Move}
use Rattle.explorer_model.specs.Best.{best, best_one, others}
use Rattle.explorer_model.specs.Counting.{any_next, average_of, before_by_month, before_by_rating, counts, first_moves, game_of_move, games_by, games_with_move, move_totals, months_counted, moves_played, passes, rating_of, take_all, totals_of}
use Rattle.explorer_model.specs.Finds.{history_of}
use Rattle.explorer_model.specs.Visits.{GameAt}
use Rattle.chess_reference.proofs.Boards.{boards_compute, uci}

-- ---- games

played : ℕ → Month → Outcome → Classes
played rating month outcome = record {
  id = record { bytes = codes "abcdEF12" };
  white = record { name = codes "Ann"; rating = rating };
  black = record { name = codes "Bob"; rating = 1400 };
  outcome = outcome;
  mode = Rated;
  speed = Blitz;
  group = record { value = 1400 };
  month = month;
}

december : Month
december = record { year = 2019; month = 12 }

january : Month
january = record { year = 2020; month = 1 }

seen : Classes → Option (Option Move) → GameAt
seen classes visit = record { classes = classes; visit = visit }

promotes : Move
promotes = uci (codes "e7e8q")

becomes-a-knight : Move
becomes-a-knight = uci (codes "e7e8n")

king-moves : Move
king-moves = uci (codes "e1e2")

first : Classes
first = played 1500 january outcomes.White

second : Classes
second = played 1601 december outcomes.Draw

third : Classes
third = played 1600 january outcomes.Black

-- two games promote to a queen, one to a knight, one ends, and one does not come there
five-games : List GameAt
five-games =
    seen first (Some (Some promotes)) ∷ seen second (Some (Some becomes-a-knight)) ∷ seen third (Some (Some promotes))
    ∷ seen second (Some None) ∷ seen first None ∷ []

-- the game of December alone
until-december : Classes → Bool
until-december = passes (record { speeds = replicate 6 true; groups = replicate 9 true; since = None; until = Some december })

unfoldable counting_computes : ⊤
unfolding boards_compute passes games_with_move moves_played months_counted best best_one others played december january seen promotes becomes-a-knight king-moves first second third five-games until-december
counting_computes = tt

totals : ℕ → ℕ → ℕ → Totals
totals white draws black = record { white = white; draws = draws; black = black }

listed : Move → Classes → Listed
listed m classes = record { next = m; classes = classes }

-- ---- totals

no-games : totals_of (counts any_next (passes take_all)) [] ≡ totals 0 0 0
unfolding totals
no-games = refl

-- the fifth game is not counted
four-of-five : totals_of (counts any_next (passes take_all)) five-games ≡ totals 1 2 1
unfolding counting_computes totals
four-of-five = refl

those-of-december : totals_of (counts any_next until-december) five-games ≡ totals 0 2 0
unfolding counting_computes totals
those-of-december = refl

-- what a pawn becomes makes another move
promotions-to-a-queen : move_totals (passes take_all) five-games promotes ≡ totals 1 0 1
unfolding counting_computes totals
promotions-to-a-queen = refl

a-move-that-is-not-played : move_totals (passes take_all) five-games king-moves ≡ totals 0 0 0
unfolding counting_computes totals
a-move-that-is-not-played = refl

-- ---- moves

the-more-frequent-move-is-first : first_moves 12 (passes take_all) five-games ≡ promotes ∷ becomes-a-knight ∷ []
unfolding counting_computes
the-more-frequent-move-is-first = refl

one-move-at-most : first_moves 1 (passes take_all) five-games ≡ promotes ∷ []
unfolding counting_computes
one-move-at-most = refl

no-move-is-wanted : first_moves 0 (passes take_all) five-games ≡ []
unfolding counting_computes
no-move-is-wanted = refl

the-move-of-december : first_moves 12 until-december five-games ≡ becomes-a-knight ∷ []
unfolding counting_computes
the-move-of-december = refl

-- ---- averages: 1500 and 1600, and 1400 for each of Black's games

the-mean-of-two : average_of (rating_of colors.White) promotes (passes take_all) five-games ≡ 1550
unfolding counting_computes
the-mean-of-two = refl

-- 1500 and 1601
rounded-down : average_of (rating_of colors.White) promotes (passes take_all) (seen first (Some (Some promotes)) ∷ seen second (Some (Some promotes)) ∷ []) ≡ 1550
unfolding counting_computes
rounded-down = refl

of-the-one-who-plays-it : average_of (rating_of colors.White) becomes-a-knight (passes take_all) five-games ≡ 1601
unfolding counting_computes
of-the-one-who-plays-it = refl

-- ---- the game of a move

more-than-one-game : game_of_move promotes (passes take_all) five-games ≡ None
unfolding counting_computes
more-than-one-game = refl

just-one-game : game_of_move becomes-a-knight (passes take_all) five-games ≡ Some (listed becomes-a-knight second)
unfolding counting_computes listed
just-one-game = refl

none-that-is-counted : game_of_move promotes until-december five-games ≡ None
unfolding counting_computes
none-that-is-counted = refl

-- ---- lists

-- the ratings of both players are added: 3001, 3000, 2900; the game that ends there is not listed
the-greatest-ratings : games_by before_by_rating 4 (passes take_all) five-games ≡ listed becomes-a-knight second ∷ listed promotes third ∷ listed promotes first ∷ []
unfolding counting_computes listed
the-greatest-ratings = refl

-- January is later than December; of its games the one with the greater number is first
the-latest-months : games_by before_by_month 2 (passes take_all) five-games ≡ listed promotes third ∷ listed promotes first ∷ []
unfolding counting_computes listed
the-latest-months = refl

-- ---- months

months-ascend : history_of true (passes take_all) five-games
    ≡ Some (record { month = december; totals = totals 0 2 0 } ∷ record { month = january; totals = totals 1 0 1 } ∷ [])
unfolding counting_computes totals
months-ascend = refl

no-history-is-wanted : history_of false (passes take_all) five-games ≡ None
no-history-is-wanted = refl

no-month-without-a-game : history_of true (passes take_all) (seen first None ∷ []) ≡ Some []
unfolding counting_computes
no-month-without-a-game = refl

-- ---- the best of a list, where less is better

the-two-least : best nat_lt 2 (3 ∷ 1 ∷ 2 ∷ []) ≡ 1 ∷ 2 ∷ []
unfolding best best_one others
the-two-least = refl

as-many-as-there-are : best nat_lt 5 (3 ∷ 1 ∷ 2 ∷ []) ≡ 1 ∷ 2 ∷ 3 ∷ []
unfolding best best_one others
as-many-as-there-are = refl

equal-ones-stay : best nat_lt 3 (2 ∷ 1 ∷ 2 ∷ 1 ∷ []) ≡ 1 ∷ 1 ∷ 2 ∷ []
unfolding best best_one others
equal-ones-stay = refl

none-at-all : best nat_lt 0 (3 ∷ 1 ∷ []) ≡ []
unfolding best
none-at-all = refl
