-- The definitions of counting, of queries and of the answer, worked out on small cases whose answers are known.
use Rattle.std.specs.List.{flat_map}
use Rattle.std.proofs.Common.{◌≡◌, ℕ, true, false, List, [], ◌∷◌, map, replicate, Option, Some, None, Ok, Err, codes, refl, lit<}
use Rattle.explorer_model.specs.declared.answer.Listed.{Listed}
use Rattle.explorer_model.specs.declared.archive.Classes.{Classes}
use Rattle.explorer_model.specs.declared.archive.Mode.TheVariants.{Rated}
use Rattle.explorer_model.specs.declared.archive.Outcome.{Outcome}
use Rattle.explorer_model.specs.declared.archive.Outcome.TheVariants as outcomes
use Rattle.explorer_model.specs.declared.archive.Speed.TheVariants.{Blitz}
use Rattle.explorer_model.specs.declared.chess.Move.{Move}
use Rattle.explorer_model.specs.declared.fault.GameFault.TheVariants.{NoTermination}
use Rattle.explorer_model.specs.declared.fault.Why.TheVariants as causes
use Rattle.explorer_model.specs.declared.query.Parameter.TheVariants.{Speeds, Moves}
use Rattle.explorer_model.specs.Chess.{start}
use Rattle.explorer_model.specs.Counting.{take_all, passes, counts, any_next, totals_of, average_of, rating_of, first_moves, moves_played, games_with_move, games_by, before_by_rating, before_by_month, months_counted, game_of_move}
use Rattle.explorer_model.specs.declared.chess.Color.TheVariants as colors
use Rattle.explorer_model.specs.Cuts.{Text, TooLong, Preamble}
use Rattle.explorer_model.specs.Finds.{history_of}
use Rattle.explorer_model.specs.Imports.{groups, Examination, Read, verdicts, verdicts_from, verdicts_in_turn, refusals}
use Rattle.explorer_model.specs.Query.{names_given, speed_names, most_moves, most_games, month_named, query_from, value_in, bad}
use Rattle.explorer_model.specs.Visits.{GameAt}
use Rattle.explorer_model.specs.Best.{best, best_one, others}

-- ---- games

game : ℕ → ℕ → ℕ → Outcome → Classes
game number rating month outcome = record {
  id = record { bytes = replicate 8 number };
  white = record { name = codes "Ann"; rating = rating };
  black = record { name = codes "Bob"; rating = 1400 };
  outcome = outcome;
  mode = Rated;
  speed = Blitz;
  group = record { value = 1400 };
  month = record { year = 2020; month = month };
}

e2e4 : Move
e2e4 = record { from = record { index = 12; on_board = lit< tt }; to = record { index = 28; on_board = lit< tt }; promotion = None }

d2d4 : Move
d2d4 = record { from = record { index = 11; on_board = lit< tt }; to = record { index = 27; on_board = lit< tt }; promotion = None }

game_at_with : Classes → Option (Option Move) → GameAt
game_at_with classes visit = record { classes = classes; visit = visit }

-- one game with each of two moves, one that ends in the position, and one that does not come there
four_games : List GameAt
four_games =
    game_at_with (game 0 1500 1 outcomes.White) (Some (Some e2e4))
    ∷ game_at_with (game 1 1500 1 outcomes.Black) (Some (Some d2d4))
    ∷ game_at_with (game 2 1600 2 outcomes.Draw) (Some None)
    ∷ game_at_with (game 3 1500 1 outcomes.White) None
    ∷ []

totals-count-games-that-end-there : totals_of (counts any_next (passes take_all)) four_games ≡ record { white = 1; draws = 1; black = 1 }
unfolding passes game four_games game_at_with
totals-count-games-that-end-there = refl

-- of moves with equal totals the lesser text of UCI comes first
moves-by-text-where-totals-are-equal : first_moves 12 (passes take_all) four_games ≡ d2d4 ∷ e2e4 ∷ []
unfolding passes games_with_move moves_played best best_one others game four_games game_at_with e2e4 d2d4
moves-by-text-where-totals-are-equal = refl

averages-are-of-the-player-to-move : average_of (rating_of colors.White) e2e4 (passes take_all) four_games ≡ 1500
unfolding passes game four_games game_at_with e2e4 d2d4
averages-are-of-the-player-to-move = refl

averages-of-black : average_of (rating_of colors.Black) e2e4 (passes take_all) four_games ≡ 1400
unfolding passes game four_games game_at_with e2e4 d2d4
averages-of-black = refl

a-single-game-is-shown : game_of_move d2d4 (passes take_all) four_games ≡ Some (record { next = d2d4; classes = game 1 1500 1 outcomes.Black })
unfolding passes games_with_move game four_games game_at_with e2e4 d2d4
a-single-game-is-shown = refl

months-count-games-that-end-there :
    history_of true (passes take_all) four_games
    ≡ Some (
    record { month = record { year = 2020; month = 1 }; totals = record { white = 1; draws = 0; black = 1 } }
    ∷ record { month = record { year = 2020; month = 2 }; totals = record { white = 0; draws = 1; black = 0 } }
    ∷ [])
unfolding passes months_counted best best_one others game four_games game_at_with
months-count-games-that-end-there = refl

-- five games with equal ratings and months
five_games : List GameAt
five_games =
    game_at_with (game 0 1500 1 outcomes.White) (Some (Some e2e4))
    ∷ game_at_with (game 1 1500 1 outcomes.White) (Some (Some e2e4))
    ∷ game_at_with (game 2 1500 1 outcomes.White) (Some (Some e2e4))
    ∷ game_at_with (game 3 1500 1 outcomes.White) (Some (Some e2e4))
    ∷ game_at_with (game 4 1500 1 outcomes.White) (Some (Some e2e4))
    ∷ []

listed_game : ℕ → Listed
listed_game number = record { next = e2e4; classes = game number 1500 1 outcomes.White }

first-numbers-are-top : games_by before_by_rating 4 (passes take_all) five_games ≡ listed_game 0 ∷ listed_game 1 ∷ listed_game 2 ∷ listed_game 3 ∷ []
unfolding passes games_with_move best best_one others game five_games game_at_with listed_game
first-numbers-are-top = refl

last-numbers-are-recent : games_by before_by_month 4 (passes take_all) five_games ≡ listed_game 4 ∷ listed_game 3 ∷ listed_game 2 ∷ listed_game 1 ∷ []
unfolding passes games_with_move best best_one others game five_games game_at_with listed_game
last-numbers-are-recent = refl

-- from February to January no game passes
none-since-after-until :
    passes (record { speeds = replicate 6 true; groups = replicate 9 true; since = Some (record { year = 2020; month = 2 }); until = Some (record { year = 2020; month = 1 }) })
    (game 0 1500 1 outcomes.White) ≡ false
unfolding passes game
none-since-after-until = refl

-- ---- parameters

a-name-twice-in-one-value : names_given speed_names (codes "blitz,bullet,blitz") ≡ Some (false ∷ true ∷ true ∷ false ∷ false ∷ false ∷ [])
unfolding names_given
a-name-twice-in-one-value = refl

an-empty-piece : names_given speed_names (codes "blitz,,bullet") ≡ None
unfolding names_given
an-empty-piece = refl

six-digits : most_moves (codes "999999") ≡ Some 999999
six-digits = refl

seven-digits : most_moves (codes "1000000") ≡ None
seven-digits = refl

no-more-than-four-games : most_games (codes "9") ≡ Some 4
no-more-than-four-games = refl

a-month : month_named (codes "2020-12") ≡ Some (record { year = 2020; month = 12 })
unfolding month_named
a-month = refl

no-month-13 : month_named (codes "2020-13") ≡ None
unfolding month_named
no-month-13 = refl

the-first-that-is-malformed : query_from ((codes "speeds", codes "blitz,slow") ∷ (codes "ratings", codes "5") ∷ []) start (record { moves = []; at = start }) ≡ Err (bad Speeds)
unfolding query_from value_in names_given
the-first-that-is-malformed = refl

a-name-given-twice : query_from ((codes "moves", codes "3") ∷ (codes "moves", codes "3") ∷ []) start (record { moves = []; at = start }) ≡ Err (bad Moves)
unfolding query_from value_in names_given
a-name-given-twice = refl

-- ---- groups and verdicts

-- what stands before the first text and behind the last belongs to their group
one-group :
    groups (Preamble 0 ∷ Text (record { place = 6; bytes = [] }) ∷ TooLong 6 65537 ∷ [])
    ≡ (Preamble 0 ∷ Text (record { place = 6; bytes = [] }) ∷ TooLong 6 65537 ∷ []) ∷ []
unfolding groups
one-group = refl

read : ℕ → ℕ → Examination
read place number = Read (record { place = place; text = []; game = Ok (record { classes = game number 1500 1 outcomes.White; root = start; moves = [] }) })

unread : ℕ → Examination
unread place = Read (record { place = place; text = []; game = Err NoTermination })

-- the second text with an id is refused with the place of the first; a refused text blocks nothing
an-id-twice :
    refusals (verdicts (unread 0 ∷ read 10 7 ∷ read 20 7 ∷ read 30 8 ∷ []))
    ≡ record { place = 0; why = causes.Game NoTermination } ∷ record { place = 20; why = causes.Twice 10 } ∷ []
unfolding verdicts_from read unread game
an-id-twice = refl

-- an id of an earlier group names the game that has it; by itself a group takes it again
an-id-of-an-earlier-group :
    flat_map refusals (verdicts_in_turn [] ((read 0 7 ∷ read 10 8 ∷ []) ∷ (read 20 8 ∷ read 30 9 ∷ []) ∷ []))
    ≡ record { place = 20; why = causes.Repeated 1 } ∷ []
unfolding verdicts_in_turn verdicts_from read game
an-id-of-an-earlier-group = refl

an-id-of-an-earlier-group-apart :
    flat_map refusals (map verdicts ((read 0 7 ∷ read 10 8 ∷ []) ∷ (read 20 8 ∷ read 30 9 ∷ []) ∷ [])) ≡ []
unfolding verdicts_from read game
an-id-of-an-earlier-group-apart = refl

-- what is refused takes no number: the game with the id 9 is the second that is stored
numbers-count-stored-games :
    flat_map refusals (verdicts_in_turn [] ((read 0 7 ∷ unread 10 ∷ read 20 9 ∷ []) ∷ (read 30 9 ∷ []) ∷ []))
    ≡ record { place = 10; why = causes.Game NoTermination } ∷ record { place = 30; why = causes.Repeated 1 } ∷ []
unfolding verdicts_in_turn verdicts_from read unread game
numbers-count-stored-games = refl
