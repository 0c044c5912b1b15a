-- What is asked of a player's games, which games they are, what is found and how it is written, worked out by hand.
use lib.Utf8.{encode}
use Rattle.std.specs.Bool.{⊤}
use Rattle.std.specs.Fmt.{digits}
use Rattle.std.specs.Str.{chars, is_utf8}
use Rattle.std.specs.Str.Lossy.{utf8_error_len, utf8_lossy, utf8_valid_len}
use Rattle.std.proofs.Common.{◌≡◌, ℕ, ◌++◌, Bool, true, false, List, [], ◌∷◌, replicate, Some, None, Ok, Err, codes, refl, inl}
use Rattle.form_urlencoded.proofs.OnLiterals.{form_urlencoded_on_literals}
use Rattle.serde_json.proofs.OnLiterals.{serde_json_on_literals}
use Rattle.explorer_model.specs.declared.archive.Batch.{Batch}
use Rattle.explorer_model.specs.declared.archive.Classes.{Classes}
use Rattle.explorer_model.specs.declared.archive.Mode.TheVariants.{Casual}
use Rattle.explorer_model.specs.declared.archive.Outcome.TheVariants as outcomes
use Rattle.explorer_model.specs.declared.archive.Speed.TheVariants.{Blitz}
use Rattle.explorer_model.specs.declared.chess.Color.TheVariants.{White, Black}
use Rattle.explorer_model.specs.declared.player.PlayerFound.{PlayerFound}
use Rattle.explorer_model.specs.declared.player.PlayerLine.{PlayerLine}
use Rattle.explorer_model.specs.declared.player.PlayerParameter.TheVariants.{Player, Color as TheColor, Modes, Common}
use Rattle.explorer_model.specs.declared.player.PlayerQuery.{PlayerQuery}
use Rattle.explorer_model.specs.declared.query.Parameter.TheVariants as parameters
use Rattle.explorer_model.specs.Best.{best, best_one, others}
use Rattle.explorer_model.specs.Chess.{start}
use Rattle.explorer_model.specs.Counting.{games_with_move, moves_played, passes, take_all}
use Rattle.explorer_model.specs.Labels.{no_label}
use Rattle.explorer_model.specs.Players.{bad_player, color_named, is_wanted, player_body, player_query_by, plays_as, IsPlayerFound, PlayerQueryReads}
use Rattle.explorer_model.specs.Query.{bad, month_named, names_given, switch_named, value_in}
use Rattle.chess_reference.proofs.Boards.{boards_compute}
use Rattle.notation_tests.proofs.Examples.{a-quiet-move}
use Rattle.notation_tests.proofs.FoundExamples.{d4, d4-is-written, e4, itself, listed-d4, listed-e4, the-text-of-d4, the-text-of-e4, game-of-d4, game-of-e4, text-of-d4, text-of-e4, later}
use Rattle.notation_tests.proofs.GameExamples.{ann_and_bob}

-- ---- query strings

-- what is unfolded where query strings compute
unfoldable queries_compute : ⊤
unfolding form_urlencoded_on_literals utf8_lossy utf8_valid_len utf8_error_len is_utf8 chars encode value_in names_given month_named switch_named color_named player_query_by
queries_compute = tt

-- what Ann played as White, of all her games
anns : PlayerQuery
anns = record {
  player = codes "Ann";
  color = White;
  modes = true ∷ true ∷ [];
  query = record { root = start; plays = []; at = start; filter = take_all; moves = 12; top = 0; recent = 4; history = false };
}

player-and-colour : PlayerQueryReads (codes "player=Ann&color=white") (Ok anns)
unfolding queries_compute anns
player-and-colour = (Ok start, Ok (record { moves = []; at = start }), refl, refl, refl)

-- ratings, topGames and history are no parameters here, twice or malformed, and an unknown one is none
what-is-passed-over : PlayerQueryReads (codes "ratings=7&color=white&topGames=x&history=1&history=2&player=%41nn&who=") (Ok anns)
unfolding queries_compute anns
what-is-passed-over = (Ok start, Ok (record { moves = []; at = start }), refl, refl, refl)

-- byte 255 is no UTF-8 and stands for U+FFFD; of more than four games four are listed
casual-games-as-black : PlayerQueryReads (codes "color=black&player=%ff&modes=casual,casual&speeds=bullet&moves=1&recentGames=9") (Ok (record {
  player = 0xEF ∷ 0xBF ∷ 0xBD ∷ [];
  color = Black;
  modes = false ∷ true ∷ [];
  query = record {
    root = start;
    plays = [];
    at = start;
    filter = record { speeds = false ∷ true ∷ false ∷ false ∷ false ∷ false ∷ []; groups = replicate 9 true; since = None; until = None };
    moves = 1;
    top = 0;
    recent = 4;
    history = false;
  };
}))
unfolding queries_compute
casual-games-as-black = (Ok start, Ok (record { moves = []; at = start }), refl, refl, refl)

-- ---- what is malformed: each name behind those that are judged before it, and before one that is judged after it

no-player : PlayerQueryReads (codes "color=red") (Err (bad_player Player))
unfolding queries_compute
no-player = (Ok start, Ok (record { moves = []; at = start }), refl, refl, refl)

an-empty-player : PlayerQueryReads (codes "color=white&player=") (Err (bad_player Player))
unfolding queries_compute
an-empty-player = (Ok start, Ok (record { moves = []; at = start }), refl, refl, refl)

a-player-twice : PlayerQueryReads (codes "player=Ann&color=white&player=Ann") (Err (bad_player Player))
unfolding queries_compute
a-player-twice = (Ok start, Ok (record { moves = []; at = start }), refl, refl, refl)

no-colour : PlayerQueryReads (codes "player=Ann&variant=atomic") (Err (bad_player TheColor))
unfolding queries_compute
no-colour = (Ok start, Ok (record { moves = []; at = start }), refl, refl, refl)

an-empty-colour : PlayerQueryReads (codes "player=Ann&color=") (Err (bad_player TheColor))
unfolding queries_compute
an-empty-colour = (Ok start, Ok (record { moves = []; at = start }), refl, refl, refl)

-- capitals count
another-colour : PlayerQueryReads (codes "player=Ann&color=White") (Err (bad_player TheColor))
unfolding queries_compute
another-colour = (Ok start, Ok (record { moves = []; at = start }), refl, refl, refl)

variant-before-fen : PlayerQueryReads (codes "player=Ann&color=white&fen=&fen=&variant=atomic") (Err (bad_player (Common parameters.Variant)))
unfolding queries_compute
variant-before-fen = (Err (bad parameters.Fen), Err (bad parameters.Fen), refl, refl, refl)

fen-before-play : PlayerQueryReads (codes "player=Ann&color=white&play=&play=&fen=&fen=") (Err (bad_player (Common parameters.Fen)))
unfolding queries_compute
fen-before-play = (Err (bad parameters.Fen), Err (bad parameters.Fen), refl, refl, refl)

play-before-speeds : PlayerQueryReads (codes "player=Ann&color=white&speeds=slow&play=&play=") (Err (bad_player (Common parameters.Play)))
unfolding queries_compute
play-before-speeds = (Ok start, Err (bad parameters.Play), refl, refl, refl)

speeds-before-modes : PlayerQueryReads (codes "player=Ann&color=white&modes=slow&speeds=slow") (Err (bad_player (Common parameters.Speeds)))
unfolding queries_compute
speeds-before-modes = (Ok start, Ok (record { moves = []; at = start }), refl, refl, refl)

-- an empty piece is no mode
modes-before-since : PlayerQueryReads (codes "player=Ann&color=white&since=2020&modes=rated,") (Err (bad_player Modes))
unfolding queries_compute
modes-before-since = (Ok start, Ok (record { moves = []; at = start }), refl, refl, refl)

since-before-until : PlayerQueryReads (codes "player=Ann&color=white&until=2020&since=2020-13") (Err (bad_player (Common parameters.Since)))
unfolding queries_compute
since-before-until = (Ok start, Ok (record { moves = []; at = start }), refl, refl, refl)

until-before-moves : PlayerQueryReads (codes "player=Ann&color=white&moves=all&until=2020-00") (Err (bad_player (Common parameters.Until)))
unfolding queries_compute
until-before-moves = (Ok start, Ok (record { moves = []; at = start }), refl, refl, refl)

moves-before-recent-games : PlayerQueryReads (codes "player=Ann&color=white&recentGames=all&moves=1000000") (Err (bad_player (Common parameters.Moves)))
unfolding queries_compute
moves-before-recent-games = (Ok start, Ok (record { moves = []; at = start }), refl, refl, refl)

recent-games-last : PlayerQueryReads (codes "player=Ann&color=white&recentGames=-1") (Err (bad_player (Common parameters.RecentGames)))
unfolding queries_compute
recent-games-last = (Ok start, Ok (record { moves = []; at = start }), refl, refl, refl)

-- ---- whose games they are

-- a name of letters and of other bytes: 195 and 132 are a capital A with two dots, 195 and 164 a small one
called : List ℕ → Classes
called name = record {
  id = record { bytes = codes "abcdEF12" };
  white = record { name = name; rating = 1500 };
  black = record { name = codes "Bob"; rating = 1400 };
  outcome = outcomes.White;
  mode = Casual;
  speed = Blitz;
  group = record { value = 1400 };
  month = record { year = 2020; month = 1 };
}

letters-of-any-case : plays_as (codes "aNN") White ann_and_bob ≡ true
unfolding ann_and_bob
letters-of-any-case = refl

the-other-colour : plays_as (codes "Ann") Black ann_and_bob ≡ false
unfolding ann_and_bob
the-other-colour = refl

the-front-of-a-name : plays_as (codes "An") White ann_and_bob ≡ false
unfolding ann_and_bob
the-front-of-a-name = refl

-- brackets are 32 apart as letters are, and are no letters
brackets : plays_as (codes "a{") White (called (codes "A[")) ≡ false
unfolding called
brackets = refl

letters-beyond-ascii : plays_as (195 ∷ 164 ∷ []) White (called (195 ∷ 132 ∷ [])) ≡ false
unfolding called
letters-beyond-ascii = refl

-- the modes stand as rated, casual
wanted-of : List Bool → List Bool → Classes → Bool
wanted-of modes speeds classes = is_wanted (record {
  player = codes "ann";
  color = White;
  modes = modes;
  query = record {
    root = start;
    plays = [];
    at = start;
    filter = record { speeds = speeds; groups = replicate 9 true; since = None; until = None };
    moves = 12;
    top = 0;
    recent = 4;
    history = false;
  };
}) classes

a-rated-game : wanted-of (true ∷ false ∷ []) (replicate 6 true) ann_and_bob ≡ true
unfolding wanted-of is_wanted passes ann_and_bob
a-rated-game = refl

a-rated-game-where-casual-ones-are-asked : wanted-of (false ∷ true ∷ []) (replicate 6 true) ann_and_bob ≡ false
unfolding wanted-of is_wanted passes ann_and_bob
a-rated-game-where-casual-ones-are-asked = refl

a-casual-game : wanted-of (false ∷ true ∷ []) (replicate 6 true) (called (codes "ANN")) ≡ true
unfolding wanted-of is_wanted passes called
a-casual-game = refl

-- blitz is the third speed
a-game-of-another-speed : wanted-of (true ∷ true ∷ []) (true ∷ true ∷ false ∷ true ∷ true ∷ true ∷ []) ann_and_bob ≡ false
unfolding wanted-of is_wanted passes ann_and_bob
a-game-of-another-speed = refl

another-players-game : wanted-of (true ∷ true ∷ []) (replicate 6 true) (called (codes "Eve")) ≡ false
unfolding wanted-of is_wanted passes called
another-players-game = refl

-- ---- what is found

-- what is unfolded where answers compute
unfoldable found_computes : ⊤
unfolding boards_compute is_wanted passes games_with_move moves_played best best_one others game-of-e4 game-of-d4 ann_and_bob later anns e4 d4
found_computes = tt

-- 1. e4 1-0 alone: Ann has 1500 and Bob 1400
one-game : List Batch
one-game = record { label = no_label; texts = text-of-e4 ∷ [] } ∷ []

line-of-e4 : PlayerLine
line-of-e4 = record { next = e4; san = codes "e4"; average = 1400; totals = record { white = 1; draws = 0; black = 0 }; game = Some listed-e4 }

one-win : PlayerFound
one-win = record { totals = record { white = 1; draws = 0; black = 0 }; moves = line-of-e4 ∷ []; recent = listed-e4 ∷ [] }

-- the average is that of whom Ann played
a-game-of-hers : IsPlayerFound one-game anns one-win
unfolding found_computes one-game listed-e4 line-of-e4 one-win
a-game-of-hers = record {
  games = game-of-e4 ∷ [];
  are_games = (the-text-of-e4, tt);
  games_at = record { classes = ann_and_bob; visit = Some (Some e4) } ∷ [];
  are_games_at = ((refl, inl (itself start, refl)), tt);
  recount = record {
    totals = refl;
    moves = (record { next = refl; san = a-quiet-move; average = refl; totals = refl; game = refl }, tt);
    recent = refl;
  };
}

-- the colour and the other parts of what is asked of her games
as-black : PlayerQuery
as-black = record {
  player = codes "Ann";
  color = Black;
  modes = true ∷ true ∷ [];
  query = record { root = start; plays = []; at = start; filter = take_all; moves = 12; top = 0; recent = 4; history = false };
}

nothing : PlayerFound
nothing = record { totals = record { white = 0; draws = 0; black = 0 }; moves = []; recent = [] }

she-had-white : IsPlayerFound one-game as-black nothing
unfolding found_computes one-game as-black nothing
she-had-white = record {
  games = game-of-e4 ∷ [];
  are_games = (the-text-of-e4, tt);
  games_at = record { classes = ann_and_bob; visit = Some (Some e4) } ∷ [];
  are_games_at = ((refl, inl (itself start, refl)), tt);
  recount = record { totals = refl; moves = tt; recent = refl };
}

nothing-in-an-empty-journal : IsPlayerFound [] anns nothing
unfolding found_computes nothing
nothing-in-an-empty-journal = record {
  games = [];
  are_games = tt;
  games_at = [];
  are_games_at = tt;
  recount = record { totals = refl; moves = tt; recent = refl };
}

-- what Bob met as Black in both games; whoever is to move, the average is of those who played against him
bobs : PlayerQuery
bobs = record {
  player = codes "BOB";
  color = Black;
  modes = true ∷ false ∷ [];
  query = record { root = start; plays = []; at = start; filter = take_all; moves = 1; top = 0; recent = 1; history = false };
}

both-games : List Batch
both-games = record { label = no_label; texts = text-of-e4 ∷ text-of-d4 ∷ [] } ∷ []

-- of moves with equal totals d2d4 is first, and February is later
two-games-against-bob : IsPlayerFound both-games bobs (record {
  totals = record { white = 1; draws = 0; black = 1 };
  moves = record { next = d4; san = codes "d4"; average = 1500; totals = record { white = 0; draws = 0; black = 1 }; game = Some listed-d4 } ∷ [];
  recent = listed-d4 ∷ [];
})
unfolding found_computes bobs both-games listed-d4
two-games-against-bob = record {
  games = game-of-e4 ∷ game-of-d4 ∷ [];
  are_games = (the-text-of-e4, (the-text-of-d4, tt));
  games_at = record { classes = ann_and_bob; visit = Some (Some e4) } ∷ record { classes = later; visit = Some (Some d4) } ∷ [];
  are_games_at = ((refl, inl (itself start, refl)), ((refl, inl (itself start, refl)), tt));
  recount = record {
    totals = refl;
    moves = (record { next = refl; san = d4-is-written; average = refl; totals = refl; game = refl }, tt);
    recent = refl;
  };
}

-- ---- the text of answers

unfoldable bodies_compute : ⊤
unfolding boards_compute serde_json_on_literals digits player_body ann_and_bob e4
bodies_compute = tt

nothing-in-json : player_body nothing (record { whole = None; moves = [] })
    ≡ codes "{\"black\":0,\"draws\":0,\"moves\":[],\"opening\":null,\"recentGames\":[],\"white\":0}"
unfolding bodies_compute nothing
nothing-in-json = refl

a-game-in-json : List ℕ
a-game-in-json =
    codes "{\"black\":{\"name\":\"Bob\",\"rating\":1400},\"id\":\"abcdEF12\",\"mode\":\"rated\",\"month\":\"2020-01\","
    ++ codes "\"speed\":\"blitz\",\"uci\":\"e2e4\",\"white\":{\"name\":\"Ann\",\"rating\":1500},\"winner\":\"white\",\"year\":2020}"

-- without a name of an opening
a-win-in-json : player_body one-win (record { whole = None; moves = None ∷ [] })
    ≡ codes "{\"black\":0,\"draws\":0,\"moves\":[{\"averageOpponentRating\":1400,\"black\":0,\"draws\":0,\"game\":" ++ a-game-in-json
    ++ codes ",\"opening\":null,\"san\":\"e4\",\"uci\":\"e2e4\",\"white\":1}],"
    ++ codes "\"opening\":null,\"recentGames\":[" ++ a-game-in-json ++ codes "],\"white\":1}"
unfolding bodies_compute one-win line-of-e4 listed-e4 a-game-in-json
a-win-in-json = refl

-- with one for the whole and one for the move; quotes are escaped (RFC 8259, 7)
openings-in-json : player_body (record {
  totals = record { white = 0; draws = 1; black = 0 };
  moves = record { next = e4; san = codes "e4"; average = 2000; totals = record { white = 0; draws = 2; black = 0 }; game = None } ∷ [];
  recent = [];
}) (record { whole = Some (record { eco = codes "A00"; name = codes "The \"start\"" }); moves = Some (record { eco = codes "B00"; name = codes "King's Pawn Game" }) ∷ [] })
    ≡ codes "{\"black\":0,\"draws\":1,\"moves\":[{\"averageOpponentRating\":2000,\"black\":0,\"draws\":2,\"game\":null,"
    ++ codes "\"opening\":{\"eco\":\"B00\",\"name\":\"King's Pawn Game\"},\"san\":\"e4\",\"uci\":\"e2e4\",\"white\":0}],"
    ++ codes "\"opening\":{\"eco\":\"A00\",\"name\":\"The \\\"start\\\"\"},\"recentGames\":[],\"white\":0}"
unfolding bodies_compute
openings-in-json = refl
