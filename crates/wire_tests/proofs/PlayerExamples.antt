-- Which reply answers a query string for a player's games, or one with openings, worked out by hand.
use lib.Utf8.{encode}
use Rattle.std.specs.Bool.{⊤}
use Rattle.std.specs.Fmt.{digits}
use Rattle.std.specs.Str.{chars, is_utf8}
use Rattle.std.specs.Str.Lossy.{utf8_error_len, utf8_lossy, utf8_valid_len}
use Rattle.std.proofs.Common.{◌≡◌, ℕ, ◌++◌, false, true, List, [], ◌∷◌, Some, None, Ok, codes, refl, inl, arith}
use Rattle.form_urlencoded.proofs.OnLiterals.{form_urlencoded_on_literals}
use Rattle.serde_json.proofs.OnLiterals.{serde_json_on_literals}
use Rattle.explorer_model.specs.declared.archive.Batch.{Batch}
use Rattle.explorer_model.specs.declared.chess.Color.TheVariants.{White}
use Rattle.explorer_model.specs.declared.opening.Opening.{Opening}
use Rattle.explorer_model.specs.declared.player.PlayerParameter.TheVariants.{Player, Modes, Common}
use Rattle.explorer_model.specs.declared.player.PlayerQuery.{PlayerQuery}
use Rattle.explorer_model.specs.declared.query.Parameter.TheVariants.{RecentGames, Until}
use Rattle.explorer_model.specs.declared.query.Query.{Query}
use Rattle.explorer_model.specs.declared.wire.Path.TheVariants as paths
use Rattle.explorer_model.specs.declared.wire.Reply.TheVariants as replies
use Rattle.explorer_model.specs.Answer.{named_body}
use Rattle.explorer_model.specs.Best.{best, best_one, others}
use Rattle.explorer_model.specs.Chess.{start}
use Rattle.explorer_model.specs.Counting.{games_with_move, moves_played, passes, take_all}
use Rattle.explorer_model.specs.Openings.{NamedPosition}
use Rattle.explorer_model.specs.Players.{color_named, is_wanted, player_body, player_query_by, IsPlayerAnswerOf}
use Rattle.explorer_model.specs.Query.{month_named, names_given, query_from, switch_named, value_in}
use Rattle.explorer_model.specs.Replies.{reply_body, reply_text, IsNamedAnswerOf}
use Rattle.explorer_model.specs.Wire.{path_of}

-- ---- the path

the-path-of-players : path_of (codes "/player") ≡ paths.Player
the-path-of-players = refl

a-path-below-it : path_of (codes "/player/") ≡ paths.Other
a-path-below-it = refl

-- ---- the text of a reply

-- the texts as lines, each ended by 13 and 10
lines : List (List ℕ) → List ℕ
lines [] = []
lines (text ∷ texts) = text ++ (13 ∷ 10 ∷ lines texts)

-- a body of 52 bytes
a-player-that-is-malformed : reply_text (replies.BadPlayerParameter Player) false
    ≡ lines (codes "HTTP/1.1 400 Bad Request" ∷ codes "Content-Type: application/json" ∷ codes "Content-Length: 52" ∷ [] ∷ [])
    ++ codes "{\"error\":\"malformed parameter\",\"parameter\":\"player\"}"
unfolding lines reply_text reply_body digits serde_json_on_literals
a-player-that-is-malformed = refl

modes-that-are-malformed : reply_text (replies.BadPlayerParameter Modes) true
    ≡ lines (codes "HTTP/1.1 400 Bad Request" ∷ codes "Content-Type: application/json" ∷ codes "Content-Length: 51"
    ∷ codes "Connection: close" ∷ [] ∷ [])
    ++ codes "{\"error\":\"malformed parameter\",\"parameter\":\"modes\"}"
unfolding lines reply_text reply_body digits serde_json_on_literals
modes-that-are-malformed = refl

-- a parameter that other queries have is spelled as there
recent-games-that-are-malformed : reply_text (replies.BadPlayerParameter (Common RecentGames)) false
    ≡ lines (codes "HTTP/1.1 400 Bad Request" ∷ codes "Content-Type: application/json" ∷ codes "Content-Length: 57" ∷ [] ∷ [])
    ++ codes "{\"error\":\"malformed parameter\",\"parameter\":\"recentGames\"}"
unfolding lines reply_text reply_body digits serde_json_on_literals
recent-games-that-are-malformed = refl

-- ---- which reply answers a query string for a player's games

-- what is unfolded where query strings compute
unfoldable queries_compute : ⊤
unfolding form_urlencoded_on_literals utf8_lossy utf8_valid_len utf8_error_len is_utf8 chars encode value_in names_given month_named switch_named color_named query_from player_query_by
queries_compute = tt

-- without a player nothing is answered, whatever the journal has and the book names
no-player : (book : List NamedPosition) (journal : List Batch) → IsPlayerAnswerOf book (codes "color=white") journal (replies.BadPlayerParameter Player)
unfolding queries_compute
no-player book journal = (Ok start, Ok (record { moves = []; at = start }), refl, refl, refl)

-- of two that are malformed the modes are told
modes-before-months : (book : List NamedPosition) (journal : List Batch)
    → IsPlayerAnswerOf book (codes "until=2020-13&modes=blitz&player=Ann&color=black") journal (replies.BadPlayerParameter Modes)
unfolding queries_compute
modes-before-months book journal = (Ok start, Ok (record { moves = []; at = start }), refl, refl, refl)

-- the parameters of other queries have their own reply, and no other reply is an answer
another-queries-reply : (book : List NamedPosition) (text : List ℕ) (journal : List Batch) → ¬ IsPlayerAnswerOf book text journal (replies.BadParameter Until)
another-queries-reply book text journal h = h

not-found-is-no-answer : (book : List NamedPosition) (text : List ℕ) (journal : List Batch) → ¬ IsPlayerAnswerOf book text journal replies.NotFound
not-found-is-no-answer book text journal h = h

-- an answer names as many batches as the journal has
a-number-too-many : (book : List NamedPosition) (text body : List ℕ) → ¬ IsPlayerAnswerOf book text [] (replies.Found 1 body)
a-number-too-many book text body h = let number = h.number in absurd (omega (arith, number))

kings-pawn : Opening
kings-pawn = record { eco = codes "B00"; name = codes "King's Pawn Game" }

-- the start alone has a name
a-book : List NamedPosition
a-book = record { position = start; opening = kings-pawn } ∷ []

anns : PlayerQuery
anns = record {
  player = codes "Ann";
  color = White;
  modes = true ∷ true ∷ [];
  query = record { root = start; plays = []; at = start; filter = take_all; moves = 12; top = 0; recent = 4; history = false };
}

-- in an empty journal nothing is found, and the position asked for has its name
a-player-in-an-empty-journal : IsPlayerAnswerOf a-book (codes "player=Ann&color=white") []
    (replies.Found 0 (codes "{\"black\":0,\"draws\":0,\"moves\":[],\"opening\":{\"eco\":\"B00\",\"name\":\"King's Pawn Game\"},\"recentGames\":[],\"white\":0}"))
unfolding queries_compute serde_json_on_literals digits player_body is_wanted passes games_with_move moves_played best best_one others anns a-book kings-pawn
a-player-in-an-empty-journal = record {
  number = refl;
  query = anns;
  asks = (Ok start, Ok (record { moves = []; at = start }), refl, refl, refl);
  found = record { totals = record { white = 0; draws = 0; black = 0 }; moves = []; recent = [] };
  is_found = record { games = []; are_games = tt; games_at = []; are_games_at = tt; recount = record { totals = refl; moves = tt; recent = refl } };
  naming = record { whole = Some kings-pawn; moves = [] };
  is_naming = record { whole = (Some kings-pawn, None, inl ((refl, refl, refl, λ s. (λ h. h, λ h. h)), refl), refl, refl); moves = tt };
  is_body = refl;
}

-- ---- which reply answers a query string where openings are known

the-empty-query : Query
the-empty-query = record {
  root = start;
  plays = [];
  at = start;
  filter = take_all;
  moves = 12;
  top = 4;
  recent = 4;
  history = false;
}

an-opening-in-an-empty-journal : IsNamedAnswerOf a-book [] []
    (replies.Found 0 (codes "{\"black\":0,\"draws\":0,\"moves\":[],\"opening\":{\"eco\":\"B00\",\"name\":\"King's Pawn Game\"},\"recentGames\":[],\"topGames\":[],\"white\":0}"))
unfolding queries_compute serde_json_on_literals digits named_body passes games_with_move moves_played best best_one others the-empty-query a-book kings-pawn
an-opening-in-an-empty-journal = record {
  number = refl;
  query = the-empty-query;
  asks = (Ok start, Ok (record { moves = []; at = start }), refl, refl, refl);
  found = record { totals = record { white = 0; draws = 0; black = 0 }; moves = []; top = []; recent = []; history = None };
  is_found = record {
    games = [];
    are_games = tt;
    answer = record { games_at = []; are_games_at = tt; recount = record { totals = refl; moves = tt; top = refl; recent = refl; history = refl } };
  };
  naming = record { whole = Some kings-pawn; moves = [] };
  is_naming = record { whole = (Some kings-pawn, None, inl ((refl, refl, refl, λ s. (λ h. h, λ h. h)), refl), refl, refl); moves = tt };
  is_body = refl;
}

a-month-13 : (book : List NamedPosition) (journal : List Batch) → IsNamedAnswerOf book (codes "until=2020-13") journal (replies.BadParameter Until)
unfolding queries_compute
a-month-13 book journal = (Ok start, Ok (record { moves = []; at = start }), refl, refl, refl)
