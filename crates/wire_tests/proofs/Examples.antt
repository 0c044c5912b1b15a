-- Replies, and which reply answers a query string, worked out by hand.
use lib.Utf8.{encode}
use Rattle.std.specs.Bool.{⊤}
use Rattle.std.specs.Fmt.{digits}
use Rattle.std.specs.Str.{chars, is_utf8}
use Rattle.std.specs.Str.Lossy.{utf8_error_len, utf8_lossy, utf8_valid_len}
use Rattle.std.proofs.Common.{◌≡◌, ℕ, ◌++◌, false, true, List, [], ◌∷◌, None, Ok, codes, refl, arith}
use Rattle.form_urlencoded.proofs.OnLiterals.{form_urlencoded_on_literals}
use Rattle.serde_json.proofs.OnLiterals.{serde_json_on_literals}
use Rattle.explorer_model.specs.declared.archive.Batch.{Batch}
use Rattle.explorer_model.specs.declared.query.Parameter.TheVariants.{Fen, Until, Ratings}
use Rattle.explorer_model.specs.declared.query.Query.{Query}
use Rattle.explorer_model.specs.declared.wire.Reply.TheVariants as replies
use Rattle.explorer_model.specs.Chess.{start}
use Rattle.explorer_model.specs.Best.{best, best_one, others}
use Rattle.explorer_model.specs.Counting.{games_with_move, moves_played, passes, take_all}
use Rattle.explorer_model.specs.Query.{month_named, names_given, query_from, switch_named, value_in}
use Rattle.explorer_model.specs.Answer.{named_body}
use Rattle.explorer_model.specs.Replies.{reply_body, reply_text, IsAnswerOf}

-- ---- the text of a reply

-- the texts as lines, each ended by 13 and 10
lines : List (List ℕ) → List ℕ
lines [] = []
lines (text ∷ texts) = text ++ (13 ∷ 10 ∷ lines texts)

a-parameter-that-is-malformed : reply_text (replies.BadParameter Fen) false
    ≡ lines (codes "HTTP/1.1 400 Bad Request" ∷ codes "Content-Type: application/json" ∷ codes "Content-Length: 49" ∷ [] ∷ [])
    ++ codes "{\"error\":\"malformed parameter\",\"parameter\":\"fen\"}"
unfolding lines reply_text reply_body digits serde_json_on_literals
a-parameter-that-is-malformed = refl

a-body-that-is-too-large : reply_text replies.TooLarge true
    ≡ lines (codes "HTTP/1.1 413 Content Too Large" ∷ codes "Content-Type: application/json" ∷ codes "Content-Length: 26"
    ∷ codes "Connection: close" ∷ [] ∷ [])
    ++ codes "{\"error\":\"body too large\"}"
unfolding lines reply_text reply_body digits serde_json_on_literals
a-body-that-is-too-large = refl

-- ---- which reply answers a query string

-- what is unfolded where query strings compute
unfoldable queries_compute : ⊤
unfolding form_urlencoded_on_literals utf8_lossy utf8_valid_len utf8_error_len is_utf8 chars encode value_in names_given month_named switch_named query_from
queries_compute = tt

-- there is no month 13, whatever the journal has
a-month-13 : (journal : List Batch) → IsAnswerOf (codes "until=2020-13") journal (replies.BadParameter Until)
unfolding queries_compute
a-month-13 journal = (Ok start, Ok (record { moves = []; at = start }), refl, refl, refl)

-- of two that are malformed the ratings are told
ratings-before-months : (journal : List Batch) → IsAnswerOf (codes "until=2020-13&ratings=1500") journal (replies.BadParameter Ratings)
unfolding queries_compute
ratings-before-months journal = (Ok start, Ok (record { moves = []; at = start }), refl, refl, refl)

-- no other reply is an answer
not-found-is-no-answer : (text : List ℕ) (journal : List Batch) → ¬ IsAnswerOf text journal replies.NotFound
not-found-is-no-answer text journal h = h

-- an answer names as many batches as the journal has
a-number-too-many : (text body : List ℕ) → ¬ IsAnswerOf text [] (replies.Found 1 body)
a-number-too-many text body h = let number = h.number in absurd (omega (arith, number))

the-empty-query : Query
the-empty-query = record {
  root = start;
  plays = [];
  at = start;
  filter = take_all;
  moves = 12;
  top = 4;
  recent = 4;
  history = false;
}

-- in an empty journal nothing is found
nothing-in-an-empty-journal : IsAnswerOf [] [] (replies.Found 0 (codes "{\"black\":0,\"draws\":0,\"moves\":[],\"opening\":null,\"recentGames\":[],\"topGames\":[],\"white\":0}"))
unfolding queries_compute serde_json_on_literals digits named_body passes games_with_move moves_played best best_one others the-empty-query
nothing-in-an-empty-journal = record {
  number = refl;
  query = the-empty-query;
  asks = (Ok start, Ok (record { moves = []; at = start }), refl, refl, refl);
  found = record { totals = record { white = 0; draws = 0; black = 0 }; moves = []; top = []; recent = []; history = None };
  is_found = record {
    games = [];
    are_games = tt;
    answer = record { games_at = []; are_games_at = tt; recount = record { totals = refl; moves = tt; top = refl; recent = refl; history = refl } };
  };
  is_body = refl;
}
