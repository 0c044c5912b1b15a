-- What query strings ask, which games they count, how a stream is grouped, and the text of answers, worked out by hand.
use lib.Utf8.{encode}
use Rattle.std.specs.Bool.{⊤}
use Rattle.std.specs.Fmt.{digits}
use Rattle.std.specs.List.{repeat}
use Rattle.std.specs.Str.{chars, is_utf8}
use Rattle.std.specs.Str.Lossy.{utf8_error_len, utf8_lossy, utf8_valid_len}
use Rattle.std.proofs.Common.{◌≡◌, ℕ, ◌++◌, Bool, true, false, List, [], ◌∷◌, length, map, replicate, count_by, Option, Some, None, Ok, Err, codes, refl, inl, inr, sym, subst, arith}
use Rattle.std.proofs.lemmas.Option.{same_Some}
use Rattle.form_urlencoded.proofs.OnLiterals.{form_urlencoded_on_literals}
use Rattle.serde_json.proofs.OnLiterals.{serde_json_on_literals}
use Rattle.explorer_model.specs.declared.answer.Listed.{Listed}
use Rattle.explorer_model.specs.declared.archive.Classes.{Classes}
use Rattle.explorer_model.specs.declared.archive.Mode.TheVariants.{Rated}
use Rattle.explorer_model.specs.declared.archive.Month.{Month}
use Rattle.explorer_model.specs.declared.archive.Outcome.TheVariants as outcomes
use Rattle.explorer_model.specs.declared.archive.Speed.TheVariants.{Blitz}
use Rattle.explorer_model.specs.declared.chess.Color.TheVariants.{White}
use Rattle.explorer_model.specs.declared.chess.Piece.{Piece}
use Rattle.explorer_model.specs.declared.notation.UciFault.TheVariants.{NotLegal}
use Rattle.explorer_model.specs.declared.query.Parameter.TheVariants as parameters
use Rattle.explorer_model.specs.Answer.{answer_body, named_body}
use Rattle.explorer_model.specs.Chess.{after, is_king_of, start}
use Rattle.explorer_model.specs.Counting.{passes, take_all}
use Rattle.explorer_model.specs.Cuts.{Cut, Text, TooLong, Preamble}
use Rattle.explorer_model.specs.Fen.{fen_text, FenReads}
use Rattle.explorer_model.specs.Imports.{groups}
use Rattle.explorer_model.specs.Query.{bad, month_named, names_given, query_from, switch_named, value_in, QueryReads}
use Rattle.explorer_model.specs.Uci.{UciReads}
use Rattle.fen_uci.proofs.Positions.{first_1}
use Rattle.fen_uci.proofs.Rereading.{written_reads}
use Rattle.chess_reference.proofs.Boards.{boards_compute, uci}
use Rattle.chess_reference.proofs.DecisionLemmas.{none_leads, valid}
use Rattle.notation_tests.proofs.Examples.{a-king-with-a-rook, a-pawn-goes-two-squares, castling-onto-the-rook}

-- ---- query strings

-- what is unfolded where query strings compute
unfoldable queries_compute : ⊤
unfolding boards_compute form_urlencoded_on_literals utf8_lossy utf8_valid_len utf8_error_len is_utf8 chars encode value_in names_given month_named switch_named query_from
queries_compute = tt

-- each parameter has a default
an-empty-query : QueryReads (codes "") (Ok (record {
  root = start;
  plays = [];
  at = start;
  filter = take_all;
  moves = 12;
  top = 4;
  recent = 4;
  history = false;
}))
unfolding queries_compute
an-empty-query = (Ok start, Ok (record { moves = []; at = start }), refl, refl, refl)

-- an escape and a plus sign stand for other bytes, and what is no parameter is passed over
a-move-and-a-speed : QueryReads (codes "play=e2%65%34&speeds=blitz&moves=0&topGames=9&who=a+b&history=true") (Ok (record {
  root = start;
  plays = uci (codes "e2e4") ∷ [];
  at = after start (uci (codes "e2e4"));
  filter = record { speeds = false ∷ false ∷ true ∷ false ∷ false ∷ false ∷ []; groups = replicate 9 true; since = None; until = None };
  moves = 0;
  top = 4;
  recent = 4;
  history = true;
}))
unfolding queries_compute
a-move-and-a-speed =
    let m = uci (codes "e2e4") in
    (Ok start, Ok (record { moves = m ∷ []; at = after start m }), refl, inl (m, Ok (record { moves = []; at = after start m }), a-pawn-goes-two-squares, refl, refl), refl)

-- the second move of the line is not Black's
a-line-that-is-not-played : QueryReads (codes "play=e2e4,e2e4") (Err (bad parameters.Play))
unfolding queries_compute
a-line-that-is-not-played =
    let m = uci (codes "e2e4") in (
      Ok start,
      Err (bad parameters.Play),
      refl,
      inl (m, Err (bad parameters.Play), a-pawn-goes-two-squares, inr (NotLegal, no-second-step, refl), refl),
      refl,
    )
  where
    no-second-step : UciReads (after start (uci (codes "e2e4"))) (codes "e2e4") (Err NotLegal)
    no-second-step m (from, inl (side, onto, to), promotion) = let home = onto.1 in absurd (omega (arith, home))
    no-second-step m (from, inr (other, to), promotion) = none_leads (after start (uci (codes "e2e4"))) 12 28 refl m from to

-- a position, and castling written as the king's move onto its rook
a-line-from-a-position : QueryReads (codes "fen=4k3/8/8/8/8/8/8/4K2R+w+K+-+0+1&play=e1h1&since=2020-01&moves=3") (Ok (record {
  root = a-king-with-a-rook;
  plays = uci (codes "e1g1") ∷ [];
  at = after a-king-with-a-rook (uci (codes "e1g1"));
  filter = record { speeds = replicate 6 true; groups = replicate 9 true; since = Some (record { year = 2020; month = 1 }); until = None };
  moves = 3;
  top = 4;
  recent = 4;
  history = false;
}))
unfolding queries_compute a-king-with-a-rook
a-line-from-a-position =
    let m = uci (codes "e1g1") in
    let p = a-king-with-a-rook in
    let read : FenReads (fen_text p) (Ok p) = written_reads p (valid p refl) in (
      Ok p,
      Ok (record { moves = m ∷ []; at = after p m }),
      inl (p, read, refl),
      inl (m, Ok (record { moves = []; at = after p m }), castling-onto-the-rook, refl, refl),
      refl,
    )

-- a board without kings is none, and where there is no position no line is read
pub no-kings : FenReads (codes "8/8/8/8/8/8/8/8 w - -") (Err (record { field = 1 }))
no-kings = first_1 (codes "8/8/8/8/8/8/8/8 w - -") (λ squares places.
    let same : replicate 64 None ≡ squares = same_Some (replicate 64 None) squares places.0 in
    let one : 0 ≡ 1 = subst (λ (xs : List (Option Piece)). count_by (is_king_of White) xs ≡ 1) (sym same) places.1.0 in
    absurd (omega (arith, one)))

a-position-without-kings : QueryReads (codes "fen=8/8/8/8/8/8/8/8+w+-+-&play=e9&speeds=slow") (Err (bad parameters.Fen))
unfolding queries_compute
a-position-without-kings =
    (Err (bad parameters.Fen), Err (bad parameters.Fen), inr (record { field = 1 }, no-kings, refl), refl, refl)

-- the variant is judged first, then the position, and the rest in its order
another-variant : QueryReads (codes "speeds=slow&fen=8/8/8/8/8/8/8/8+w+-+-&variant=atomic") (Err (bad parameters.Variant))
unfolding queries_compute
another-variant =
    (Err (bad parameters.Fen), Err (bad parameters.Fen), inr (record { field = 1 }, no-kings, refl), refl, refl)

ratings-before-months : QueryReads (codes "until=2020-13&ratings=1500") (Err (bad parameters.Ratings))
unfolding queries_compute
ratings-before-months = (Ok start, Ok (record { moves = []; at = start }), refl, refl, refl)

a-name-twice : QueryReads (codes "fen=&fen=") (Err (bad parameters.Fen))
unfolding queries_compute
a-name-twice = (Err (bad parameters.Fen), Err (bad parameters.Fen), refl, refl, refl)

-- ---- which games a filter takes

-- blitz, the group of 1400, January 2020
a-game : Classes
a-game = record {
  id = record { bytes = codes "abcdEF12" };
  white = record { name = codes "Ann"; rating = 1500 };
  black = record { name = codes "Bob \"B\""; rating = 1400 };
  outcome = outcomes.White;
  mode = Rated;
  speed = Blitz;
  group = record { value = 1400 };
  month = record { year = 2020; month = 1 };
}

-- speeds and groups in their order, and the bounds
takes : List Bool → List Bool → Option Month → Option Month → Bool
takes speeds groups since until = passes (record { speeds = speeds; groups = groups; since = since; until = until }) a-game

all-is-taken : passes take_all a-game ≡ true
unfolding passes a-game
all-is-taken = refl

its-speed-alone : takes (false ∷ false ∷ true ∷ replicate 3 false) (replicate 9 true) None None ≡ true
unfolding takes passes a-game
its-speed-alone = refl

each-other-speed : takes (true ∷ true ∷ false ∷ replicate 3 true) (replicate 9 true) None None ≡ false
unfolding takes passes a-game
each-other-speed = refl

each-other-group : takes (replicate 6 true) (true ∷ true ∷ true ∷ false ∷ replicate 5 true) None None ≡ false
unfolding takes passes a-game
each-other-group = refl

-- both bounds are among the months that are taken
its-month-alone : takes (replicate 6 true) (replicate 9 true) (Some (record { year = 2020; month = 1 })) (Some (record { year = 2020; month = 1 })) ≡ true
unfolding takes passes a-game
its-month-alone = refl

until-the-year-before : takes (replicate 6 true) (replicate 9 true) None (Some (record { year = 2019; month = 12 })) ≡ false
unfolding takes passes a-game
until-the-year-before = refl

-- ---- groups of 512 texts

text : Cut
text = Text (record { place = 0; bytes = [] })

group-lengths : List Cut → List ℕ
group-lengths cuts = map (λ group. length group) (groups cuts)

nothing-has-no-group : group-lengths [] ≡ []
unfolding group-lengths groups
nothing-has-no-group = refl

-- what is no text makes a group of its own where there is no text at all
no-text-at-all : group-lengths (Preamble 0 ∷ []) ≡ 1 ∷ []
unfolding group-lengths groups
no-text-at-all = refl

a-full-group : group-lengths (repeat 512 (text ∷ [])) ≡ 512 ∷ []
unfolding group-lengths groups text
a-full-group = refl

one-text-more : group-lengths (repeat 513 (text ∷ [])) ≡ 512 ∷ 1 ∷ []
unfolding group-lengths groups text
one-text-more = refl

-- between two groups it belongs to the one of the next text, and behind the last text to that of the last
too-long-between-groups : group-lengths (repeat 512 (text ∷ []) ++ (TooLong 9 65537 ∷ text ∷ [])) ≡ 512 ∷ 2 ∷ []
unfolding group-lengths groups text
too-long-between-groups = refl

too-long-at-the-end : group-lengths (repeat 512 (text ∷ []) ++ (TooLong 9 65537 ∷ [])) ≡ 513 ∷ []
unfolding group-lengths groups text
too-long-at-the-end = refl

-- ---- the text of answers

unfoldable answers_compute : ⊤
unfolding boards_compute serde_json_on_literals digits named_body a-game
answers_compute = tt

no-game : answer_body (record { totals = record { white = 0; draws = 0; black = 0 }; moves = []; top = []; recent = []; history = None })
    ≡ codes "{\"black\":0,\"draws\":0,\"moves\":[],\"opening\":null,\"recentGames\":[],\"topGames\":[],\"white\":0}"
unfolding answers_compute
no-game = refl

listed : Listed
listed = record { next = uci (codes "e2e4"); classes = a-game }

-- quotes of a name are escaped (RFC 8259, 7)
a-game-in-json : List ℕ
a-game-in-json =
    codes "{\"black\":{\"name\":\"Bob \\\"B\\\"\",\"rating\":1400},\"id\":\"abcdEF12\",\"mode\":\"rated\",\"month\":\"2020-01\","
    ++ codes "\"speed\":\"blitz\",\"uci\":\"e2e4\",\"white\":{\"name\":\"Ann\",\"rating\":1500},\"winner\":\"white\",\"year\":2020}"

one-game : answer_body (record { totals = record { white = 1; draws = 0; black = 0 }; moves = []; top = listed ∷ []; recent = []; history = None })
    ≡ codes "{\"black\":0,\"draws\":0,\"moves\":[],\"opening\":null,\"recentGames\":[],\"topGames\":["
    ++ a-game-in-json ++ codes "],\"white\":1}"
unfolding answers_compute listed a-game-in-json
one-game = refl

one-move : answer_body (record {
  totals = record { white = 1; draws = 0; black = 0 };
  moves = record { next = uci (codes "e2e4"); san = codes "e4"; average = 1500; totals = record { white = 1; draws = 0; black = 0 }; game = Some listed } ∷ [];
  top = [];
  recent = [];
  history = None;
})
    ≡ codes "{\"black\":0,\"draws\":0,\"moves\":[{\"averageRating\":1500,\"black\":0,\"draws\":0,\"game\":" ++ a-game-in-json
    ++ codes ",\"opening\":null,\"san\":\"e4\",\"uci\":\"e2e4\",\"white\":1}],"
    ++ codes "\"opening\":null,\"recentGames\":[],\"topGames\":[],\"white\":1}"
unfolding answers_compute listed a-game-in-json
one-move = refl

-- the months stand between the draws and the moves
a-history : answer_body (record {
  totals = record { white = 2; draws = 3; black = 11 };
  moves = [];
  top = [];
  recent = [];
  history = Some (record { month = record { year = 1999; month = 12 }; totals = record { white = 2; draws = 3; black = 11 } } ∷ []);
})
    ≡ codes "{\"black\":11,\"draws\":3,\"history\":[{\"black\":11,\"draws\":3,\"month\":\"1999-12\",\"white\":2}],"
    ++ codes "\"moves\":[],\"opening\":null,\"recentGames\":[],\"topGames\":[],\"white\":2}"
unfolding answers_compute
a-history = refl

a-history-without-months : answer_body (record { totals = record { white = 0; draws = 0; black = 0 }; moves = []; top = []; recent = []; history = Some [] })
    ≡ codes "{\"black\":0,\"draws\":0,\"history\":[],\"moves\":[],\"opening\":null,\"recentGames\":[],\"topGames\":[],\"white\":0}"
unfolding answers_compute
a-history-without-months = refl
