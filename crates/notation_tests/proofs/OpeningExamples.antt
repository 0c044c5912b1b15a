-- Files of openings, and the names that they give, worked out by hand on lines that every player knows.
use lib.Utf8.{encode}
use Rattle.std.specs.Bool.{⊤}
use Rattle.std.specs.Fmt.{digits}
use Rattle.std.specs.List.{repeat}
use Rattle.std.specs.Str.{chars, is_utf8}
use Rattle.serde_json.proofs.OnLiterals.{serde_json_on_literals}
use Rattle.std.proofs.Common.{◌≡◌, ℕ, ◌++◌, true, false, List, [], ◌∷◌, Some, None, Ok, Err, codes, refl, inl, inr}
use Rattle.explorer_model.specs.declared.answer.Found.{Found}
use Rattle.explorer_model.specs.declared.chess.Move.{Move}
use Rattle.explorer_model.specs.declared.chess.Position.{Position}
use Rattle.explorer_model.specs.declared.chess.Role.TheVariants.{Pawn}
use Rattle.explorer_model.specs.declared.fault.SanFault.TheVariants as san
use Rattle.explorer_model.specs.declared.notation.NamedMove.{NamedMove}
use Rattle.explorer_model.specs.declared.opening.BookCause.{BookCause}
use Rattle.explorer_model.specs.declared.opening.BookCause.TheVariants.{NotThree, NotUtf8, TooLong, BadMove}
use Rattle.explorer_model.specs.declared.opening.BookFault.{BookFault}
use Rattle.explorer_model.specs.declared.opening.Opening.{Opening}
use Rattle.explorer_model.specs.declared.query.Query.{Query}
use Rattle.explorer_model.specs.Answer.{named_body}
use Rattle.explorer_model.specs.Chess.{after, start, Same}
use Rattle.explorer_model.specs.Counting.{take_all}
use Rattle.explorer_model.specs.Openings.{is_passed, lines_of, without_number, words_of, BookReads, IsNaming, NamedPosition, OpeningOf}
use Rattle.chess_reference.proofs.Boards.{boards_compute, uci}
use Rattle.chess_reference.proofs.DecisionLemmas.{apart_by, same_by}
use Rattle.notation_tests.proofs.AgreementLemmas.{none_named, notation_computes}
use Rattle.notation_tests.proofs.Examples.{a-pawn-goes-to-e4}
use Rattle.notation_tests.proofs.FoundExamples.{d4, d4-is-read, e4, itself}

-- ---- lines

-- a byte 13 before the end of a line goes, one alone, and none of the last line, which has no end
the-lines-of-a-file : lines_of (codes "a\r\n\n\r\n\rb\r\r\nc\r") ≡ codes "a" ∷ [] ∷ [] ∷ codes "\rb\r" ∷ codes "c\r" ∷ []
unfolding lines_of
the-lines-of-a-file = refl

an-end-with-nothing-behind : lines_of (codes "a\n") ≡ codes "a" ∷ [] ∷ []
unfolding lines_of
an-end-with-nothing-behind = refl

a-header : is_passed 1 (codes "eco\tname\tpgn") ≡ true
unfolding is_passed
a-header = refl

a-header-below-the-first-line : is_passed 2 (codes "eco\tname\tpgn") ≡ false
unfolding is_passed
a-header-below-the-first-line = refl

a-header-with-spaces : is_passed 1 (codes "eco name pgn") ≡ false
unfolding is_passed
a-header-with-spaces = refl

-- ---- words

-- digits and periods go where both are there, and what is empty then is no word
numbers-of-moves : words_of (codes " 1. e4  1...c5 2.Nf3 d6 3. ") ≡ codes "e4" ∷ codes "c5" ∷ codes "Nf3" ∷ codes "d6" ∷ []
unfolding words_of without_number
numbers-of-moves = refl

-- once, and neither of the two alone
no-numbers-of-moves : words_of (codes "1.2.e4 12 .e4 ...") ≡ codes "2.e4" ∷ codes "12" ∷ codes ".e4" ∷ codes "..." ∷ []
unfolding words_of without_number
no-numbers-of-moves = refl

no-words : words_of [] ≡ []
unfolding words_of without_number
no-words = refl

-- ---- files

kings-pawn : Opening
kings-pawn = record { eco = codes "B00"; name = codes "King's Pawn Game" }

queens-pawn : Opening
queens-pawn = record { eco = codes "A40"; name = codes "Queen's Pawn Game" }

named : Position → Opening → NamedPosition
named p opening = record { position = p; opening = opening }

-- what is unfolded where files compute
unfoldable books_compute : ⊤
unfolding boards_compute lines_of is_passed words_of without_number is_utf8 chars encode e4 d4 kings-pawn queens-pawn named
books_compute = tt

no-file-names-nothing : BookReads [] (Ok [])
unfolding books_compute
no-file-names-nothing = refl

-- a header and an empty line are passed over, and the last line needs no end
two-openings : BookReads (codes "eco\tname\tpgn\r\nB00\tKing's Pawn Game\t1. e4\r\n\nA40\tQueen's Pawn Game\t1. d4")
    (Ok (named (after start e4) kings-pawn ∷ named (after start d4) queens-pawn ∷ []))
unfolding books_compute
two-openings = inl (
  named (after start e4) kings-pawn,
  Ok (named (after start d4) queens-pawn ∷ []),
  (Some (after start e4), inl (e4, a-pawn-goes-to-e4, refl), refl),
  inl (named (after start d4) queens-pawn, Ok [], (Some (after start d4), inl (d4, d4-is-read, refl), refl), refl, refl),
  refl,
)

-- no move is needed
the-start-has-a-name : BookReads (codes "\tStart\t") (Ok (named start (record { eco = []; name = codes "Start" }) ∷ []))
unfolding books_compute
the-start-has-a-name =
    inl (named start (record { eco = []; name = codes "Start" }), Ok [], (Some start, refl, refl), refl, refl)

refused-at : ℕ → BookCause → BookFault
refused-at line cause = record { line = line; cause = cause }

one-tab : BookReads (codes "B00\t1. e4\n") (Err (refused-at 1 NotThree))
unfolding books_compute refused-at
one-tab = inr (NotThree, refl, refl)

three-tabs : BookReads (codes "B00\tKing's Pawn Game\t1. e4\t") (Err (refused-at 1 NotThree))
unfolding books_compute refused-at
three-tabs = inr (NotThree, refl, refl)

-- byte 255 stands in no UTF-8; that the move is none is not looked at
a-name-that-is-not-utf8 : BookReads (codes "B00\tKing" ++ (255 ∷ codes "s Pawn Game\t1. e9\n")) (Err (refused-at 1 NotUtf8))
unfolding books_compute refused-at
a-name-that-is-not-utf8 = inr (NotUtf8, refl, refl)

a-code-that-is-not-utf8 : BookReads (128 ∷ codes "\tKing's Pawn Game\t1. e4\n") (Err (refused-at 1 NotUtf8))
unfolding books_compute refused-at
a-code-that-is-not-utf8 = inr (NotUtf8, refl, refl)

-- 65 words, whatever they are
too-many-moves : BookReads (codes "B00\tKing's Pawn Game\t" ++ repeat 65 (codes " e9")) (Err (refused-at 1 TooLong))
unfolding books_compute refused-at
too-many-moves = inr (TooLong, refl, refl)

-- with one less they are moves, and the first is none
no-move-among-64 : BookReads (codes "B00\tKing's Pawn Game\t" ++ repeat 64 (codes " e9")) (Err (refused-at 1 BadMove))
unfolding books_compute refused-at
no-move-among-64 = inr (BadMove, (None, inr (san.NotSan, refl, refl), refl), refl)

-- no pawn gets to e5 in one move
an-illegal-first-move : BookReads (codes "B00\tKing's Pawn Game\t1. e5\n") (Err (refused-at 1 BadMove))
unfolding books_compute notation_computes refused-at
an-illegal-first-move =
    let form : NamedMove = record { role = Pawn; file = None; rank = None; captures = false; target = 36; promotion = None } in
    inr (BadMove, (None, inr (san.NoSuchMove, none_named start form refl, refl), refl), refl)

-- the byte 13 of a last line without an end is part of a word
a-byte-13-at-the-end : BookReads (codes "B00\tKing's Pawn Game\t1. e4 \r") (Err (refused-at 1 BadMove))
unfolding books_compute refused-at
a-byte-13-at-the-end =
    inr (BadMove, (None, inl (e4, a-pawn-goes-to-e4, inr (san.NotSan, refl, refl)), refl), refl)

-- empty lines and the header have numbers, and the first line with a fault is told
the-first-faulty-line : BookReads (codes "eco\tname\tpgn\n\nB00\tKing's Pawn Game\t1. e4\nB00\nA40\tQueen's Pawn Game\t1. d9\n")
    (Err (refused-at 4 NotThree))
unfolding books_compute refused-at
the-first-faulty-line = inl (
  named (after start e4) kings-pawn,
  Err (refused-at 4 NotThree),
  (Some (after start e4), inl (e4, a-pawn-goes-to-e4, refl), refl),
  inr (NotThree, refl, refl),
  refl,
)

-- ---- which line names a position

another-name : Opening
another-name = record { eco = codes "B01"; name = codes "Another name" }

a-book : List NamedPosition
a-book = named (after start e4) kings-pawn ∷ named (after start d4) queens-pawn ∷ named (after start e4) another-name ∷ []

the-first-line-wins : OpeningOf a-book (after start e4) (Some kings-pawn)
unfolding a-book named
the-first-line-wins = inl (itself (after start e4), refl)

-- square 12 is e2
a-later-line : OpeningOf a-book (after start d4) (Some queens-pawn)
unfolding books_compute a-book
a-later-line = inr (apart_by (after start e4) (after start d4) 12 refl refl, inl (itself (after start d4), refl))

no-line : OpeningOf [] start None
no-line = refl

-- 1. d4 Nf6 2. c4 and 1. c4 Nf6 2. d4: the pawns went over other squares, and none can take there
by-d4 : Position
by-d4 = after (after (after start (uci (codes "d2d4"))) (uci (codes "g8f6"))) (uci (codes "c2c4"))

by-c4 : Position
by-c4 = after (after (after start (uci (codes "c2c4"))) (uci (codes "g8f6"))) (uci (codes "d2d4"))

indian : Opening
indian = record { eco = codes "E00"; name = codes "Indian Defense" }

a-transposition : OpeningOf (named by-d4 indian ∷ []) by-c4 (Some indian)
unfolding books_compute by-d4 by-c4 indian
a-transposition = inl (same_by by-d4 by-c4 refl refl refl refl refl, refl)

-- ---- what an answer names

asked-behind : List Move → Position → Query
asked-behind plays at = record { root = start; plays = plays; at = at; filter = take_all; moves = 12; top = 4; recent = 4; history = false }

-- at the start only a move has a name
a-move-has-a-name : IsNaming (named (after start e4) kings-pawn ∷ []) (asked-behind [] start) (e4 ∷ d4 ∷ [])
    (record { whole = None; moves = Some kings-pawn ∷ None ∷ [] })
unfolding books_compute asked-behind
a-move-has-a-name = record {
  whole = (None, None, inr (apart_by (after start e4) start 12 refl refl, refl), refl, refl);
  moves = (
    inl (itself (after start e4), refl),
    (inr (apart_by (after start e4) (after start d4) 12 refl refl, refl), tt),
  );
}

-- 1. e4 c5 has the name of 1. e4
c5 : Move
c5 = uci (codes "c7c5")

the-last-name-on-the-way : IsNaming (named (after start e4) kings-pawn ∷ []) (asked-behind (e4 ∷ c5 ∷ []) (after (after start e4) c5)) []
    (record { whole = Some kings-pawn; moves = [] })
unfolding books_compute asked-behind c5
the-last-name-on-the-way = record {
  whole = (
    None,
    Some kings-pawn,
    inr (apart_by (after start e4) start 12 refl refl, refl),
    (
      Some kings-pawn,
      None,
      inl (itself (after start e4), refl),
      (None, None, inr (not-behind-c5, refl), refl, refl),
      refl,
    ),
    refl,
  );
  moves = tt;
}
  where
    -- square 34 is c5
    not-behind-c5 : ¬ Same (after start e4) (after (after start e4) c5)
    not-behind-c5 = apart_by (after start e4) (after (after start e4) c5) 34 refl refl

-- of two names on the way the later one is told
a-name-for-the-start : NamedPosition
a-name-for-the-start = named start queens-pawn

the-later-of-two : IsNaming (a-name-for-the-start ∷ named (after start e4) kings-pawn ∷ []) (asked-behind (e4 ∷ []) (after start e4)) []
    (record { whole = Some kings-pawn; moves = [] })
unfolding books_compute asked-behind a-name-for-the-start
the-later-of-two = record {
  whole = (
    Some queens-pawn,
    Some kings-pawn,
    inl (itself start, refl),
    (
      Some kings-pawn,
      None,
      inr (apart-from-start, inl (itself (after start e4), refl)),
      refl,
      refl,
    ),
    refl,
  );
  moves = tt;
}
  where
    -- square 28 is e4
    apart-from-start : ¬ Same start (after start e4)
    apart-from-start = apart_by start (after start e4) 28 refl refl

-- ---- how names are written

unfoldable bodies_compute : ⊤
unfolding boards_compute serde_json_on_literals digits named_body e4 kings-pawn
bodies_compute = tt

unfoldable one-move : Found
one-move = record {
  totals = record { white = 1; draws = 0; black = 0 };
  moves = record { next = e4; san = codes "e4"; average = 1500; totals = record { white = 2; draws = 0; black = 0 }; game = None } ∷ [];
  top = [];
  recent = [];
  history = None;
}

body-with : List ℕ → List ℕ → List ℕ
body-with move whole =
    codes "{\"black\":0,\"draws\":0,\"moves\":[{\"averageRating\":1500,\"black\":0,\"draws\":0,\"game\":null,\"opening\":" ++ move
    ++ codes ",\"san\":\"e4\",\"uci\":\"e2e4\",\"white\":2}],\"opening\":" ++ whole ++ codes ",\"recentGames\":[],\"topGames\":[],\"white\":1}"

a-name-of-a-move : named_body one-move (record { whole = None; moves = Some kings-pawn ∷ [] })
    ≡ body-with (codes "{\"eco\":\"B00\",\"name\":\"King's Pawn Game\"}") (codes "null")
unfolding bodies_compute one-move body-with
a-name-of-a-move = refl

-- quotes are escaped (RFC 8259, 7)
a-name-of-the-whole : named_body one-move (record { whole = Some (record { eco = []; name = codes "\"X\"" }); moves = None ∷ [] })
    ≡ body-with (codes "null") (codes "{\"eco\":\"\",\"name\":\"\\\"X\\\"\"}")
unfolding bodies_compute one-move body-with
a-name-of-the-whole = refl
