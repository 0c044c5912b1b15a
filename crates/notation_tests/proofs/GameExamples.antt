-- What tags and whole texts say of games, worked out on texts whose meaning is known (PGN 8.1, 8.2; the speeds and groups of lichess.org).
use lib.Utf8.{encode}
use Rattle.std.specs.Bool.{⊤}
use Rattle.std.specs.Str.{chars, is_utf8}
use Rattle.std.proofs.Common.{◌≡◌, ℕ, ◌++◌, false, List, [], ◌∷◌, Some, None, Ok, Err, codes, refl, inl, inr}
use Rattle.explorer_model.specs.declared.archive.Classes.{Classes}
use Rattle.explorer_model.specs.declared.archive.Mode.TheVariants.{Rated, Casual}
use Rattle.explorer_model.specs.declared.archive.Outcome.TheVariants as outcomes
use Rattle.explorer_model.specs.declared.archive.Speed.TheVariants.{UltraBullet, Bullet, Blitz, Rapid, Classical, Correspondence}
use Rattle.explorer_model.specs.declared.archive.Tag.{Tag}
use Rattle.explorer_model.specs.declared.fault.TagFault.TheVariants.{Missing, Bad, NotStandard, SetUp, UnknownResult}
use Rattle.explorer_model.specs.declared.fault.TagName.TheVariants as names
use Rattle.explorer_model.specs.declared.chess.Role.TheVariants.{Pawn}
use Rattle.explorer_model.specs.declared.fault.GameFault.TheVariants as faults
use Rattle.explorer_model.specs.declared.fault.SanFault.TheVariants as san
use Rattle.explorer_model.specs.declared.notation.NamedMove.{NamedMove}
use Rattle.explorer_model.specs.Chess.{start}
use Rattle.explorer_model.specs.Games.{tagged, score, GameOf}
use Rattle.explorer_model.specs.Items.{comment_of, ending_of, items, items_from, lead_of, nag_of, name_at, pair_item_of, pair_of, remark_of, string_len, symbol_of, unescaped}
use Rattle.explorer_model.specs.Parts.{meaning, parts}
use Rattle.chess_reference.proofs.Boards.{uci}
use Rattle.notation_tests.proofs.AgreementLemmas.{notation_computes, none_named}
use Rattle.notation_tests.proofs.Examples.{a-pawn-goes-to-e4}
use Rattle.explorer_model.specs.Classes.{Clock, value_of, classes, clock_of, control_of, group_of, id_of, agrees_on_set_up, is_standard, mode_of, month_of, name_of, outcome_of, rating_of, speed_of}

-- ---- tags

tag : List ℕ → List ℕ → Tag
tag name value = record { name = name; value = value }

-- the values that the cases change
tags-of : List ℕ → List ℕ → List ℕ → List ℕ → List Tag
tags-of site result white_rating clock =
    tag (codes "Event") (codes "Rated Blitz game") ∷ tag (codes "Site") site ∷ tag (codes "White") (codes "Ann") ∷ tag (codes "Black") (codes "Bob")
    ∷ tag (codes "Result") result ∷ tag (codes "WhiteElo") white_rating ∷ tag (codes "BlackElo") (codes "1400") ∷ tag (codes "TimeControl") clock
    ∷ tag (codes "UTCDate") (codes "2020.01.31") ∷ []

-- what is unfolded where tags compute
unfoldable tags_compute : ⊤
unfolding tag tags-of classes is_standard agrees_on_set_up mode_of id_of name_of is_utf8 chars encode outcome_of rating_of clock_of speed_of control_of group_of month_of
tags_compute = tt

unfoldable pub ann_and_bob : Classes
ann_and_bob = record {
  id = record { bytes = codes "abcdEF12" };
  white = record { name = codes "Ann"; rating = 1500 };
  black = record { name = codes "Bob"; rating = 1400 };
  outcome = outcomes.White;
  mode = Rated;
  speed = Blitz;
  group = record { value = 1400 };
  month = record { year = 2020; month = 1 };
}

-- 300 seconds and 3 for each of 40 moves are 420: blitz; the mean of 1500 and 1400 is 1450
nine-tags : classes (tags-of (codes "https://lichess.org/abcdEF12") (codes "1-0") (codes "1500") (codes "300+3")) ≡ Ok ann_and_bob
unfolding tags_compute ann_and_bob
nine-tags = refl

-- a variant is told first, whatever else is amiss
another-variant : classes (tag (codes "Variant") (codes "Chess960") ∷ tag (codes "FEN") (codes "8/8/8/8/8/8/8/8 w - -") ∷ []) ≡ Err NotStandard
unfolding tags_compute
another-variant = refl

-- with a set-up position SetUp is absent or 1, and without one absent or 0; whether it is one is not asked here
a-set-up-position : classes (tag (codes "FEN") (codes "8/8/8/8/8/8/8/8 w - -") ∷ []) ≡ Err (Missing names.Event)
unfolding tags_compute
a-set-up-position = refl

a-set-up-position-said-to-be-none : classes (tag (codes "SetUp") (codes "0") ∷ tag (codes "FEN") (codes "4k3/8/8/8/8/8/8/4K3 w - - 0 1") ∷ []) ≡ Err SetUp
unfolding tags_compute
a-set-up-position-said-to-be-none = refl

no-set-up-position : classes (tag (codes "Variant") (codes "From Position") ∷ tag (codes "SetUp") (codes "1") ∷ []) ≡ Err SetUp
unfolding tags_compute
no-set-up-position = refl

no-tags : classes [] ≡ Err (Missing names.Event)
unfolding tags_compute
no-tags = refl

-- the site is asked before the result and the rating, which are off too
a-site-without-an-id : classes (tags-of (codes "London") (codes "2-0") (codes "?") (codes "300+3")) ≡ Err (Bad names.Site)
unfolding tags_compute
a-site-without-an-id = refl

an-unknown-result : classes (tags-of (codes "https://lichess.org/abcdEF12") (codes "*") (codes "?") (codes "300+3")) ≡ Err UnknownResult
unfolding tags_compute
an-unknown-result = refl

no-rating : classes (tags-of (codes "https://lichess.org/abcdEF12") (codes "0-1") (codes "?") (codes "300+")) ≡ Err (Bad names.WhiteElo)
unfolding tags_compute
no-rating = refl

no-increment-behind-the-sign : classes (tags-of (codes "https://lichess.org/abcdEF12") (codes "0-1") (codes "4000") (codes "300+")) ≡ Err (Bad names.TimeControl)
unfolding tags_compute
no-increment-behind-the-sign = refl

-- ---- single values

-- the first counts
a-tag-twice : value_of (codes "White") (tag (codes "White") (codes "Ann") ∷ tag (codes "White") (codes "Eve") ∷ []) ≡ Some (codes "Ann")
unfolding tag
a-tag-twice = refl

clock : ℕ → ℕ → Clock
clock base increment = record { base = base; increment = increment }

-- 30, 180, 480 and 1500 seconds begin the next speed
twenty-nine-seconds : speed_of (clock 29 0) ≡ UltraBullet
unfolding clock speed_of
twenty-nine-seconds = refl

thirty-seconds : speed_of (clock 30 0) ≡ Bullet
unfolding clock speed_of
thirty-seconds = refl

-- 140 and 40 times 1
three-minutes-by-an-increment : speed_of (clock 140 1) ≡ Blitz
unfolding clock speed_of
three-minutes-by-an-increment = refl

one-second-less : speed_of (clock 139 1) ≡ Bullet
unfolding clock speed_of
one-second-less = refl

eight-minutes : speed_of (clock 480 0) ≡ Rapid
unfolding clock speed_of
eight-minutes = refl

twenty-five-minutes : speed_of (clock 1500 0) ≡ Classical
unfolding clock speed_of
twenty-five-minutes = refl

no-clock : control_of (codes "-") ≡ Some Correspondence
unfolding control_of
no-clock = refl

-- the mean is rounded down
just-below-1600 : group_of 1600 1599 ≡ record { value = 1400 }
unfolding group_of
just-below-1600 = refl

at-1600 : group_of 1600 1600 ≡ record { value = 1600 }
unfolding group_of
at-1600 = refl

below-1000 : group_of 999 1000 ≡ record { value = 0 }
unfolding group_of
below-1000 = refl

-- there is no group between 2200 and 2500
at-2400 : group_of 2400 2400 ≡ record { value = 2200 }
unfolding group_of
at-2400 = refl

above-2500 : group_of 4000 4000 ≡ record { value = 2500 }
unfolding group_of
above-2500 = refl

-- the day may be unknown (PGN 8.1.1.3), the month may not
an-unknown-day : month_of (codes "1999.12.??") ≡ Some (record { year = 1999; month = 12 })
unfolding month_of
an-unknown-day = refl

an-unknown-month : month_of (codes "1999.??.??") ≡ None
unfolding month_of
an-unknown-month = refl

a-thirteenth-month : month_of (codes "1999.13.01") ≡ None
unfolding month_of
a-thirteenth-month = refl

hyphens-for-periods : month_of (codes "1999-12-01") ≡ None
unfolding month_of
hyphens-for-periods = refl

a-word-of-any-case : mode_of (codes "RATED Bullet game") ≡ Rated
unfolding mode_of
a-word-of-any-case = refl

another-first-word : mode_of (codes "Hourly rated arena") ≡ Casual
unfolding mode_of
another-first-word = refl

-- ---- whole texts

-- the nine tags of Ann's and Bob's game
unfoldable pub heading-of : List ℕ → List ℕ → List ℕ → List ℕ
heading-of id result date =
    codes "[Event \"Rated Blitz game\"]\n[Site \"https://lichess.org/" ++ id ++ codes "\"]\n"
    ++ codes "[White \"Ann\"]\n[Black \"Bob\"]\n[Result \"" ++ result ++ codes "\"]\n[WhiteElo \"1500\"]\n"
    ++ codes "[BlackElo \"1400\"]\n[TimeControl \"300+3\"]\n[UTCDate \"" ++ date ++ codes "\"]\n\n"

-- 190 bytes
unfoldable pub heading : List ℕ
heading = heading-of (codes "abcdEF12") (codes "1-0") (codes "2020.01.31")

-- what is unfolded where texts compute
unfoldable pub texts_compute : ⊤
unfolding tags_compute heading-of heading tagged score parts meaning items items_from lead_of comment_of remark_of nag_of pair_item_of pair_of name_at string_len unescaped symbol_of ending_of
texts_compute = tt

a-game-without-moves : GameOf (heading ++ codes "1-0\n") (Ok (record { classes = ann_and_bob; root = start; moves = [] }))
unfolding texts_compute ann_and_bob
a-game-without-moves = (_, (Ok start, refl, refl), (Ok [], refl, refl))

pub a-game-of-one-move : GameOf (heading ++ codes "1. e4 1-0\n") (Ok (record { classes = ann_and_bob; root = start; moves = uci (codes "e2e4") ∷ [] }))
unfolding texts_compute ann_and_bob
a-game-of-one-move =
    let m = uci (codes "e2e4") in
    (_, (Ok start, refl, refl), (Ok (m ∷ []), inl (m, Ok [], a-pawn-goes-to-e4, refl, refl), refl))

-- the second token, 6 bytes behind the heading, is no SAN
no-move-at-ply-2 : GameOf (heading ++ codes "1. e4 e9 1-0\n") (Err (faults.NotSan 2 196))
unfolding texts_compute
no-move-at-ply-2 =
    let m = uci (codes "e2e4") in
    let fault = faults.NotSan 2 196 in
    (_, (Ok start, refl, refl), (Err fault, inl (m, Err fault, a-pawn-goes-to-e4, inr (san.NotSan, refl, refl), refl), refl))

-- no pawn gets to e5 in one move
an-illegal-first-move : GameOf (heading ++ codes "1. e5 1-0\n") (Err (faults.Illegal 1 193))
unfolding texts_compute notation_computes
an-illegal-first-move =
    let form : NamedMove = record { role = Pawn; file = None; rank = None; captures = false; target = 36; promotion = None } in
    (_, (Ok start, refl, refl), (Err (faults.Illegal 1 193), inr (san.NoSuchMove, none_named start form refl, refl), refl))

-- what the moves are is not asked where the text has no termination, or another one than its result
a-text-that-is-cut-off : GameOf (heading ++ codes "1. e9\n") (Err faults.NoTermination)
unfolding texts_compute
a-text-that-is-cut-off = (_, (Ok start, refl, refl), refl)

another-result : GameOf (heading ++ codes "1. e9 0-1\n") (Err faults.ResultDiffers)
unfolding texts_compute
another-result = (_, (Ok start, refl, refl), refl)

-- nor are the tags where a comment is not closed
an-open-comment : GameOf (codes "[Event \"a\"]\n{ 1-0\n") (Err (faults.Lex 12))
unfolding texts_compute
an-open-comment = (_, refl, refl)

no-tags-at-all : GameOf (codes "1. e4 1-0\n") (Err (faults.Tag (Missing names.Event)))
unfolding texts_compute
no-tags-at-all = (_, refl, refl)
