-- The definitions of chess, worked out on small boards and on positions that every player knows (FIDE Laws of Chess in force from
-- 1 January 2023). Squares are numbers: a1 is 0, h1 is 7, a2 is 8.
use Rattle.std.proofs.Common.{Bool, true, false, take, is_none, ◌++◌, replicate, subst, ◌≡◌, ℕ, List, [], ◌∷◌, map, lit<, Some, None, codes, refl, ap, inl, inr, arith, true≢false}
use Rattle.std.specs.List.{list_all, repeat}
use Rattle.std.proofs.lemmas.Bool.{and_parts}
use Rattle.std.proofs.lemmas.Bool.Decides.{not_from_Decides}
use Rattle.explorer_model.specs.declared.archive.Classes.{Classes}
use Rattle.explorer_model.specs.declared.archive.Game.{Game}
use Rattle.explorer_model.specs.declared.chess.Color.{Color}
use Rattle.explorer_model.specs.declared.chess.Color.TheVariants.{White, Black}
use Rattle.explorer_model.specs.declared.chess.Move.{Move}
use Rattle.explorer_model.specs.declared.chess.Position.{Position}
use Rattle.explorer_model.specs.declared.chess.Rights.{Rights}
use Rattle.explorer_model.specs.declared.chess.Side.TheVariants.{Short}
use Rattle.explorer_model.specs.Board.{piece_at, Attacks, InCheck}
use Rattle.explorer_model.specs.Chess.{CanCaptureEnPassant, IsSquare, after, is_color, start, start_squares, IsValid, Legal, PseudoLegal, Same}
use Rattle.explorer_model.specs.Fen.{fen_text}
use Rattle.explorer_model.specs.Keys.{key}
use Rattle.explorer_model.specs.Tidy.{IsTidied}
use Rattle.explorer_model.specs.Visits.{IsGameAt, Stage, stages, FirstVisit}
use Rattle.chess_reference.proofs.Boards.{boards_compute, fen, uci}
use Rattle.chess_reference.proofs.DecisionLemmas.{no_en_passant, apart_by, decides-attacks, decides-in_check, decides-legal, decides-pseudo_legal, same_by, valid}

-- ---- attacks (3.2 to 3.8.1)

a-knight-leaps : Attacks start_squares 1 18
unfolding boards_compute
a-knight-leaps = (decides-attacks start_squares 1 18).0 refl

-- what stands on the square is not asked: here it is a pawn of its own
a-rook-attacks-what-stands-next : Attacks start_squares 0 8
unfolding boards_compute
a-rook-attacks-what-stands-next = (decides-attacks start_squares 0 8).0 refl

a-rook-does-not-attack-behind-it : ¬ Attacks start_squares 0 16
unfolding boards_compute
a-rook-does-not-attack-behind-it = not_from_Decides _ (decides-attacks start_squares 0 16) refl

a-pawn-attacks-diagonally : Attacks start_squares 12 19
unfolding boards_compute
a-pawn-attacks-diagonally = (decides-attacks start_squares 12 19).0 refl

a-pawn-does-not-attack-ahead : ¬ Attacks start_squares 12 20
unfolding boards_compute
a-pawn-does-not-attack-ahead = not_from_Decides _ (decides-attacks start_squares 12 20) refl

-- from e7 to d6, and not to d8
blacks-pawns-go-down : Attacks start_squares 52 43
unfolding boards_compute
blacks-pawns-go-down = (decides-attacks start_squares 52 43).0 refl

blacks-pawns-do-not-go-up : ¬ Attacks start_squares 52 59
unfolding boards_compute
blacks-pawns-do-not-go-up = not_from_Decides _ (decides-attacks start_squares 52 59) refl

nothing-attacks-nothing : ¬ Attacks start_squares 28 36
unfolding boards_compute
nothing-attacks-nothing = not_from_Decides _ (decides-attacks start_squares 28 36) refl

-- ---- check (3.9.1)

in-check : Color → List ℕ → Type 0
in-check color text = InCheck (fen text).squares color

-- 1. f3 e5 2. g4 Qh4#
the-fools-mate-is-check : in-check White (codes "rnb1kbnr/pppp1ppp/8/4p3/6Pq/5P2/PPPPP2P/RNBQKBNR w KQkq -")
unfolding boards_compute in-check
the-fools-mate-is-check = (decides-in_check (fen (codes "rnb1kbnr/pppp1ppp/8/4p3/6Pq/5P2/PPPPP2P/RNBQKBNR w KQkq -")).squares White).0 refl

a-piece-between-is-no-check : ¬ in-check White (codes "4k3/8/8/8/4r3/4N3/8/4K3 w - -")
unfolding boards_compute in-check
a-piece-between-is-no-check = not_from_Decides _ (decides-in_check (fen (codes "4k3/8/8/8/4r3/4N3/8/4K3 w - -")).squares White) refl

a-rook-on-an-open-file-is : in-check White (codes "4k3/8/8/8/4r3/8/8/4K3 w - -")
unfolding boards_compute in-check
a-rook-on-an-open-file-is = (decides-in_check (fen (codes "4k3/8/8/8/4r3/8/8/4K3 w - -")).squares White).0 refl

-- a pinned piece attacks all the same (3.1.3): the knight on f3 may not leave the king on e2 to the bishop on h5
a-pinned-piece-gives-check : in-check Black (codes "8/8/8/7b/3k4/5N2/4K3/8 b - -")
unfolding boards_compute in-check
a-pinned-piece-gives-check = (decides-in_check (fen (codes "8/8/8/7b/3k4/5N2/4K3/8 b - -")).squares Black).0 refl

-- ---- moves before it is asked whether they leave the king attacked

pseudo-legal : List ℕ → List ℕ → Type 0
pseudo-legal text move = PseudoLegal (fen text) (uci move)

-- over a piece no pawn goes two squares
a-pawn-that-is-blocked : ¬ pseudo-legal (codes "4k3/8/8/8/8/4n3/4P3/4K3 w - -") (codes "e2e4")
unfolding boards_compute pseudo-legal
a-pawn-that-is-blocked = not_from_Decides _ (decides-pseudo_legal (fen (codes "4k3/8/8/8/8/4n3/4P3/4K3 w - -")) (uci (codes "e2e4"))) refl

a-pawn-takes-diagonally : pseudo-legal (codes "4k3/8/8/8/8/3n4/4P3/4K3 w - -") (codes "e2d3")
unfolding boards_compute pseudo-legal
a-pawn-takes-diagonally = (decides-pseudo_legal (fen (codes "4k3/8/8/8/8/3n4/4P3/4K3 w - -")) (uci (codes "e2d3"))).0 refl

-- on its last rank a pawn is replaced (3.7.3.3)
a-pawn-stays-no-pawn : ¬ pseudo-legal (codes "8/4P2k/8/8/8/8/8/4K3 w - -") (codes "e7e8")
unfolding boards_compute pseudo-legal
a-pawn-stays-no-pawn = not_from_Decides _ (decides-pseudo_legal (fen (codes "8/4P2k/8/8/8/8/8/4K3 w - -")) (uci (codes "e7e8"))) refl

a-pawn-becomes-a-knight : pseudo-legal (codes "8/4P2k/8/8/8/8/8/4K3 w - -") (codes "e7e8n")
unfolding boards_compute pseudo-legal
a-pawn-becomes-a-knight = (decides-pseudo_legal (fen (codes "8/4P2k/8/8/8/8/8/4K3 w - -")) (uci (codes "e7e8n"))).0 refl

-- a knight on b1 stands between the king and its rook, though the king does not cross it
castling-past-a-piece : ¬ pseudo-legal (codes "4k3/8/8/8/8/8/8/RN2K3 w Q -") (codes "e1c1")
unfolding boards_compute pseudo-legal
castling-past-a-piece = not_from_Decides _ (decides-pseudo_legal (fen (codes "4k3/8/8/8/8/8/8/RN2K3 w Q -")) (uci (codes "e1c1"))) refl

onto-a-piece-of-its-own : ¬ pseudo-legal (codes "rnbqkbnr/pppppppp/8/8/8/8/PPPPPPPP/RNBQKBNR w KQkq -") (codes "a1a2")
unfolding boards_compute pseudo-legal
onto-a-piece-of-its-own = not_from_Decides _ (decides-pseudo_legal (fen (codes "rnbqkbnr/pppppppp/8/8/8/8/PPPPPPPP/RNBQKBNR w KQkq -")) (uci (codes "a1a2"))) refl

-- ---- what moves leave, as FEN writes it with the counts `0 1`

left-by : List ℕ → List ℕ → List ℕ
left-by move text = fen_text (after (fen text) (uci move))

-- the squares that pawns have crossed, as in PGN 16.1.4
e4-leaves : left-by (codes "e2e4") (codes "rnbqkbnr/pppppppp/8/8/8/8/PPPPPPPP/RNBQKBNR w KQkq -")
    ≡ codes "rnbqkbnr/pppppppp/8/8/4P3/8/PPPP1PPP/RNBQKBNR b KQkq e3 0 1"
unfolding boards_compute left-by
e4-leaves = refl

c5-leaves : left-by (codes "c7c5") (codes "rnbqkbnr/pppppppp/8/8/4P3/8/PPPP1PPP/RNBQKBNR b KQkq e3")
    ≡ codes "rnbqkbnr/pp1ppppp/8/2p5/4P3/8/PPPP1PPP/RNBQKBNR w KQkq c6 0 1"
unfolding boards_compute left-by
c5-leaves = refl

nf3-leaves : left-by (codes "g1f3") (codes "rnbqkbnr/pp1ppppp/8/2p5/4P3/8/PPPP1PPP/RNBQKBNR w KQkq c6")
    ≡ codes "rnbqkbnr/pp1ppppp/8/2p5/4P3/5N2/PPPP1PPP/RNBQKB1R b KQkq - 0 1"
unfolding boards_compute left-by
nf3-leaves = refl

-- the rook goes to the square that the king crossed (3.8.2), and both rights are gone
castling-short-leaves : left-by (codes "e1g1") (codes "r3k2r/8/8/8/8/8/8/R3K2R w KQkq -") ≡ codes "r3k2r/8/8/8/8/8/8/R4RK1 b kq - 0 1"
unfolding boards_compute left-by
castling-short-leaves = refl

castling-long-leaves : left-by (codes "e8c8") (codes "r3k2r/8/8/8/8/8/8/R3K2R b KQkq -") ≡ codes "2kr3r/8/8/8/8/8/8/R3K2R w KQ - 0 1"
unfolding boards_compute left-by
castling-long-leaves = refl

-- a rook that takes a rook on its first square: each side loses the right
a-rook-takes-a-rook : left-by (codes "h1h8") (codes "r3k2r/8/8/8/8/8/8/R3K2R w KQkq -") ≡ codes "r3k2R/8/8/8/8/8/8/R3K3 b Qq - 0 1"
unfolding boards_compute left-by
a-rook-takes-a-rook = refl

-- the pawn beside it is taken (3.7.3.2)
en-passant-leaves : left-by (codes "e5d6") (codes "4k3/8/8/3pP3/8/8/8/4K3 w - d6") ≡ codes "4k3/8/3P4/8/8/8/8/4K3 b - - 0 1"
unfolding boards_compute left-by
en-passant-leaves = refl

a-promotion-leaves : left-by (codes "e7d8q") (codes "3r3k/4P3/8/8/8/8/8/4K3 w - -") ≡ codes "3Q3k/8/8/8/8/8/8/4K3 b - - 0 1"
unfolding boards_compute left-by
a-promotion-leaves = refl

-- ---- legal moves (3.8.2.2, 3.9, 3.10.1)

legal : List ℕ → List ℕ → Type 0
legal text move = Legal (fen text) (uci move)

a-pawn-is-taken-en-passant : legal (codes "4k3/8/8/3pP3/8/8/8/4K3 w - d6") (codes "e5d6")
unfolding boards_compute legal
a-pawn-is-taken-en-passant = (decides-legal (fen (codes "4k3/8/8/3pP3/8/8/8/4K3 w - d6")) (uci (codes "e5d6"))).0 refl

-- a move later the right is lost
no-longer-en-passant : ¬ legal (codes "4k3/8/8/3pP3/8/8/8/4K3 w - -") (codes "e5d6")
unfolding boards_compute legal
no-longer-en-passant = not_from_Decides _ (decides-legal (fen (codes "4k3/8/8/3pP3/8/8/8/4K3 w - -")) (uci (codes "e5d6"))) refl

-- both pawns would leave the rank between the king on a5 and the rook on h5
two-pawns-leave-one-rank : ¬ legal (codes "4k3/8/8/K2pP2r/8/8/8/8 w - d6") (codes "e5d6")
unfolding boards_compute legal
two-pawns-leave-one-rank = not_from_Decides _ (decides-legal (fen (codes "4k3/8/8/K2pP2r/8/8/8/8 w - d6")) (uci (codes "e5d6"))) refl

-- the rook on e2 stands between its king and the rook on e8
a-pinned-rook-leaves-the-file : ¬ legal (codes "k3r3/8/8/8/8/8/4R3/4K3 w - -") (codes "e2a2")
unfolding boards_compute legal
a-pinned-rook-leaves-the-file = not_from_Decides _ (decides-legal (fen (codes "k3r3/8/8/8/8/8/4R3/4K3 w - -")) (uci (codes "e2a2"))) refl

a-pinned-rook-takes : legal (codes "k3r3/8/8/8/8/8/4R3/4K3 w - -") (codes "e2e8")
unfolding boards_compute legal
a-pinned-rook-takes = (decides-legal (fen (codes "k3r3/8/8/8/8/8/4R3/4K3 w - -")) (uci (codes "e2e8"))).0 refl

-- a king in check from e8 stays on the line behind its own square
a-king-steps-back-on-the-line : ¬ legal (codes "k3r3/8/8/8/8/8/4K3/8 w - -") (codes "e2e1")
unfolding boards_compute legal
a-king-steps-back-on-the-line = not_from_Decides _ (decides-legal (fen (codes "k3r3/8/8/8/8/8/4K3/8 w - -")) (uci (codes "e2e1"))) refl

-- f1 is attacked, which the king crosses
castling-over-an-attack : ¬ legal (codes "4kr2/8/8/8/8/8/8/4K2R w K -") (codes "e1g1")
unfolding boards_compute legal
castling-over-an-attack = not_from_Decides _ (decides-legal (fen (codes "4kr2/8/8/8/8/8/8/4K2R w K -")) (uci (codes "e1g1"))) refl

castling-out-of-check : ¬ legal (codes "4k3/8/8/8/4r3/8/8/4K2R w K -") (codes "e1g1")
unfolding boards_compute legal
castling-out-of-check = not_from_Decides _ (decides-legal (fen (codes "4k3/8/8/8/4r3/8/8/4K2R w K -")) (uci (codes "e1g1"))) refl

-- b1 is attacked, which the rook alone crosses
a-rook-crosses-an-attack : legal (codes "1r2k3/8/8/8/8/8/8/R3K3 w Q -") (codes "e1c1")
unfolding boards_compute legal
a-rook-crosses-an-attack = (decides-legal (fen (codes "1r2k3/8/8/8/8/8/8/R3K3 w Q -")) (uci (codes "e1c1"))).0 refl

-- ---- valid positions

two-kings-are-valid : IsValid (fen (codes "4k3/8/8/8/8/8/8/4K3 w - -"))
unfolding boards_compute
two-kings-are-valid = valid (fen (codes "4k3/8/8/8/8/8/8/4K3 w - -")) refl

-- 1. e4 c5 2. Nf3
an-opening-is-valid : IsValid (fen (codes "rnbqkbnr/pp1ppppp/8/2p5/4P3/5N2/PPPP1PPP/RNBQKB1R b KQkq -"))
unfolding boards_compute
an-opening-is-valid = valid (fen (codes "rnbqkbnr/pp1ppppp/8/2p5/4P3/5N2/PPPP1PPP/RNBQKB1R b KQkq -")) refl

a-crossed-square-is-valid : IsValid (fen (codes "rnbqkbnr/pppppppp/8/8/4P3/8/PPPP1PPP/RNBQKBNR b KQkq e3"))
unfolding boards_compute
a-crossed-square-is-valid = valid (fen (codes "rnbqkbnr/pppppppp/8/8/4P3/8/PPPP1PPP/RNBQKBNR b KQkq e3")) refl

a-pawn-on-the-last-rank : ¬ IsValid (fen (codes "P3k3/8/8/8/8/8/8/4K3 w - -"))
unfolding boards_compute
a-pawn-on-the-last-rank h = (h.pawns 56 (lit< tt) refl).1 refl

two-kings-of-one-side : ¬ IsValid (fen (codes "4k3/8/8/8/8/8/8/3KK3 w - -"))
unfolding boards_compute
two-kings-of-one-side h = let one = h.white.0 in absurd (omega (arith, one))

-- White is to move and could take the king
the-other-side-in-check : ¬ IsValid (fen (codes "4k3/8/8/8/8/8/8/K3R3 w - -"))
unfolding boards_compute
the-other-side-in-check h =
    h.not_in_check ((decides-in_check (fen (codes "4k3/8/8/8/8/8/8/K3R3 w - -")).squares Black).0 refl)

a-right-without-a-rook : ¬ IsValid (fen (codes "4k3/8/8/8/8/8/8/4K3 w K -"))
unfolding boards_compute
a-right-without-a-rook h = (h.rights White Short refl).1

-- no pawn stands on d5 that could have crossed d6
no-pawn-has-crossed : ¬ IsValid (fen (codes "4k3/8/8/4P3/8/8/8/4K3 w - d6"))
unfolding boards_compute
no-pawn-has-crossed h = (h.en_passant 43 refl).3

-- ---- the same position (9.2.3)

-- no pawn of Black's stands beside e4
a-crossed-square-where-nothing-takes : Same (fen (codes "rnbqkbnr/pppppppp/8/8/4P3/8/PPPP1PPP/RNBQKBNR b KQkq e3")) (fen (codes "rnbqkbnr/pppppppp/8/8/4P3/8/PPPP1PPP/RNBQKBNR b KQkq -"))
unfolding boards_compute
a-crossed-square-where-nothing-takes =
    same_by (fen (codes "rnbqkbnr/pppppppp/8/8/4P3/8/PPPP1PPP/RNBQKBNR b KQkq e3"))
    (fen (codes "rnbqkbnr/pppppppp/8/8/4P3/8/PPPP1PPP/RNBQKBNR b KQkq -")) refl refl refl refl refl

-- the pawn on d4 is pinned to its king by the rook on d1
a-pawn-that-may-not-take : Same (fen (codes "3k4/8/8/8/3pP3/8/8/3RK3 b - e3")) (fen (codes "3k4/8/8/8/3pP3/8/8/3RK3 b - -"))
unfolding boards_compute
a-pawn-that-may-not-take =
    same_by (fen (codes "3k4/8/8/8/3pP3/8/8/3RK3 b - e3")) (fen (codes "3k4/8/8/8/3pP3/8/8/3RK3 b - -")) refl refl refl refl refl

a-pawn-that-may-take : ¬ Same (fen (codes "4k3/8/8/8/3pP3/8/8/4K3 b - e3")) (fen (codes "4k3/8/8/8/3pP3/8/8/4K3 b - -"))
unfolding boards_compute
a-pawn-that-may-take h =
    let p = fen (codes "4k3/8/8/8/3pP3/8/8/4K3 b - e3") in
    let m = uci (codes "d4e3") in
    ((h.3 20).0 (refl, (m, (refl, refl), refl, (decides-legal p m).0 refl))).0

a-right-less : ¬ Same (fen (codes "4k3/8/8/8/8/8/8/4K2R w K -")) (fen (codes "4k3/8/8/8/8/8/8/4K2R w - -"))
unfolding boards_compute
a-right-less h = true≢false (ap (λ (r : Rights). r.white_short) h.2)

another-turn : ¬ Same (fen (codes "4k3/8/8/8/8/8/8/4K2R w - -")) (fen (codes "4k3/8/8/8/8/8/8/4K2R b - -"))
unfolding boards_compute
another-turn h = true≢false (ap (is_color White) h.1)

-- ---- where a game comes to a position first

after-e4 : Position
after-e4 = fen (codes "rnbqkbnr/pppppppp/8/8/4P3/8/PPPP1PPP/RNBQKBNR b KQkq -")

moves-of : List (List ℕ) → List Move
moves-of texts = map uci texts

-- 1. e4 c5, behind whose first move no pawn can be taken on e3
it-comes-behind-the-first-move : FirstVisit after-e4 (stages start (moves-of (codes "e2e4" ∷ codes "c7c5" ∷ []))) (Some (Some (uci (codes "c7c5"))))
unfolding boards_compute after-e4 moves-of
it-comes-behind-the-first-move =
    inr (apart_by start after-e4 28 refl refl, inl (same_by (after start (uci (codes "e2e4"))) after-e4 refl refl refl refl refl, refl))

it-ends-there : FirstVisit after-e4 (stages start (moves-of (codes "e2e4" ∷ []))) (Some None)
unfolding boards_compute after-e4 moves-of
it-ends-there =
    inr (apart_by start after-e4 28 refl refl, inl (same_by (after start (uci (codes "e2e4"))) after-e4 refl refl refl refl refl, refl))

-- 1. d4
it-does-not-come-there : FirstVisit after-e4 (stages start (moves-of (codes "d2d4" ∷ []))) None
unfolding boards_compute after-e4 moves-of
it-does-not-come-there =
    inr (apart_by start after-e4 28 refl refl, inr (apart_by (after start (uci (codes "d2d4"))) after-e4 28 refl refl, refl))

-- 1. Nf3 Nf6 2. Ng1 Ng8 3. e4: the start comes twice, and what is played there first counts
the-first-of-two-visits : FirstVisit start (stages start (moves-of (codes "g1f3" ∷ codes "g8f6" ∷ codes "f3g1" ∷ codes "f6g8" ∷ codes "e2e4" ∷ []))) (Some (Some (uci (codes "g1f3"))))
unfolding boards_compute moves-of
the-first-of-two-visits = inl (same_by start start refl refl refl refl refl, refl)

-- and it is the same position again
back-at-the-start :
    Same (after (after (after (after start (uci (codes "g1f3"))) (uci (codes "g8f6"))) (uci (codes "f3g1"))) (uci (codes "f6g8"))) start
unfolding boards_compute
back-at-the-start =
    same_by (after (after (after (after start (uci (codes "g1f3"))) (uci (codes "g8f6"))) (uci (codes "f3g1"))) (uci (codes "f6g8"))) start
    refl refl refl refl refl

-- A game is looked for at its plies 0 to 50. Up to the position asked for, a square is empty on which a piece stands there.
is_empty_at : ℕ → Stage → Bool
is_empty_at s stage = is_none (piece_at stage.position.squares s)

-- no stage has the piece that stands there
none-comes : (at : Position) (s : ℕ) (stages : List Stage) → list_all (is_empty_at s) stages ≡ true → is_none (piece_at at.squares s) ≡ false
    → FirstVisit at stages None
unfolding is_empty_at
none-comes at s [] each filled = refl
none-comes at s (stage ∷ stages) each filled =
    let both = and_parts (is_empty_at s stage) (list_all (is_empty_at s) stages) each in
    inr (apart_by stage.position at s both.0 filled, none-comes at s stages both.1 filled)

-- the last stage is the position
the-last-comes : (at : Position) (s : ℕ) (stages : List Stage) (last : Stage) → list_all (is_empty_at s) stages ≡ true
    → is_none (piece_at at.squares s) ≡ false → Same last.position at → FirstVisit at (stages ++ (last ∷ [])) (Some last.next)
unfolding is_empty_at
the-last-comes at s [] last each filled same = inl (same, refl)
the-last-comes at s (stage ∷ stages) last each filled same =
    let both = and_parts (is_empty_at s stage) (list_all (is_empty_at s) stages) each in
    inr (apart_by stage.position at s both.0 filled, the-last-comes at s stages last both.1 filled same)

-- the knights go out and back twelve times in 48 plies
knights : List (List ℕ)
knights = repeat 12 (codes "g1f3" ∷ codes "g8f6" ∷ codes "f3g1" ∷ codes "f6g8" ∷ [])

-- 1. e4 e5
open-game : Position
open-game = fen (codes "rnbqkbnr/pppp1ppp/8/4p3/4P3/8/PPPP1PPP/RNBQKBNR w KQkq -")

game-of : Classes → List (List ℕ) → Game
game-of classes texts = record { classes = classes; root = start; moves = moves-of texts }

at-ply-50 : (classes : Classes) → IsGameAt open-game (game-of classes (knights ++ (codes "e2e4" ∷ codes "e7e5" ∷ codes "g1f3" ∷ [])))
    (record { classes = classes; visit = Some (Some (uci (codes "g1f3"))) })
unfolding boards_compute knights open-game game-of moves-of is_empty_at
at-ply-50 classes =
    let before = take 50 (stages start (moves-of (knights ++ (codes "e2e4" ∷ codes "e7e5" ∷ [])))) in
    let there = after (after start (uci (codes "e2e4"))) (uci (codes "e7e5")) in
    let last : Stage = record { position = there; next = Some (uci (codes "g1f3")) } in
    (refl, the-last-comes open-game 36 before last refl refl (same_by there open-game refl refl refl refl refl))

-- behind one more move of each knight the pawn goes to e4 at ply 51, which is too late
e4-behind-the-knights : Position
e4-behind-the-knights = fen (codes "rnbqkb1r/pppppppp/5n2/8/4P3/5N2/PPPP1PPP/RNBQKB1R b KQkq -")

at-ply-51 : (classes : Classes) → IsGameAt e4-behind-the-knights (game-of classes (knights ++ (codes "g1f3" ∷ codes "g8f6" ∷ codes "e2e4" ∷ [])))
    (record { classes = classes; visit = None })
unfolding boards_compute knights e4-behind-the-knights game-of moves-of is_empty_at
at-ply-51 classes =
    let stages_before = take 51 (stages start (moves-of (knights ++ (codes "g1f3" ∷ codes "g8f6" ∷ codes "e2e4" ∷ [])))) in
    (refl, none-comes e4-behind-the-knights 28 stages_before refl refl)

-- ---- the key of a position, and the tidy form that games are counted under

-- two squares to a byte: R and N of White are 4 and 2, its pawns 1, Black's pieces 6 more; all rights are 2 + 4 + 8 + 16
the-key-of-the-start : key start
    ≡ 36 ∷ 83 ∷ 54 ∷ 66 ∷ replicate 4 17 ++ replicate 16 0 ++ replicate 4 119 ++ 138 ∷ 185 ∷ 156 ∷ 168 ∷ 30 ∷ 0 ∷ []
the-key-of-the-start = refl

-- with Black to move and e3, whose number is 20, crossed
the-key-after-e4 : key (after start (uci (codes "e2e4")))
    ≡ 36 ∷ 83 ∷ 54 ∷ 66 ∷ 17 ∷ 17 ∷ 16 ∷ 17 ∷ replicate 6 0 ++ 1 ∷ replicate 9 0 ++ replicate 4 119 ++ 138 ∷ 185 ∷ 156 ∷ 168 ∷ 31 ∷ 21 ∷ []
unfolding boards_compute
the-key-after-e4 = refl

the-key-of-two-kings : key (fen (codes "4k3/8/8/8/8/8/8/4K3 w - -")) ≡ 0 ∷ 0 ∷ 6 ∷ replicate 27 0 ++ 12 ∷ 0 ∷ 0 ∷ 0 ∷ []
unfolding boards_compute
the-key-of-two-kings = refl

-- White's right to castle short is 2
the-key-of-a-right : key (fen (codes "4k3/8/8/8/8/8/8/4K2R b K -")) ≡ 0 ∷ 0 ∷ 6 ∷ 64 ∷ replicate 26 0 ++ 12 ∷ 0 ∷ 3 ∷ 0 ∷ []
unfolding boards_compute
the-key-of-a-right = refl

the-start-is-tidy : IsTidied start start
the-start-is-tidy = record { squares = refl; turn = refl; rights = refl; en_passant = λ s. (λ h. absurd h, λ h. h.0) }

-- a crossed square where no pawn can be taken is dropped
tidied-after-e4 : IsTidied (after start (uci (codes "e2e4"))) (fen (codes "rnbqkbnr/pppppppp/8/8/4P3/8/PPPP1PPP/RNBQKBNR b KQkq -"))
unfolding boards_compute
tidied-after-e4 = record {
  squares = refl;
  turn = refl;
  rights = refl;
  en_passant = λ s. (λ h. absurd h, λ h. absurd (no_en_passant (after start (uci (codes "e2e4"))) refl s h));
}

tidied-under-a-pin : IsTidied (fen (codes "3k4/8/8/8/3pP3/8/8/3RK3 b - e3")) (fen (codes "3k4/8/8/8/3pP3/8/8/3RK3 b - -"))
unfolding boards_compute
tidied-under-a-pin = record {
  squares = refl;
  turn = refl;
  rights = refl;
  en_passant = λ s. (λ h. absurd h, λ h. absurd (no_en_passant (fen (codes "3k4/8/8/8/3pP3/8/8/3RK3 b - e3")) refl s h));
}

-- and one where a pawn can be taken stays
a-pawn-to-be-taken : Position
a-pawn-to-be-taken = fen (codes "4k3/8/8/8/3pP3/8/8/4K3 b - e3")

a-square-that-stays : IsTidied a-pawn-to-be-taken a-pawn-to-be-taken
unfolding boards_compute a-pawn-to-be-taken
a-square-that-stays = record { squares = refl; turn = refl; rights = refl; en_passant = λ s. (stays s, λ h. h.0) }
  where
    stays : (s : ℕ) → IsSquare a-pawn-to-be-taken.en_passant s → CanCaptureEnPassant a-pawn-to-be-taken s
    stays s h =
        let m = uci (codes "d4e3") in
        let P : ℕ → Type 0 = λ n. CanCaptureEnPassant a-pawn-to-be-taken n in
        subst P h (refl, (m, (refl, refl), refl, (decides-legal a-pawn-to-be-taken m).0 refl))
