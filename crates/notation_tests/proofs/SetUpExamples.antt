-- Games from a position that is set up (PGN 9.7), worked out on texts whose meaning is known: where a game begins, which fault comes
-- first, and where the position that it begins in is found.
use Rattle.std.proofs.Common.{◌≡◌, ℕ, ◌++◌, true, false, List, [], ◌∷◌, Option, Some, None, Ok, Err, codes, refl, inl, inr}
use Rattle.explorer_model.specs.declared.archive.Classes.{Classes}
use Rattle.explorer_model.specs.declared.archive.Game.{Game}
use Rattle.explorer_model.specs.declared.chess.Piece.{Piece}
use Rattle.explorer_model.specs.declared.chess.Position.{Position}
use Rattle.explorer_model.specs.declared.chess.Role.TheVariants.{Pawn, King}
use Rattle.explorer_model.specs.declared.fault.GameFault.TheVariants as faults
use Rattle.explorer_model.specs.declared.fault.TagFault.TheVariants.{SetUp, UnknownResult}
use Rattle.explorer_model.specs.declared.notation.NamedMove.{NamedMove}
use Rattle.explorer_model.specs.Chess.{after, start}
use Rattle.explorer_model.specs.Fen.{fen_text, FenReads}
use Rattle.explorer_model.specs.Games.{GameOf}
use Rattle.explorer_model.specs.San.{SanReads}
use Rattle.explorer_model.specs.Visits.{IsGameAt}
use Rattle.fen_uci.proofs.Positions.{first_1}
use Rattle.fen_uci.proofs.Rereading.{written_reads}
use Rattle.legal_moves.proofs.StartIsValid.{start_is_valid}
use Rattle.chess_reference.proofs.Boards.{fen, uci}
use Rattle.chess_reference.proofs.DecisionLemmas.{decides-legal, same_by, valid}
use Rattle.notation_tests.proofs.AgreementLemmas.{notation_computes, one_named}
use Rattle.notation_tests.proofs.Examples.{a-pawn-goes-to-e4}
use Rattle.notation_tests.proofs.GameExamples.{ann_and_bob, heading, texts_compute}
use Rattle.notation_tests.proofs.QueryExamples.{no-kings}

-- the text of Ann's and Bob's game up to its moves, with a tag FEN before the others
unfoldable from-fen : List ℕ → List ℕ
from-fen text = codes "[FEN \"" ++ text ++ codes "\"]\n" ++ heading

-- the same with what the tag SetUp says
unfoldable set-up : List ℕ → List ℕ → List ℕ
set-up said text = codes "[SetUp \"" ++ said ++ codes "\"]\n" ++ from-fen text

-- ---- where a game begins

unfoldable a-pawn-at-home : Position
a-pawn-at-home = fen (codes "4k3/8/8/8/8/8/4P3/4K3 w - -")

the-pawn-goes-to-e4 : SanReads a-pawn-at-home (codes "e4") (Ok (uci (codes "e2e4")))
unfolding notation_computes a-pawn-at-home
the-pawn-goes-to-e4 =
    let form : NamedMove = record { role = Pawn; file = None; rank = None; captures = false; target = 28; promotion = None } in (
      (decides-legal a-pawn-at-home (uci (codes "e2e4"))).0 refl,
      (refl, (refl, tt, tt), (refl, refl, refl)),
      one_named a-pawn-at-home form (uci (codes "e2e4")) refl,
    )

a-game-from-a-position : GameOf (set-up (codes "1") (codes "4k3/8/8/8/8/8/4P3/4K3 w - - 0 1") ++ codes "1. e4 1-0\n")
    (Ok (record { classes = ann_and_bob; root = a-pawn-at-home; moves = uci (codes "e2e4") ∷ [] }))
unfolding texts_compute ann_and_bob set-up from-fen notation_computes a-pawn-at-home
a-game-from-a-position =
    let m = uci (codes "e2e4") in
    let p = a-pawn-at-home in
    let read : FenReads (fen_text p) (Ok p) = written_reads p (valid p refl) in
    (_, (Ok p, inl (p, read, refl), refl), (Ok (m ∷ []), inl (m, Ok [], the-pawn-goes-to-e4, refl, refl), refl))

-- Black is to move: the first ply is Black's
unfoldable a-pawn-on-e4 : Position
a-pawn-on-e4 = fen (codes "4k3/8/8/8/4P3/8/8/4K3 b - -")

blacks-king-goes-to-d7 : SanReads a-pawn-on-e4 (codes "Kd7") (Ok (uci (codes "e8d7")))
unfolding notation_computes a-pawn-on-e4
blacks-king-goes-to-d7 =
    let form : NamedMove = record { role = King; file = None; rank = None; captures = false; target = 51; promotion = None } in (
      (decides-legal a-pawn-on-e4 (uci (codes "e8d7"))).0 refl,
      (refl, (refl, tt, tt), (refl, refl, refl)),
      one_named a-pawn-on-e4 form (uci (codes "e8d7")) refl,
    )

a-game-that-black-begins : GameOf (from-fen (codes "4k3/8/8/8/4P3/8/8/4K3 b - - 0 1") ++ codes "1... Kd7 1-0\n")
    (Ok (record { classes = ann_and_bob; root = a-pawn-on-e4; moves = uci (codes "e8d7") ∷ [] }))
unfolding texts_compute ann_and_bob from-fen notation_computes a-pawn-on-e4
a-game-that-black-begins =
    let m = uci (codes "e8d7") in
    let p = a-pawn-on-e4 in
    let read : FenReads (fen_text p) (Ok p) = written_reads p (valid p refl) in
    (_, (Ok p, inl (p, read, refl), refl), (Ok (m ∷ []), inl (m, Ok [], blacks-king-goes-to-d7, refl, refl), refl))

-- the pawn that has come from d7 to d5 can be taken in passing
unfoldable two-pawns : Position
two-pawns = fen (codes "4k3/8/8/3pP3/8/8/8/4K3 w - d6")

it-is-taken-in-passing : SanReads two-pawns (codes "exd6") (Ok (uci (codes "e5d6")))
unfolding notation_computes two-pawns
it-is-taken-in-passing =
    let form : NamedMove = record { role = Pawn; file = Some 4; rank = None; captures = true; target = 43; promotion = None } in (
      (decides-legal two-pawns (uci (codes "e5d6"))).0 refl,
      (refl, (refl, refl, tt), (refl, refl, refl)),
      one_named two-pawns form (uci (codes "e5d6")) refl,
    )

a-game-that-begins-in-passing : GameOf (from-fen (codes "4k3/8/8/3pP3/8/8/8/4K3 w - d6 0 1") ++ codes "1. exd6 1-0\n")
    (Ok (record { classes = ann_and_bob; root = two-pawns; moves = uci (codes "e5d6") ∷ [] }))
unfolding texts_compute ann_and_bob from-fen notation_computes two-pawns
a-game-that-begins-in-passing =
    let m = uci (codes "e5d6") in
    let p = two-pawns in
    let read : FenReads (fen_text p) (Ok p) = written_reads p (valid p refl) in
    (_, (Ok p, inl (p, read, refl), refl), (Ok (m ∷ []), inl (m, Ok [], it-is-taken-in-passing, refl, refl), refl))

-- the position that all other games begin in
a-game-from-the-start : GameOf (set-up (codes "1") (codes "rnbqkbnr/pppppppp/8/8/8/8/PPPPPPPP/RNBQKBNR w KQkq - 0 1") ++ codes "1. e4 1-0\n")
    (Ok (record { classes = ann_and_bob; root = start; moves = uci (codes "e2e4") ∷ [] }))
unfolding texts_compute ann_and_bob set-up from-fen
a-game-from-the-start =
    let m = uci (codes "e2e4") in
    let read : FenReads (fen_text start) (Ok start) = written_reads start start_is_valid in
    (_, (Ok start, inl (start, read, refl), refl), (Ok (m ∷ []), inl (m, Ok [], a-pawn-goes-to-e4, refl, refl), refl))

-- of two tags FEN the first counts
the-first-of-two-positions : GameOf (codes "[FEN \"4k3/8/8/8/8/8/4P3/4K3 w - - 0 1\"]\n" ++ from-fen (codes "8/8/8/8/8/8/8/8 w - -") ++ codes "1-0\n")
    (Ok (record { classes = ann_and_bob; root = a-pawn-at-home; moves = [] }))
unfolding texts_compute ann_and_bob from-fen notation_computes a-pawn-at-home
the-first-of-two-positions =
    let p = a-pawn-at-home in
    let read : FenReads (fen_text p) (Ok p) = written_reads p (valid p refl) in
    (_, (Ok p, inl (p, read, refl), refl), (Ok [], refl, refl))

-- ---- the first fault

-- a board without kings; what stands behind the tags is not asked
a-position-that-is-none : GameOf (set-up (codes "1") (codes "8/8/8/8/8/8/8/8 w - -") ++ codes "1. e9\n") (Err (faults.BadSetUp 1))
unfolding texts_compute set-up from-fen
a-position-that-is-none = (_, (Err (faults.BadSetUp 1), inr (record { field = 1 }, no-kings, refl), refl), refl)

nothing-is-read : FenReads (codes "") (Err (record { field = 1 }))
nothing-is-read = first_1 (codes "") (λ squares places. let none = places.0 in cc)

an-empty-position : GameOf (from-fen (codes "") ++ codes "1. e4 1-0\n") (Err (faults.BadSetUp 1))
unfolding texts_compute from-fen
an-empty-position = (_, (Err (faults.BadSetUp 1), inr (record { field = 1 }, nothing-is-read, refl), refl), refl)

-- what the tags say is judged before the position
set-up-said-to-be-none : GameOf (set-up (codes "0") (codes "8/8/8/8/8/8/8/8 w - -") ++ codes "1. e4 1-0\n") (Err (faults.Tag SetUp))
unfolding texts_compute set-up from-fen
set-up-said-to-be-none = (_, refl, refl)

an-unknown-result-and-no-position : GameOf (codes "[Result \"*\"]\n" ++ from-fen (codes "8/8/8/8/8/8/8/8 w - -") ++ codes "*\n") (Err (faults.Tag UnknownResult))
unfolding texts_compute from-fen
an-unknown-result-and-no-position = (_, refl, refl)

-- ---- where the root is found

-- 1. Kd2 Kd8 2. Ke1 Ke8 3. e4: the root comes twice, and what is played there first, at ply 0, counts
back-and-forth : Classes → Game
back-and-forth classes = record {
  classes = classes;
  root = a-pawn-at-home;
  moves = uci (codes "e1d2") ∷ uci (codes "e8d8") ∷ uci (codes "d2e1") ∷ uci (codes "d8e8") ∷ uci (codes "e2e4") ∷ [];
}

the-root-is-visited-first : (classes : Classes) → IsGameAt a-pawn-at-home (back-and-forth classes) (record { classes = classes; visit = Some (Some (uci (codes "e1d2"))) })
unfolding notation_computes a-pawn-at-home back-and-forth
the-root-is-visited-first classes = (refl, inl (same_by a-pawn-at-home a-pawn-at-home refl refl refl refl refl, refl))
