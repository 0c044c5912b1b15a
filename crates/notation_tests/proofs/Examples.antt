-- Notation, tags, games, queries and answers, worked out on cases that are known from outside: the FIDE Laws, the PGN Standard,
-- and positions that every player knows.
use Rattle.std.proofs.Common.{◌≡◌, false, [], Some, None, Ok, Err, codes, refl, sym, ap, inl, inr, arith, true≢false}
use Rattle.explorer_model.specs.declared.chess.Role.TheVariants.{Pawn, Knight, Rook, Queen, King}
use Rattle.explorer_model.specs.declared.chess.Side.{Side}
use Rattle.explorer_model.specs.declared.chess.Side.TheVariants.{Short, Long}
use Rattle.explorer_model.specs.declared.chess.Move.{Move}
use Rattle.explorer_model.specs.declared.chess.Position.{Position}
use Rattle.explorer_model.specs.declared.fault.SanFault.TheVariants.{NoSuchMove, Ambiguous}
use Rattle.explorer_model.specs.declared.notation.CheckMark.TheVariants as marks
use Rattle.explorer_model.specs.declared.notation.NamedMove.{NamedMove}
use Rattle.explorer_model.specs.declared.notation.Start.TheVariants.{Unnamed, File}
use Rattle.explorer_model.specs.declared.notation.UciFault.TheVariants.{NotUci, NotLegal}
use Rattle.std.proofs.lemmas.Bool.Decides.{not_from_Decides}
use Rattle.explorer_model.specs.declared.chess.Color.TheVariants.{White, Black}
use Rattle.explorer_model.specs.Chess.{after, quiet, start}
use Rattle.explorer_model.specs.San.{Rivals, SanReads, SanText}
use Rattle.explorer_model.specs.Uci.{uci_form, uci_text, IsOntoRook, UciReads}
use Rattle.legal_moves.proofs.StartIsValid.{start_is_valid}
use Rattle.chess_reference.proofs.Boards.{boards_compute, fen, uci}
use Rattle.chess_reference.proofs.DecisionLemmas.{decides-in_check, decides-legal, none_leads, square_at}
use Rattle.fen_uci.proofs.Respelling.{written_reads}
use Rattle.san_codec.proofs.Law.{move_reads}
use Rattle.notation_tests.proofs.AgreementLemmas.{notation_computes, none_at_all, none_named, no_rival, no_rival_on_file, one_castles, one_named}

-- ---- standard algebraic notation: texts that are read (PGN 8.2.3)

-- at the start, by the law that what is written is read
pub a-pawn-goes-to-e4 : SanReads start (codes "e4") (Ok (uci (codes "e2e4")))
unfolding boards_compute
a-pawn-goes-to-e4 =
    let m = uci (codes "e2e4") in
    move_reads start m (codes "e4") [] start_is_valid ((decides-legal start m).0 refl) (inr (refl, (Pawn, Unnamed, refl, refl, refl))) refl

-- of the two knights one alone gets to f3
a-knight-goes-to-f3 : SanReads start (codes "Nf3") (Ok (uci (codes "g1f3")))
unfolding notation_computes
a-knight-goes-to-f3 =
    let form : NamedMove = record { role = Knight; file = None; rank = None; captures = false; target = 21; promotion = None } in
    ((decides-legal start (uci (codes "g1f3"))).0 refl, (refl, (refl, tt, tt), (refl, refl, refl)), one_named start form (uci (codes "g1f3")) refl)

-- PGN 8.2.3.4: of knights on c3 and g1 the one on c3 is pinned, so that Ne2 is the other's move
a-pinned-knight : Position
a-pinned-knight = fen (codes "4k3/8/8/8/1b6/2N5/8/4K1N1 w - -")

the-other-knight-is-not-named : SanReads a-pinned-knight (codes "Ne2") (Ok (uci (codes "g1e2")))
unfolding notation_computes a-pinned-knight
the-other-knight-is-not-named =
    let form : NamedMove = record { role = Knight; file = None; rank = None; captures = false; target = 12; promotion = None } in (
      (decides-legal a-pinned-knight (uci (codes "g1e2"))).0 refl,
      (refl, (refl, tt, tt), (refl, refl, refl)),
      one_named a-pinned-knight form (uci (codes "g1e2")) refl,
    )

the-pinned-knight-has-no-move : SanReads a-pinned-knight (codes "Nce2") (Err NoSuchMove)
unfolding notation_computes a-pinned-knight
the-pinned-knight-has-no-move =
    let form : NamedMove = record { role = Knight; file = Some 2; rank = None; captures = false; target = 12; promotion = None } in
    none_named a-pinned-knight form refl

-- two rooks can go to d1
two-rooks : Position
two-rooks = fen (codes "4k3/8/8/8/8/4K3/8/R6R w - -")

which-rook-is-not-said : SanReads two-rooks (codes "Rd1") (Err Ambiguous)
unfolding notation_computes two-rooks
which-rook-is-not-said =
    let a : Move = uci (codes "a1d1") in
    let h : Move = uci (codes "h1d1") in (
      a,
      h,
      λ e. absurd (omega (arith, ap (λ (m : Move). m.from.index) e)),
      (decides-legal two-rooks a).0 refl,
      (decides-legal two-rooks h).0 refl,
      (refl, (refl, tt, tt), (refl, refl, refl)),
      (refl, (refl, tt, tt), (refl, refl, refl)),
    )

a-rook-by-its-file : SanReads two-rooks (codes "Rad1") (Ok (uci (codes "a1d1")))
unfolding notation_computes two-rooks
a-rook-by-its-file =
    let form : NamedMove = record { role = Rook; file = Some 0; rank = None; captures = false; target = 3; promotion = None } in
    ((decides-legal two-rooks (uci (codes "a1d1"))).0 refl, (refl, (refl, refl, tt), (refl, refl, refl)), one_named two-rooks form (uci (codes "a1d1")) refl)

unfoldable pub a-king-with-a-rook : Position
a-king-with-a-rook = fen (codes "4k3/8/8/8/8/8/8/4K2R w K -")

-- the mark is not asked: castling gives no check here
castling-with-a-mark : SanReads a-king-with-a-rook (codes "O-O+") (Ok (uci (codes "e1g1")))
unfolding notation_computes a-king-with-a-rook
castling-with-a-mark =
    ((decides-legal a-king-with-a-rook (uci (codes "e1g1"))).0 refl, (refl, refl), one_castles a-king-with-a-rook Short (uci (codes "e1g1")) refl)

-- castling is named by its own form alone
the-king-two-squares-on : SanReads a-king-with-a-rook (codes "Kg1") (Err NoSuchMove)
unfolding notation_computes a-king-with-a-rook
the-king-two-squares-on =
    let form : NamedMove = record { role = King; file = None; rank = None; captures = false; target = 6; promotion = None } in
    none_named a-king-with-a-rook form refl

-- ---- standard algebraic notation: moves as they are written, with their marks (PGN 8.2.3.5)

pub a-quiet-move : SanText start (uci (codes "e2e4")) (codes "e4")
unfolding boards_compute
a-quiet-move =
    (codes "e4", marks.Quiet, inr (refl, (Pawn, Unnamed, refl, refl, refl)), not_from_Decides _ (decides-in_check (after start (uci (codes "e2e4"))).squares Black) refl, refl)

the-pinned-knight-is-no-rival : SanText a-pinned-knight (uci (codes "g1e2")) (codes "Ne2")
unfolding notation_computes a-pinned-knight
the-pinned-knight-is-no-rival =
    let m = uci (codes "g1e2") in
    (codes "Ne2", marks.Quiet, inr (refl, (Knight, Unnamed, refl, no_rival a-pinned-knight m refl, refl)), not_from_Decides _ (decides-in_check (after a-pinned-knight m).squares Black) refl, refl)

-- 1. f3 e5 2. g4 Qh4#
before-the-fools-mate : Position
before-the-fools-mate = fen (codes "rnbqkbnr/pppp1ppp/8/4p3/6P1/5P2/PPPPP2P/RNBQKBNR b KQkq g3")

the-fools-mate : SanText before-the-fools-mate (uci (codes "d8h4")) (codes "Qh4#")
unfolding notation_computes before-the-fools-mate
the-fools-mate =
    let m = uci (codes "d8h4") in
    let mated = after before-the-fools-mate m in (
      codes "Qh4",
      marks.Mate,
      inr (refl, (Queen, Unnamed, refl, no_rival before-the-fools-mate m refl, refl)),
      ((decides-in_check mated.squares White).0 refl, none_at_all mated refl),
      refl,
    )

-- a pawn on e7 takes the rook on d8 and becomes a queen; the king on h8 can go on to g7 or h7
before-a-promotion : Position
before-a-promotion = fen (codes "3r3k/4P3/8/8/8/8/8/4K3 w - -")

a-promotion-with-check : SanText before-a-promotion (uci (codes "e7d8q")) (codes "exd8=Q+")
unfolding notation_computes before-a-promotion
a-promotion-with-check =
    let m = uci (codes "e7d8q") in
    let checked = after before-a-promotion m in (
      codes "exd8=Q",
      marks.Check,
      inr (refl, (Pawn, File, refl, refl, refl)),
      ((decides-in_check checked.squares Black).0 refl, (uci (codes "h8g7"), (decides-legal checked (uci (codes "h8g7"))).0 refl)),
      refl,
    )

-- a back rank that is closed by its own pawns
before-a-mate-by-a-rook : Position
before-a-mate-by-a-rook = fen (codes "6k1/5ppp/8/8/8/8/8/R5K1 w - -")

a-mate-by-a-rook : SanText before-a-mate-by-a-rook (uci (codes "a1a8")) (codes "Ra8#")
unfolding notation_computes before-a-mate-by-a-rook
a-mate-by-a-rook =
    let m = uci (codes "a1a8") in
    let mated = after before-a-mate-by-a-rook m in (
      codes "Ra8",
      marks.Mate,
      inr (refl, (Rook, Unnamed, refl, no_rival before-a-mate-by-a-rook m refl, refl)),
      ((decides-in_check mated.squares Black).0 refl, none_at_all mated refl),
      refl,
    )

-- of two rooks the file is written
a-rook-by-its-file-is-written : SanText two-rooks (uci (codes "a1d1")) (codes "Rad1")
unfolding notation_computes two-rooks
a-rook-by-its-file-is-written =
    let m = uci (codes "a1d1") in
    let h = uci (codes "h1d1") in
    let rival : Rivals two-rooks m h = ((decides-legal two-rooks h).0 refl, (λ e. absurd (omega (arith, e)), refl, refl)) in (
      codes "Rad1",
      marks.Quiet,
      inr (refl, (Rook, File, refl, ((h, rival), no_rival_on_file two-rooks m refl), refl)),
      not_from_Decides _ (decides-in_check (after two-rooks m).squares Black) refl,
      refl,
    )

castling-is-written : SanText a-king-with-a-rook (uci (codes "e1g1")) (codes "O-O")
unfolding notation_computes a-king-with-a-rook
castling-is-written =
    (codes "O-O", marks.Quiet, inl (refl, refl), not_from_Decides _ (decides-in_check (after a-king-with-a-rook (uci (codes "e1g1"))).squares Black) refl, refl)

-- ---- moves of UCI

two-squares : uci_form (codes "e2e4") ≡ Some (record { from = 12; to = 28; promotion = None })
two-squares = refl

a-small-letter-for-a-promotion : uci_form (codes "e7e8q") ≡ Some (record { from = 52; to = 60; promotion = Some Queen })
a-small-letter-for-a-promotion = refl

no-piece-is-a-king : uci_form (codes "e7e8k") ≡ None
no-piece-is-a-king = refl

a-capital-letter : uci_form (codes "e7e8Q") ≡ None
a-capital-letter = refl

three-letters : uci_form (codes "e2e") ≡ None
three-letters = refl

no-rank-9 : uci_form (codes "e8e9") ≡ None
no-rank-9 = refl

pub a-pawn-goes-two-squares : UciReads start (codes "e2e4") (Ok (uci (codes "e2e4")))
unfolding boards_compute
a-pawn-goes-two-squares = written_reads start (uci (codes "e2e4")) start_is_valid ((decides-legal start (uci (codes "e2e4"))).0 refl)

-- as in chess by other rules, the king may be told to go onto its rook
pub castling-onto-the-rook : UciReads a-king-with-a-rook (codes "e1h1") (Ok (uci (codes "e1g1")))
unfolding boards_compute a-king-with-a-rook
castling-onto-the-rook =
    ((refl, inl (Short, (refl, refl, (refl, refl), refl, (refl, refl)), refl), refl), (decides-legal a-king-with-a-rook (uci (codes "e1g1"))).0 refl)

castling-by-two-squares : UciReads a-king-with-a-rook (codes "e1g1") (Ok (uci (codes "e1g1")))
unfolding boards_compute a-king-with-a-rook
castling-by-two-squares = ((refl, inr (by_side, refl), refl), (decides-legal a-king-with-a-rook (uci (codes "e1g1"))).0 refl)
  where
    by_side : (side : Side) → ¬ IsOntoRook a-king-with-a-rook side (record { from = 4; to = 6; promotion = None })
    by_side Short h = let to = h.3 in absurd (omega (arith, to))
    by_side Long h = let to = h.3 in absurd (omega (arith, to))

-- without the right it is a king's move onto a piece of its own
a-king-without-its-right : Position
a-king-without-its-right = fen (codes "4k3/8/8/8/8/8/8/4K2R w - -")

no-castling-onto-the-rook : UciReads a-king-without-its-right (codes "e1h1") (Err NotLegal)
unfolding boards_compute a-king-without-its-right
no-castling-onto-the-rook m (from, inl (Short, onto, to), promotion) = absurd (true≢false (sym onto.0))
no-castling-onto-the-rook m (from, inl (Long, onto, to), promotion) = absurd (true≢false (sym onto.0))
no-castling-onto-the-rook m (from, inr (other, to), promotion) = none_leads a-king-without-its-right 4 7 refl m from to

a-pawn-goes-three-squares : UciReads start (codes "e2e5") (Err NotLegal)
unfolding boards_compute
a-pawn-goes-three-squares m (from, inl (side, onto, to), promotion) = let home = onto.1 in absurd (omega (arith, home))
a-pawn-goes-three-squares m (from, inr (other, to), promotion) = none_leads start 12 36 refl m from to

san-is-no-uci : UciReads start (codes "e4") (Err NotUci)
san-is-no-uci = refl

a-quiet-move-is-written : uci_text (uci (codes "g1f3")) ≡ codes "g1f3"
unfolding boards_compute
a-quiet-move-is-written = refl

a-promotion-is-written : uci_text (record { from = square_at 52; to = square_at 60; promotion = Some Knight }) ≡ codes "e7e8n"
unfolding boards_compute
a-promotion-is-written = refl

castling-is-written-by-two-squares : uci_text (quiet (square_at 60) (square_at 58)) ≡ codes "e8c8"
unfolding boards_compute
castling-is-written-by-two-squares = refl

from-corner-to-corner : uci_text (quiet (square_at 0) (square_at 63)) ≡ codes "a1h8"
unfolding boards_compute
from-corner-to-corner = refl
