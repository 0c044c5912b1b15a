-- The first faulty field of a text is the first that breaks its own rule.
use Rattle.std.proofs.Common.{◌≡◌, ℕ, zero, suc, ◌<◌, ◌≤◌, ◌+◌, ◌-◌, ◌↔◌, ◌⊎◌, inl, inr, Bool, true, false, IsTrue, List, Option, Some, None, Ok, Err, refl, sym, subst, ◌∙◌, arith}
use Rattle.std.proofs.lemmas.Bool.{cases_eq, cases_lt, false_from_ne_true}
use Rattle.std.proofs.lemmas.Option.{same_Some}
use Rattle.explorer_model.specs.declared.chess.Color.{Color}
use Rattle.explorer_model.specs.declared.chess.Color.TheVariants.{White, Black}
use Rattle.explorer_model.specs.declared.chess.Side.{Side}
use Rattle.explorer_model.specs.declared.chess.Side.TheVariants.{Short, Long}
use Rattle.explorer_model.specs.declared.chess.Role.{Role}
use Rattle.explorer_model.specs.declared.chess.Role.TheVariants.{Pawn, Knight, Bishop, Rook, Queen, King}
use Rattle.explorer_model.specs.declared.chess.Piece.{Piece}
use Rattle.explorer_model.specs.declared.chess.Rights.{Rights}
use Rattle.explorer_model.specs.declared.chess.Position.{Position}
use Rattle.explorer_model.specs.declared.square.Square.{Square}
use Rattle.explorer_model.specs.declared.notation.FenFault.{FenFault}
use Rattle.explorer_model.specs.Board.{rank_of, opponent, piece_at, IsEmpty, IsPiece, InCheck}
use Rattle.explorer_model.specs.Chess.{king_home, rook_home, has_right, start, HasPieces, HasPawnsInside, HasCrossed}
use Rattle.explorer_model.specs.Fen.{field, placement, PlacesPieces, turn_named, GivesTurn, rights_named, GivesRights, en_passant_named, GivesEnPassant, has_clock, has_number, KeepsUpTo, IsFirstFault, FenReads}
use Rattle.fen_uci.specs.Faults.{IsFaulty}
use Rattle.fen_uci.proofs.Positions.{Keeps, keeps_all, keep_none, keep_1, keep_2, keep_3, keep_4, keep_5, keep_any, keep_less}

-- What is not impossible holds, of numbers and of pieces on their squares.

eq_stable : (a b : ℕ) → ¬ (¬ a ≡ b) → a ≡ b
eq_stable a b some = elim (cases_eq a b) [ inl same ↦ same | inr other ↦ absurd (some other) ]

le_stable : (a b : ℕ) → ¬ (¬ a ≤ b) → a ≤ b
le_stable a b some = elim (cases_lt b a) [ inl less ↦ absurd (some (λ le. omega (arith, le, less))) | inr le ↦ le ]

abbrev HavePieces : List (Option Piece) → Type 0
HavePieces squares = HasPieces squares White × HasPieces squares Black × HasPawnsInside squares

pieces_of_color : (squares : List (Option Piece)) (color : Color) → ¬ (¬ HasPieces squares color) → HasPieces squares color
pieces_of_color squares color some = (
  eq_stable _ _ (λ not. some (λ has. not has.0)),
  le_stable _ _ (λ not. some (λ has. not has.1)),
)

pieces_stable : (squares : List (Option Piece)) → ¬ (¬ HavePieces squares) → HavePieces squares
pieces_stable squares some = (
  pieces_of_color squares White (λ not. some (λ have. not have.0)),
  pieces_of_color squares Black (λ not. some (λ have. not have.1)),
  λ s on pawn. (λ first. some (λ have. (have.2 s on pawn).0 first), λ last. some (λ have. (have.2 s on pawn).1 last)),
)

-- Fields 1 and 2: where not every board is refused, one is left.

pieces_left : (text : List ℕ) → ¬ ((squares : List (Option Piece)) → ¬ PlacesPieces text squares)
    → (squares : List (Option Piece)) × PlacesPieces text squares
pieces_left text some = by (placement (field 1 text)) refl
  where
    by : (o : Option (List (Option Piece))) → placement (field 1 text) ≡ o → (squares : List (Option Piece)) × PlacesPieces text squares
    by None e = absurd (some (λ squares places. let here = places.0 in cc))
    by (Some squares) e =
        let have = pieces_stable squares (λ not. some (λ other places.
        not (subst HavePieces (same_Some other squares (sym places.0 ∙ e)) (places.1, places.2, places.3)))) in
        (squares, (e, have.0, have.1, have.2))

turn_left : (text : List ℕ) (squares : List (Option Piece)) → PlacesPieces text squares
    → ¬ ((others : List (Option Piece)) (turn : Color) → PlacesPieces text others → ¬ GivesTurn text others turn)
    → (turn : Color) × GivesTurn text squares turn
turn_left text squares places some = by (turn_named (field 2 text)) refl
  where
    by : (o : Option Color) → turn_named (field 2 text) ≡ o → (turn : Color) × GivesTurn text squares turn
    by None e = absurd (some (λ others turn also gives. let here = gives.0 in cc))
    by (Some turn) e = (
      turn,
      (
        e,
        λ check. some (λ others other also gives.
            let same_turn : turn ≡ other = same_Some turn other (sym e ∙ gives.0) in
            let same_squares : squares ≡ others = same_Some squares others (sym places.0 ∙ also.0) in
            gives.1 (subst (λ (c : Color). InCheck others (opponent c)) same_turn (subst (λ (xs : List (Option Piece)). InCheck xs (opponent turn)) same_squares check))),
      ),
    )

-- Fields 3 and 4: what they name can be kept or dropped, since it is decided which pieces stand where.

role_decided : (a b : Role) → (a ≡ b) ⊎ (¬ a ≡ b)
role_decided Pawn Pawn = inl refl
role_decided Knight Knight = inl refl
role_decided Bishop Bishop = inl refl
role_decided Rook Rook = inl refl
role_decided Queen Queen = inl refl
role_decided King King = inl refl
role_decided a b = inr (λ e. cc)

color_decided : (a b : Color) → (a ≡ b) ⊎ (¬ a ≡ b)
color_decided White White = inl refl
color_decided Black Black = inl refl
color_decided a b = inr (λ e. cc)

both_decided : {P Q : Type 0} → P ⊎ (¬ P) → Q ⊎ (¬ Q) → (P × Q) ⊎ (¬ (P × Q))
both_decided (inl p) (inl q) = inl (p, q)
both_decided (inr not) other = inr (λ both. not both.0)
both_decided (inl p) (inr not) = inr (λ both. not both.1)

piece_decided : (color : Color) (role : Role) (o : Option Piece) → IsPiece color role o ⊎ (¬ IsPiece color role o)
piece_decided color role None = inr (λ none. none)
piece_decided color role (Some piece) = both_decided (color_decided piece.color color) (role_decided piece.role role)

empty_decided : (o : Option Piece) → IsEmpty o ⊎ (¬ IsEmpty o)
empty_decided None = inl refl
empty_decided (Some piece) = inr (λ e. cc)

true_decided : (b : Bool) → IsTrue b ⊎ (¬ IsTrue b)
true_decided true = inl refl
true_decided false = inr (λ e. cc)

true_unless : (b : Bool) → ¬ b ≡ false → IsTrue b
true_unless true some = refl
true_unless false some = absurd (some refl)

none_unless : {A : Type 0} (o : Option A) → ((a : A) → ¬ o ≡ Some a) → o ≡ None
none_unless None some = refl
none_unless (Some a) some = absurd (some a refl)

crossed_decided : (squares : List (Option Piece)) (turn : Color) (s : ℕ) → HasCrossed squares turn s ⊎ (¬ HasCrossed squares turn s)
crossed_decided squares White s =
    let parts = both_decided (cases_eq (rank_of s) 5) (both_decided (empty_decided (piece_at squares s))
    (both_decided (empty_decided (piece_at squares (s + 8))) (piece_decided Black Pawn (piece_at squares (s - 8))))) in
    elim parts [ inl all ↦ inl (all.0, all.1.0, all.1.1.0, all.1.1.1) | inr not ↦ inr (λ all. not (all.0, (all.1, (all.2, all.3)))) ]
crossed_decided squares Black s =
    let parts = both_decided (cases_eq (rank_of s) 2) (both_decided (empty_decided (piece_at squares s))
    (both_decided (empty_decided (piece_at squares (s - 8))) (piece_decided White Pawn (piece_at squares (s + 8))))) in
    elim parts [ inl all ↦ inl (all.0, all.1.0, all.1.1.0, all.1.1.1) | inr not ↦ inr (λ all. not (all.0, (all.1, (all.2, all.3)))) ]

crossed_on_board : (squares : List (Option Piece)) (turn : Color) (s : ℕ) → HasCrossed squares turn s → s < 64
crossed_on_board squares White s crossed = let rank = crossed.0 in omega arith
crossed_on_board squares Black s crossed = let rank = crossed.0 in omega arith

-- whether a right is kept has one answer
right_kept : (squares : List (Option Piece)) (named : Rights) (color : Color) (side : Side) → (kept : Bool) × Keeps squares named color side kept
right_kept squares named color side =
    elim (both_decided (true_decided (has_right named color side)) (both_decided (piece_decided color King (piece_at squares (king_home color)))
    (piece_decided color Rook (piece_at squares (rook_home color side))))) [
      | inl all ↦ (true, (λ _. (all.0, all.1.0, all.1.1), λ _. refl))
      | inr not ↦ (false, (λ e. absurd (no e), λ all. absurd (not (all.0, (all.1, all.2)))))
    ]
  where
    no : ¬ IsTrue false
    no e = cc

rights_left : (text : List ℕ) (squares : List (Option Piece)) (named : Rights) → rights_named (field 3 text) ≡ Some named
    → (rights : Rights) × GivesRights text squares rights
rights_left text squares named e =
    let (ws, keeps_ws) = right_kept squares named White Short in
    let (wl, keeps_wl) = right_kept squares named White Long in
    let (bs, keeps_bs) = right_kept squares named Black Short in
    let (bl, keeps_bl) = right_kept squares named Black Long in (
      record { white_short = ws; white_long = wl; black_short = bs; black_long = bl },
      (named, e, keeps_all squares named ws wl bs bl keeps_ws keeps_wl keeps_bs keeps_bl),
    )

en_passant_left : (text : List ℕ) (squares : List (Option Piece)) (turn : Color) (named : Option ℕ) → en_passant_named turn (field 4 text) ≡ Some named
    → (en_passant : Option Square) × GivesEnPassant text squares turn en_passant
en_passant_left text squares turn None e = (None, (None, e, λ s. (λ none. absurd none, λ both. absurd both.0)))
en_passant_left text squares turn (Some s) e = elim (crossed_decided squares turn s) [
  | inl crossed ↦ (
    Some (record { index = s; on_board = crossed_on_board squares turn s crossed }),
    (Some s, e, λ t. (λ at. (sym at, subst (λ (n : ℕ). HasCrossed squares turn n) at crossed), λ both. sym both.0)),
  )
  | inr not ↦ (None, (Some s, e, λ t. (λ none. absurd none, λ both. absurd (not (subst (λ (n : ℕ). HasCrossed squares turn n) both.0 both.1)))))
]

-- a field is not faulty whose rule a position keeps, with those before it
kept_not_faulty : (text : List ℕ) (p : Position) (number : ℕ) → KeepsUpTo number text p → ¬ IsFaulty text number
kept_not_faulty text p zero kept ill = ill
kept_not_faulty text p (suc zero) kept ill = ill p.squares (kept.0 (omega arith))
kept_not_faulty text p (suc (suc zero)) kept ill = ill p.squares p.turn (kept.0 (omega arith)) (kept.1 (omega arith))
kept_not_faulty text p (suc (suc (suc zero))) kept ill = let (named, is, keeps) = kept.2 (omega arith) in cc
kept_not_faulty text p (suc (suc (suc (suc zero)))) kept ill =
    let (named, is, keeps) = kept.3 (omega arith) in
    let turn = kept.1 (omega arith) in
    let none = ill p.turn turn.0 in cc
kept_not_faulty text p (suc (suc (suc (suc (suc zero))))) kept ill = let clock = kept.4 (omega arith) in cc
kept_not_faulty text p (suc (suc (suc (suc (suc (suc zero)))))) kept ill = let count = kept.5 (omega arith) in cc
kept_not_faulty text p (suc (suc (suc (suc (suc (suc (suc number))))))) kept ill = ill

-- where the next field is not faulty either, a position is left
next_left : (text : List ℕ) (number : ℕ) (p : Position) → KeepsUpTo number text p → ¬ IsFaulty text (suc number) → (q : Position) × KeepsUpTo (suc number) text q
next_left text zero p kept some =
    let (squares, places) = pieces_left text some in
    let q : Position = record p { squares = squares } in
    (q, keep_1 text q places)
next_left text (suc zero) p kept some =
    let places = kept.0 (omega arith) in
    let (turn, gives) = turn_left text p.squares places some in
    let q : Position = record p { turn = turn } in
    (q, keep_2 text q places gives)
next_left text (suc (suc zero)) p kept some = by (rights_named (field 3 text)) refl
  where
    by : (o : Option Rights) → rights_named (field 3 text) ≡ o → (q : Position) × KeepsUpTo 3 text q
    by None e = absurd (some e)
    by (Some named) e =
        let (rights, gives) = rights_left text p.squares named e in
        let q : Position = record p { rights = rights } in
        (q, keep_3 text q (kept.0 (omega arith)) (kept.1 (omega arith)) gives)
next_left text (suc (suc (suc zero))) p kept some = by (en_passant_named p.turn (field 4 text)) refl
  where
    turns : GivesTurn text p.squares p.turn
    turns = kept.1 (omega arith)

    by : (o : Option (Option ℕ)) → en_passant_named p.turn (field 4 text) ≡ o → (q : Position) × KeepsUpTo 4 text q
    by None e = absurd (some (λ turn is. subst (λ (c : Color). en_passant_named c (field 4 text) ≡ None) (same_Some p.turn turn (sym turns.0 ∙ is)) e))
    by (Some named) e =
        let (en_passant, gives) = en_passant_left text p.squares p.turn named e in
        let q : Position = record p { en_passant = en_passant } in
        (q, keep_4 text q (kept.0 (omega arith)) turns (kept.2 (omega arith)) gives)
next_left text (suc (suc (suc (suc zero)))) p kept some = (p, keep_5 text p kept (true_unless (has_clock text) some))
next_left text (suc (suc (suc (suc (suc zero))))) p kept some = (p, keep_any text 6 p kept (true_unless (has_number text) some))
next_left text (suc (suc (suc (suc (suc (suc number)))))) p kept some =
    (p, keep_any text (suc (suc (suc (suc (suc (suc (suc number))))))) p (keep_less text p 5 (suc (suc (suc (suc (suc (suc number)))))) (omega arith) kept) (kept.5 (omega arith)))

-- a position is left at each number up to which no field is faulty
left_at : (text : List ℕ) (number : ℕ) → ((before : ℕ) → before ≤ number → ¬ IsFaulty text before) → (p : Position) × KeepsUpTo number text p
left_at text zero none = (start, keep_none text start)
left_at text (suc number) none =
    let (p, kept) = left_at text number (λ before le. none before (omega (arith, le))) in
    next_left text number p kept (none (suc number) (omega arith))

-- this field breaks its rule, and none before it does
abbrev pub IsFaultyFirst : List ℕ → ℕ → Type 0
IsFaultyFirst text number = IsFaulty text number × ((before : ℕ) → before < number → ¬ IsFaulty text before)

faulty_is_first : (text : List ℕ) (number : ℕ) → IsFaultyFirst text number → IsFirstFault number text
faulty_is_first text number (ill, first) = record {
  left = λ before less. left_at text before (λ other le. first other (omega (arith, less, le)));
  none = λ p kept. kept_not_faulty text p number kept ill;
}

-- where no position is left, this field is faulty
first_is_faulty : (text : List ℕ) (number : ℕ) → IsFirstFault number text → IsFaulty text number
first_is_faulty text zero first = absurd (first.none start (keep_none text start))
first_is_faulty text (suc zero) first = λ squares places.
    let p : Position = record start { squares = squares } in
    first.none p (keep_1 text p places)
first_is_faulty text (suc (suc zero)) first = λ squares turn places gives.
    let p : Position = record start { squares = squares; turn = turn } in
    first.none p (keep_2 text p places gives)
first_is_faulty text (suc (suc (suc zero))) first =
    let (p, kept) = first.left 2 (omega arith) in
    none_unless (rights_named (field 3 text)) (λ named e.
    let (rights, gives) = rights_left text p.squares named e in
    let q : Position = record p { rights = rights } in
    first.none q (keep_3 text q (kept.0 (omega arith)) (kept.1 (omega arith)) gives))
first_is_faulty text (suc (suc (suc (suc zero)))) first = λ turn is.
    let (p, kept) = first.left 3 (omega arith) in
    let turns = kept.1 (omega arith) in
    let same : turn ≡ p.turn = same_Some turn p.turn (sym is ∙ turns.0) in
    none_unless (en_passant_named turn (field 4 text)) (λ named e.
    let here = subst (λ (c : Color). en_passant_named c (field 4 text) ≡ Some named) same e in
    let (en_passant, gives) = en_passant_left text p.squares p.turn named here in
    let q : Position = record p { en_passant = en_passant } in
    first.none q (keep_4 text q (kept.0 (omega arith)) turns (kept.2 (omega arith)) gives))
first_is_faulty text (suc (suc (suc (suc (suc zero))))) first =
    let (p, kept) = first.left 4 (omega arith) in
    false_from_ne_true (has_clock text) (λ clock. first.none p (keep_5 text p kept clock))
first_is_faulty text (suc (suc (suc (suc (suc (suc zero)))))) first =
    let (p, kept) = first.left 5 (omega arith) in
    false_from_ne_true (has_number text) (λ count. first.none p (keep_any text 6 p kept count))
first_is_faulty text (suc (suc (suc (suc (suc (suc (suc number))))))) first =
    let (p, kept) = first.left 6 (omega arith) in
    absurd (first.none p (keep_any text (suc (suc (suc (suc (suc (suc (suc number))))))) p (keep_less text p 5 6 (omega arith) kept) (kept.5 (omega arith))))

first_is_faulty_first : (text : List ℕ) (number : ℕ) → IsFirstFault number text → IsFaultyFirst text number
first_is_faulty_first text number first = (
  first_is_faulty text number first,
  λ before less ill. let (p, kept) = first.left before less in kept_not_faulty text p before kept ill,
)

pub reads-kept : (text : List ℕ) (p : Position) → FenReads text (Ok p) ↔ KeepsUpTo 6 text p
reads-kept text p = (
  λ gives. (λ _. gives.0, λ _. gives.1, λ _. gives.2, λ _. gives.3, λ _. gives.4, λ _. gives.5),
  λ kept. (kept.0 (omega arith), kept.1 (omega arith), kept.2 (omega arith), kept.3 (omega arith), kept.4 (omega arith), kept.5 (omega arith)),
)

pub refused-faulty : (text : List ℕ) (fault : FenFault) → FenReads text (Err fault) ↔ IsFaultyFirst text fault.field
refused-faulty text fault = (first_is_faulty_first text fault.field, faulty_is_first text fault.field)
