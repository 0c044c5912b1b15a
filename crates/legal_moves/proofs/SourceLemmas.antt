-- Which moves the pieces of one role have to one square.
use Rattle.std.proofs.Common.{◌≡◌, ◌≢◌, ◌↔◌, ℕ, ◌<◌, ◌≤◌, ◌⊎◌, Bool, IsTrue, true, false, ◌==◌, ◌&&◌, ◌||◌, is_some, if◌then◌else◌, Option, Some, None, bit_and, bit_or, refl, sym, ap, ◌∙◌, subst, inl, inr, arith}
use Rattle.std.proofs.lemmas.Bool.{cases_eq, eq-eqb, eqb-true}
use Rattle.std.proofs.lemmas.Bool.Decides.{nat_tests}
use Rattle.step_tables.specs.Bitboard.{Holds}
use Rattle.step_tables.proofs.BitboardLemmas.{Holds-zero, Holds-or, Holds-and}
use Rattle.explorer_model.specs.declared.chess.Color.{Color}
use Rattle.explorer_model.specs.declared.chess.Color.TheVariants.{White, Black}
use Rattle.explorer_model.specs.declared.chess.Role.{Role}
use Rattle.explorer_model.specs.declared.chess.Role.TheVariants.{Pawn, Knight, Bishop, Rook, Queen, King}
use Rattle.explorer_model.specs.declared.chess.Side.{Side}
use Rattle.explorer_model.specs.declared.chess.Side.TheVariants.{Short, Long}
use Rattle.explorer_model.specs.declared.chess.Piece.{Piece}
use Rattle.explorer_model.specs.declared.chess.Position.{Position}
use Rattle.explorer_model.specs.declared.chess.Move.{Move}
use Rattle.explorer_model.specs.declared.square.Square.{Square}
use Rattle.explorer_model.proofs.Squares.{square_eq}
use Rattle.explorer_model.specs.Board.{file_of, rank_of, files_apart, ranks_apart, opponent, piece_of, piece_at, IsOfColor, IsPiece, IsRankAhead, PawnDiagonal, IsOpen, RookLine, RoleAttacks, PieceAttacks, Attacks}
use Rattle.explorer_model.specs.Chess.{IsValid, has_right, king_home, king_target, rook_home, castling_side, is_king, is_king_at, is_pawn, is_pawn_at, is_square, Castles, CastlesTo, PseudoLegal, RoleMoves, PieceMoves, Legal, is_castling}
use Rattle.explorer_model.specs.San.{IsRole, captures}
use Rattle.legal_moves.specs.EnemySets.{IsBitboardOf, IsWithout}
use Rattle.legal_moves.specs.Sources.{IsSource, Lands, BecomesAs, AreSifted, takes_on}
use Rattle.legal_moves.proofs.EnPassantCaptures.{pawn_back}
use Rattle.legal_moves.proofs.Facts.{Mover, mover, Castling, castling, castles_to_empty, side_of_target, piece_is, is_own, no_piece}
use Rattle.legal_moves.proofs.Writes.{and-right}
use Rattle.legal_moves.proofs.MoveSpans.{castles_files}

-- Where a pawn comes from.

same_file_line : (a b : ℕ) → file_of a ≡ file_of b → rank_of a ≢ rank_of b → RookLine b a
same_file_line a b file apart = (inl (omega arith), λ e. apart (ap rank_of (sym e)))

rank_ahead_apart : (color : Color) (a b : ℕ) → IsRankAhead color a b → rank_of a ≢ rank_of b
rank_ahead_apart White a b ahead e = omega arith
rank_ahead_apart Black a b ahead e = omega arith

two_apart : (a b : ℕ) → ranks_apart a b ≡ 2 → rank_of a ≢ rank_of b
two_apart a b two e = omega arith

pub pawn_from : (p : Position) (m : Move) → Lands p Pawn m
    → PawnDiagonal (opponent p.turn) m.to.index m.from.index ⊎ RookLine m.to.index m.from.index
pawn_from p m (inl s) = inr (same_file_line _ _ s.0 (rank_ahead_apart p.turn _ _ s.1))
pawn_from p m (inr (inl s)) = inr (same_file_line _ _ s.1 (two_apart _ _ s.2))
pawn_from p m (inr (inr s)) = inl ((pawn_back p.turn m.from.index m.to.index).1 s.0)

-- A piece that goes so makes a pseudo-legal move, and the other way round.

castles_two : (p : Position) (m : Move) → Castles p m → files_apart m.from.index m.to.index ≡ 2
castles_two p m (inl c) = castles_files p.turn Short _ _ c.1 c.2
castles_two p m (inr c) = castles_files p.turn Long _ _ c.1 c.2

eq_not : (x y : ℕ) → x ≢ y → (x == y) ≡ false
eq_not x y e = grind (arith, nat_tests)

king_castles : (p : Position) (m : Move) → piece_at p.squares m.from.index ≡ piece_of p.turn King → files_apart m.from.index m.to.index ≡ 2
    → is_castling p m ≡ true
king_castles p m stands two = ap (λ o. is_king_at o && (files_apart m.from.index m.to.index == 2)) stands ∙ eq-eqb _ _ two

king_steps : (p : Position) (m : Move) → files_apart m.from.index m.to.index ≢ 2 → is_castling p m ≡ false
king_steps p m apart = by (is_king_at (piece_at p.squares m.from.index))
  where
    by : (b : Bool) → b && (files_apart m.from.index m.to.index == 2) ≡ false
    by true = eq_not _ _ apart
    by false = refl

no_king : (p : Position) (m : Move) (role : Role) → piece_at p.squares m.from.index ≡ piece_of p.turn role → is_king role ≡ false → is_castling p m ≡ false
no_king p m role stands other =
    ap (λ o. is_king_at o && (files_apart m.from.index m.to.index == 2)) stands ∙ ap (λ b. b && (files_apart m.from.index m.to.index == 2)) other

module _ (p : Position) (m : Move) where
  attacks_as : (role : Role) → piece_at p.squares m.from.index ≡ piece_of p.turn role
      → Attacks p.squares m.from.index m.to.index ↔ RoleAttacks p.squares p.turn role m.from.index m.to.index
  attacks_as role stands =
      let P : Option Piece → Type 0 = λ o. PieceAttacks p.squares o m.from.index m.to.index in (λ h. subst P stands h, λ h. subst P (sym stands) h)

  goes_of : (role : Role) → piece_at p.squares m.from.index ≡ piece_of p.turn role → Lands p role m → BecomesAs p.turn role m → RoleMoves p role m
  goes_of Pawn stands lands becomes = (lands, becomes)
  goes_of Knight stands lands becomes = ((attacks_as Knight stands).1 lands, becomes)
  goes_of Bishop stands lands becomes = ((attacks_as Bishop stands).1 lands, becomes)
  goes_of Rook stands lands becomes = ((attacks_as Rook stands).1 lands, becomes)
  goes_of Queen stands lands becomes = ((attacks_as Queen stands).1 lands, becomes)
  goes_of King stands lands becomes = (inl ((attacks_as King stands).1 lands), becomes)

  plain_of : (role : Role) → piece_at p.squares m.from.index ≡ piece_of p.turn role → Lands p role m → is_castling p m ≡ false
  plain_of Pawn stands lands = no_king p m Pawn stands refl
  plain_of Knight stands lands = no_king p m Knight stands refl
  plain_of Bishop stands lands = no_king p m Bishop stands refl
  plain_of Rook stands lands = no_king p m Rook stands refl
  plain_of Queen stands lands = no_king p m Queen stands refl
  plain_of King stands lands = king_steps p m (λ two. let near : files_apart m.from.index m.to.index ≤ 1 = lands.0 in absurd (omega arith))

  lands_of : (role : Role) → piece_at p.squares m.from.index ≡ piece_of p.turn role → is_castling p m ≡ false → RoleMoves p role m
      → Lands p role m × BecomesAs p.turn role m
  lands_of Pawn stands plain goes = goes
  lands_of Knight stands plain goes = ((attacks_as Knight stands).0 goes.0, goes.1)
  lands_of Bishop stands plain goes = ((attacks_as Bishop stands).0 goes.0, goes.1)
  lands_of Rook stands plain goes = ((attacks_as Rook stands).0 goes.0, goes.1)
  lands_of Queen stands plain goes = ((attacks_as Queen stands).0 goes.0, goes.1)
  lands_of King stands plain goes = (
    elim goes.0 [
      | inl h ↦ (attacks_as King stands).0 h
      | inr c ↦ (let no_way : true ≡ false = sym (king_castles p m stands (castles_two p m c)) ∙ plain in cc)
    ],
    goes.1,
  )

  pub pseudo_legal_of : (role : Role) → IsPiece p.turn role (piece_at p.squares m.from.index) → ¬ IsOfColor p.turn (piece_at p.squares m.to.index)
      → Lands p role m → BecomesAs p.turn role m → PseudoLegal p m × (is_castling p m ≡ false)
  pseudo_legal_of role piece free lands becomes =
      let stands : piece_at p.squares m.from.index ≡ piece_of p.turn role = piece_is p.turn role _ piece in
      let P : Option Piece → Type 0 = λ o. PieceMoves p o m in
      ((is_own p.turn role _ stands, free, subst P (sym stands) (goes_of role stands lands becomes)), plain_of role stands lands)

  pub of_pseudo_legal : (role : Role) → IsPiece p.turn role (piece_at p.squares m.from.index) → PseudoLegal p m → is_castling p m ≡ false
      → Lands p role m × BecomesAs p.turn role m
  of_pseudo_legal role piece pseudo_legal plain =
      let stands : piece_at p.squares m.from.index ≡ piece_of p.turn role = piece_is p.turn role _ piece in
      let P : Option Piece → Type 0 = λ o. PieceMoves p o m in
      lands_of role stands plain (subst P stands pseudo_legal.2)

-- A square is its index.

pub source_at : (p : Position) (role : Role) (to : Square) (promotion : Option Role) (a b : Square) → a.index ≡ b.index
    → IsSource p role to promotion a ↔ IsSource p role to promotion b
source_at p role to promotion a b e =
    let P : Square → Type 0 = λ s. IsSource p role to promotion s in (λ h. subst P (square_eq a b e) h, λ h. subst P (sym (square_eq a b e)) h)

-- Sifting a set.

pub sifted-none : (all : ℕ) (Passes : Square → Type 0) → AreSifted all all 0 Passes
sifted-none all Passes = record {
  within = λ b on bit. bit;
  sound = λ from bit. absurd (Holds-zero from.index bit);
  complete = λ from bit passes. inl bit;
}

pub sifted-skip : (all rest less found : ℕ) (Passes : Square → Type 0) (at : Square) → AreSifted all rest found Passes → ¬ Passes at
    → IsWithout rest at.index less → AreSifted all less found Passes
sifted-skip all rest less found Passes at sifted fails without = record {
  within = λ b on bit. sifted.within b on ((without b on).0 bit).0;
  sound = sifted.sound;
  complete = λ from bit passes. elim (sifted.complete from bit passes) [
    | inl left ↦ elim (cases_eq from.index at.index) [
      | inl e ↦ absurd (fails (subst Passes (square_eq from at e) passes))
      | inr apart ↦ inl ((without from.index from.on_board).1 (left, apart))
    ]
    | inr done ↦ inr done
  ];
}

pub sifted-take : (all rest less found one : ℕ) (Passes : Square → Type 0) (at : Square) → AreSifted all rest found Passes → Holds rest at.index → Passes at
    → ((b : ℕ) → b < 64 → Holds one b ↔ (b ≡ at.index)) → IsWithout rest at.index less → AreSifted all less (bit_or found one) Passes
sifted-take all rest less found one Passes at sifted there passes only without = record {
  within = λ b on bit. sifted.within b on ((without b on).0 bit).0;
  sound = λ from bit. elim ((Holds-or found one from.index).0 bit) [
    | inl old ↦ sifted.sound from old
    | inr new ↦ (
        let e : from ≡ at = square_eq from at ((only from.index from.on_board).0 new) in
        let P : Square → Type 0 = λ s. Holds all s.index × Passes s in
        subst P (sym e) (sifted.within at.index at.on_board there, passes)
        )
  ];
  complete = λ from bit passes. elim (sifted.complete from bit passes) [
    | inl left ↦ elim (cases_eq from.index at.index) [
      | inl e ↦ inr ((Holds-or found one from.index).1 (inr ((only from.index from.on_board).1 e)))
      | inr apart ↦ inl ((without from.index from.on_board).1 (left, apart))
    ]
    | inr done ↦ inr ((Holds-or found one from.index).1 (inl done))
  ];
}

-- Whom the sets name.

own_role : (color : Color) (role : Role) (o : Option Piece) → IsOfColor color o → IsRole role o → IsPiece color role o
own_role color role None own of = own
own_role color role (Some piece) own of = (own, of)

pub piece_both : (p : Position) (role : Role) (own of s : ℕ) → IsBitboardOf (IsOfColor p.turn) p.squares own → IsBitboardOf (IsRole role) p.squares of → s < 64
    → Holds (bit_and own of) s ↔ IsPiece p.turn role (piece_at p.squares s)
piece_both p role own of s are_own are_of on = (
  λ bit. (let h : Holds own s × Holds of s = (Holds-and own of s).0 bit in
      own_role p.turn role (piece_at p.squares s) ((are_own s on).0 h.0) ((are_of s on).0 h.1)),
  λ piece. (Holds-and own of s).1 ((are_own s on).1 (own_of p.turn role (piece_at p.squares s) piece), (are_of s on).1 (role_of p.turn role (piece_at p.squares s) piece)),
)
  where
    own_of : (color : Color) (role : Role) (o : Option Piece) → IsPiece color role o → IsOfColor color o
    own_of color role None is = is
    own_of color role (Some piece) is = is.0

    role_of : (color : Color) (role : Role) (o : Option Piece) → IsPiece color role o → IsRole role o
    role_of color role None is = is
    role_of color role (Some piece) is = is.1

-- Castling.

attacks_near : (p : Position) (m : Move) → piece_at p.squares m.from.index ≡ piece_of p.turn King → Attacks p.squares m.from.index m.to.index
    → files_apart m.from.index m.to.index ≢ 2
attacks_near p m stands attacks two =
    let P : Option Piece → Type 0 = λ o. PieceAttacks p.squares o m.from.index m.to.index in
    let near : files_apart m.from.index m.to.index ≤ 1 = (subst P stands attacks).0 in
    absurd (omega arith)

toward : (p : Position) (m : Move) (side : Side) → CastlesTo side p m → castling_side m ≡ side
toward p m side c = ap (λ t. if file_of t == 6 then Short else Long) c.2 ∙ side_of_target p.turn side

-- a legal castling move is the one toward its side
pub castles_as : (p : Position) (m : Move) (side : Side) → IsValid p → Legal p m → is_castling p m ≡ true → castling_side m ≡ side
    → CastlesTo side p m × (m.promotion ≡ None)
castles_as p m side valid legal castles same =
    let moving : Mover p m = mover p m legal.0 in
    let king : Castling p m = castling p m valid moving castles in
    let P : Option Piece → Type 0 = λ o. PieceMoves p o m in
    let goes : RoleMoves p King m = subst P king.king legal.0.2 in
    let To : Side → Type 0 = λ side. CastlesTo side p m in (
      elim goes.0 [
        | inl steps ↦ absurd (attacks_near p m king.king steps (two castles))
        | inr (inl c) ↦ subst To (sym (toward p m Short c) ∙ same) c
        | inr (inr c) ↦ subst To (sym (toward p m Long c) ∙ same) c
      ],
      goes.1,
    )
  where
    two : is_castling p m ≡ true → files_apart m.from.index m.to.index ≡ 2
    two e = eqb-true _ _ (and-right (is_king_at (piece_at p.squares m.from.index)) _ e)

-- the move that castles toward this side
pub record IsCastle (p : Position) (side : Side) (m : Move) : Type 0 where
  pub from : m.from.index ≡ king_home p.turn
  pub to : m.to.index ≡ king_target p.turn side
  pub none : m.promotion ≡ None

move_eq : (m n : Move) → m.from ≡ n.from → m.to ≡ n.to → m.promotion ≡ n.promotion → m ≡ n
move_eq m n f t r = λ i. record { from = f i; to = t i; promotion = r i }

pub castle_is : (p : Position) (m n : Move) (side : Side) → IsValid p → IsCastle p side n → Legal p m → is_castling p m ≡ true → castling_side m ≡ side
    → (m ≡ n) × CastlesTo side p n
castle_is p m n side valid castle legal castles same =
    let at : CastlesTo side p m × (m.promotion ≡ None) = castles_as p m side valid legal castles same in
    let e : m ≡ n = move_eq m n (square_eq _ _ (at.0.1 ∙ sym castle.from)) (square_eq _ _ (at.0.2 ∙ sym castle.to)) (at.1 ∙ sym castle.none) in
    let P : Move → Type 0 = λ m. CastlesTo side p m in
    (e, subst P e at.0)

pub castle_at : (p : Position) (m : Move) (side : Side) (from to : ℕ) → IsValid p → from ≡ king_home p.turn → to ≡ king_target p.turn side → Legal p m
    → is_castling p m ≡ true → castling_side m ≡ side
    → IsTrue (has_right p.rights p.turn side) × (from ≡ king_home p.turn) × (to ≡ king_target p.turn side) × IsPiece p.turn King (piece_at p.squares from)
    × IsOpen p.squares (king_home p.turn) (rook_home p.turn side)
castle_at p m side from to valid at_from at_to legal castles same =
    let c : CastlesTo side p m = (castles_as p m side valid legal castles same).0 in
    let P : ℕ → Type 0 = λ s. IsPiece p.turn King (piece_at p.squares s) in
    (c.0, at_from, at_to, subst P (c.1 ∙ sym at_from) c.3, c.4)

castles_to_either : (p : Position) (m : Move) (side : Side) → CastlesTo side p m → Castles p m
castles_to_either p m Short c = inl c
castles_to_either p m Long c = inr c

pub castle_pseudo_legal : (p : Position) (n : Move) (side : Side) → IsCastle p side n → CastlesTo side p n → PseudoLegal p n
castle_pseudo_legal p n side castle c =
    let stands : piece_at p.squares n.from.index ≡ piece_of p.turn King = piece_is p.turn King _ c.3 in
    let P : Option Piece → Type 0 = λ o. PieceMoves p o n in
    let castles : Castles p n = castles_to_either p n side c in (
      is_own p.turn King _ stands,
      λ own. no_piece p.turn _ (castles_to_empty p n castles) own,
      subst P (sym stands) (inr castles, castle.none),
    )

pub castle_castles : (p : Position) (n : Move) (side : Side) → CastlesTo side p n → (is_castling p n ≡ true) × (castling_side n ≡ side)
castle_castles p n side c = (
  king_castles p n (piece_is p.turn King _ c.3) (castles_two p n (castles_to_either p n side c)),
  toward p n side c,
)

pub castled : (p : Position) (n : Move) (side : Side) → Legal p n → CastlesTo side p n → (is_castling p n ≡ true) × (castling_side n ≡ side)
castled p n side legal c = castle_castles p n side c

-- What a piece takes.

pawn_of : (role : Role) (o : Option Piece) → IsRole role o → is_pawn role ≡ is_pawn_at o
pawn_of role None h = absurd h
pawn_of role (Some piece) h = ap is_pawn (sym h)

pub takes-captures : (p : Position) (m : Move) (role : Role) (s : ℕ) → m.to.index ≡ s → IsRole role (piece_at p.squares m.from.index)
    → takes_on p role s ≡ captures p m
takes-captures p m role s to stands =
    ap (λ b. is_some (piece_at p.squares s) || (b && is_square p.en_passant s)) (pawn_of role (piece_at p.squares m.from.index) stands)
    ∙ ap (λ t. is_some (piece_at p.squares t) || (is_pawn_at (piece_at p.squares m.from.index) && is_square p.en_passant t)) (sym to)
