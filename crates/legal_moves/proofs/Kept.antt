-- What a legal move keeps: the pieces of both sides, the pawns inside, the rights, and the square that a pawn crossed.
use Rattle.std.proofs.Common.{◌≡◌, ◌≢◌, ℕ, ◌+◌, ◌-◌, ◌<◌, ◌≤◌, ◌⊎◌, Bool, true, false, cond, not, ◌&&◌, ◌==◌, if◌then◌else◌, IsTrue, List, length, Option, Some, None, refl, sym, ap, ◌∙◌, subst, inl, inr, arith}
use Rattle.std.specs.List.{sum_by, count_by}
use Rattle.std.proofs.lemmas.List.FromFn.{get_or-map-range_with_len, length-map-range_with_len}
use Rattle.std.proofs.lemmas.Bool.Decides.{nat_tests}
use Rattle.std.proofs.lemmas.Bool.{eqb-true, eqb-false, true≢false}
use Rattle.std.proofs.Math.Bool.{and-false}
use Rattle.explorer_model.specs.declared.chess.Color.{Color}
use Rattle.explorer_model.specs.declared.chess.Color.TheVariants.{White, Black}
use Rattle.explorer_model.specs.declared.chess.Role.{Role}
use Rattle.explorer_model.specs.declared.chess.Role.TheVariants.{Pawn, Knight, Bishop, Rook, Queen, King}
use Rattle.explorer_model.specs.declared.chess.Side.{Side}
use Rattle.explorer_model.specs.declared.chess.Side.TheVariants.{Short, Long}
use Rattle.explorer_model.specs.declared.chess.Piece.{Piece}
use Rattle.explorer_model.specs.declared.chess.Position.{Position}
use Rattle.explorer_model.specs.declared.chess.Move.{Move}
use Rattle.explorer_model.specs.Board.{file_of, rank_of, ranks_apart, halfway, opponent, piece_of, piece_at, IsOfColor, IsPiece, IsRankAhead}
use Rattle.explorer_model.specs.Chess.{rook_home, king_home, home_rank, last_rank, is_color, is_king, is_king_of, is_of_color, HasPieces, IsPawn, HasPawnsInside, IsValid, IsPromotion, Promotes, RoleMoves, PseudoLegal, takes_en_passant, captured_en_passant, is_castling, castling_side, is_pawn_at, is_double_step, arriving, placed, squares_after, has_right, keeps_right, rights_after, RightsStand, EnPassantStands, IsSquare, HasCrossed, pawn_rank, PawnDoubleSteps, halfway_square, after}
use Rattle.legal_moves.proofs.Writes.{and-left, and-right, pawn_no_king, rook_home_on_board, halfway_on_board}
use Rattle.legal_moves.proofs.Facts.{Mover, mover, piece_is, is_piece, no_such_piece, is_own, castling, taking, pawn_role, pawn_not_home, double_rank, double_step_rank, double_not_last}
use Rattle.legal_moves.proofs.Victim.{Victim, victim, no_king_taken}
use Rattle.explorer_model.proofs.Pieces.{king_home_on_board}

-- The squares after a move.

pub length-after : (p : Position) (m : Move) → length (squares_after p m) ≡ 64
unfolding squares_after
length-after p m = length-map-range_with_len (placed p m) 0 64

pub piece_at-after : (p : Position) (m : Move) (s : ℕ) → s < 64 → piece_at (squares_after p m) s ≡ placed p m s
unfolding squares_after
piece_at-after p m s on = get_or-map-range_with_len (placed p m) 0 64 s s None on (omega arith)

-- The pieces of both sides.

-- what arrives is of the mover's colour and as much a king as what left
pub record SamePiece (p : Position) (m : Move) : Type 0 where
  pub piece : (c : Color) → is_of_color c (arriving (piece_at p.squares m.from.index) m.promotion) ≡ is_of_color c (piece_at p.squares m.from.index)
  pub king : (c : Color) → is_king_of c (arriving (piece_at p.squares m.from.index) m.promotion) ≡ is_king_of c (piece_at p.squares m.from.index)

arriving_piece : (c : Color) (o : Option Piece) (promotion : Option Role) → is_of_color c (arriving o promotion) ≡ is_of_color c o
arriving_piece c None promotion = refl
arriving_piece c (Some piece) None = refl
arriving_piece c (Some piece) (Some role) = refl

no_king_promoted : (role : Role) → IsPromotion (Some role) → is_king role ≡ false
no_king_promoted Pawn h = refl
no_king_promoted Knight h = refl
no_king_promoted Bishop h = refl
no_king_promoted Rook h = refl
no_king_promoted Queen h = refl
no_king_promoted King h = absurd h

pawn_arriving_king : (c turn : Color) (promotion : Option Role) → IsPromotion promotion
    → is_king_of c (arriving (piece_of turn Pawn) promotion) ≡ is_king_of c (piece_of turn Pawn)
pawn_arriving_king c turn None h = refl
pawn_arriving_king c turn (Some role) h =
    ap (λ king. is_color turn c && king) (no_king_promoted role h)

arriving_unpromoted : (c turn : Color) (role : Role) (promotion : Option Role) → promotion ≡ None
    → is_king_of c (arriving (piece_of turn role) promotion) ≡ is_king_of c (piece_of turn role)
arriving_unpromoted c turn role promotion e = ap (λ o. is_king_of c (arriving (piece_of turn role) o)) e

pawn_promotes_king : (c : Color) (p : Position) (m : Move) → Promotes p.turn m
    → is_king_of c (arriving (piece_of p.turn Pawn) m.promotion) ≡ is_king_of c (piece_of p.turn Pawn)
pawn_promotes_king c p m (inl h) = pawn_arriving_king c p.turn m.promotion h.1
pawn_promotes_king c p m (inr h) = arriving_unpromoted c p.turn Pawn m.promotion h.1

arriving_king : (c : Color) (p : Position) (m : Move) (role : Role) → RoleMoves p role m
    → is_king_of c (arriving (piece_of p.turn role) m.promotion) ≡ is_king_of c (piece_of p.turn role)
arriving_king c p m Pawn goes = pawn_promotes_king c p m goes.1
arriving_king c p m Knight goes = arriving_unpromoted c p.turn Knight m.promotion goes.1
arriving_king c p m Bishop goes = arriving_unpromoted c p.turn Bishop m.promotion goes.1
arriving_king c p m Rook goes = arriving_unpromoted c p.turn Rook m.promotion goes.1
arriving_king c p m Queen goes = arriving_unpromoted c p.turn Queen m.promotion goes.1
arriving_king c p m King goes = arriving_unpromoted c p.turn King m.promotion goes.1

same_piece : (p : Position) (m : Move) → Mover p m → SamePiece p m
same_piece p m mover = record {
  piece = λ c. arriving_piece c (piece_at p.squares m.from.index) m.promotion;
  king = λ c.
      ap (λ o. is_king_of c (arriving o m.promotion)) mover.stands
      ∙ arriving_king c p m mover.role mover.goes
      ∙ sym (ap (is_king_of c) mover.stands);
}

-- a piece that is none of the mover's and no king of the other side is no king
no_king_by : (turn c : Color) (piece : Piece) → (IsOfColor turn (Some piece) → ⊥) → (IsPiece (opponent turn) King (Some piece) → ⊥)
    → is_king_of c (Some piece) ≡ false
no_king_by turn c piece not_own no_king = colors turn c piece.color piece.role not_own (λ color role. no_king (color, role))
  where
    not_king : (x : Bool) (role : Role) → (role ≡ King → ⊥) → (x && is_king role) ≡ false
    not_king x King h = absurd (h refl)
    not_king x Pawn h = and-false x
    not_king x Knight h = and-false x
    not_king x Bishop h = and-false x
    not_king x Rook h = and-false x
    not_king x Queen h = and-false x

    colors : (turn c color : Color) (role : Role) → (color ≡ turn → ⊥) → (color ≡ opponent turn → role ≡ King → ⊥) → (is_color color c && is_king role) ≡ false
    colors White c White role not_own no_king = absurd (not_own refl)
    colors White c Black role not_own no_king = not_king (is_color Black c) role (no_king refl)
    colors Black c White role not_own no_king = not_king (is_color White c) role (no_king refl)
    colors Black c Black role not_own no_king = absurd (not_own refl)

no_king_at : (turn c : Color) (o : Option Piece) → (IsOfColor turn o → ⊥) → (IsPiece (opponent turn) King o → ⊥) → is_king_of c o ≡ false
no_king_at turn c None not_own no_king = refl
no_king_at turn c (Some piece) not_own no_king = no_king_by turn c piece not_own no_king

keeps_one : (after before victim : ℕ) → after + victim ≡ before → victim ≡ 0 → before ≡ 1 → after ≡ 1
keeps_one after before victim a b c = omega arith

keeps_few : (after before victim : ℕ) → after + victim ≡ before → before ≤ 16 → after ≤ 16
keeps_few after before victim a b = omega arith

pub keeps_pieces : (p : Position) (m : Move) (c : Color) → PseudoLegal p m → Victim p m → HasPieces p.squares c → HasPieces (squares_after p m) c
keeps_pieces p m c pseudo_legal taken sets =
    let same : SamePiece p m = same_piece p m (mover p m pseudo_legal) in
    let weight : Bool → ℕ = λ b. cond b 1 0 in
    let kings : sum_by (λ o. weight (is_king_of c o)) (squares_after p m) + weight (is_king_of c (piece_at p.squares taken.square)) ≡ count_by (is_king_of c) p.squares =
    taken.counted (λ o. weight (is_king_of c o)) refl (ap weight (same.king c)) in
    let pieces : sum_by (λ o. weight (is_of_color c o)) (squares_after p m) + weight (is_of_color c (piece_at p.squares taken.square)) ≡ count_by (is_of_color c) p.squares =
    taken.counted (λ o. weight (is_of_color c o)) refl (ap weight (same.piece c)) in
    (keeps_one _ _ _ kings (ap weight (no_king_at p.turn c _ taken.not_own taken.no_king)) sets.0, keeps_few _ _ _ pieces sets.1)

-- The pawns.

by : (P : Option Piece → Type 0) (b : Bool) {x y : Option Piece} → (b ≡ true → P x) → (b ≡ false → P y) → P (if b then x else y)
by P true a b = a refl
by P false a b = b refl

-- what stands on a square after the move is what arrives there, nothing, the rook of castling, or what stood there
pub placed_cases : (P : Option Piece → Type 0) (p : Position) (m : Move) (s : ℕ)
    → (s ≡ m.to.index → P (arriving (piece_at p.squares m.from.index) m.promotion)) → P None
    → (is_castling p m ≡ true → P (piece_of p.turn Rook)) → P (piece_at p.squares s) → P (placed p m s)
unfolding placed
placed_cases P p m s arrives none rook stays =
    by P (s == m.to.index) (λ e. arrives (eqb-true s m.to.index e))
    (λ _. by P (s == m.from.index) (λ _. none)
    (λ _. by P (takes_en_passant p m && (s == captured_en_passant m)) (λ _. none)
    (λ _. by P (is_castling p m && (s == rook_home p.turn (castling_side m))) (λ _. none)
    (λ _. by P (is_castling p m && (s == halfway m.from.index m.to.index)) (λ e. rook (and-left _ _ e)) (λ _. stays)))))

inside : (color : Color) (rank : ℕ) → rank ≢ home_rank color → rank ≢ last_rank color → (rank ≢ 0) × (rank ≢ 7)
inside White rank home last = (home, last)
inside Black rank home last = (last, home)

no_pawn_promoted : (turn : Color) (promotion : Option Role) → IsPromotion promotion → IsPawn (arriving (piece_of turn Pawn) promotion) → ⊥
no_pawn_promoted turn None h pawn = h
no_pawn_promoted turn (Some Pawn) h pawn = h
no_pawn_promoted turn (Some Knight) h pawn = cc
no_pawn_promoted turn (Some Bishop) h pawn = cc
no_pawn_promoted turn (Some Rook) h pawn = cc
no_pawn_promoted turn (Some Queen) h pawn = cc
no_pawn_promoted turn (Some King) h pawn = h

pawn_inside : (p : Position) (m : Move) → RoleMoves p Pawn m → IsPawn (arriving (piece_of p.turn Pawn) m.promotion)
    → (rank_of m.to.index ≢ 0) × (rank_of m.to.index ≢ 7)
pawn_inside p m (moves, inl h) pawn = absurd (no_pawn_promoted p.turn m.promotion h.1 pawn)
pawn_inside p m (moves, inr h) pawn = inside p.turn _ (pawn_not_home p m moves) h.0

unpromoted_pawn : (turn : Color) (role : Role) (promotion : Option Role) → promotion ≡ None → IsPawn (arriving (piece_of turn role) promotion) → role ≡ Pawn
unpromoted_pawn turn role promotion e h = let P : Option Role → Type 0 = λ o. IsPawn (arriving (piece_of turn role) o) in subst P e h

arriving_inside : (p : Position) (m : Move) (role : Role) → RoleMoves p role m → IsPawn (arriving (piece_of p.turn role) m.promotion)
    → (rank_of m.to.index ≢ 0) × (rank_of m.to.index ≢ 7)
arriving_inside p m Pawn goes pawn = pawn_inside p m goes pawn
arriving_inside p m Knight goes pawn = let e : Knight ≡ Pawn = unpromoted_pawn p.turn Knight _ goes.1 pawn in cc
arriving_inside p m Bishop goes pawn = let e : Bishop ≡ Pawn = unpromoted_pawn p.turn Bishop _ goes.1 pawn in cc
arriving_inside p m Rook goes pawn = let e : Rook ≡ Pawn = unpromoted_pawn p.turn Rook _ goes.1 pawn in cc
arriving_inside p m Queen goes pawn = let e : Queen ≡ Pawn = unpromoted_pawn p.turn Queen _ goes.1 pawn in cc
arriving_inside p m King goes pawn = let e : King ≡ Pawn = unpromoted_pawn p.turn King _ goes.1 pawn in cc

pub keeps_pawns_inside : (p : Position) (m : Move) → Mover p m → HasPawnsInside p.squares → HasPawnsInside (squares_after p m)
keeps_pawns_inside p m mover pawns s on =
    let Inside : ℕ → Type 0 = λ s. (rank_of s ≢ 0) × (rank_of s ≢ 7) in
    let P : Option Piece → Type 0 = λ o. IsPawn o → Inside s in
    let Arrives : Option Piece → Type 0 = λ o. IsPawn (arriving o m.promotion) → Inside m.to.index in
    let arrives : IsPawn (arriving (piece_at p.squares m.from.index) m.promotion) → Inside m.to.index =
    subst Arrives (sym mover.stands) (arriving_inside p m mover.role mover.goes) in
    subst P (sym (piece_at-after p m s on))
    (placed_cases P p m s (λ e. λ pawn. subst Inside (sym e) (arrives pawn)) (λ pawn. absurd pawn) (λ _. λ pawn. let e : Rook ≡ Pawn = pawn in cc) (pawns s on))

-- The rights.

-- a square that the move does not meet
pub record IsUnmet (p : Position) (m : Move) (s : ℕ) : Type 0 where
  pub not_from : s ≢ m.from.index
  pub not_to : s ≢ m.to.index
  pub not_passed : takes_en_passant p m ≡ true → s ≢ captured_en_passant m
  pub not_home : is_castling p m ≡ true → s ≢ rook_home p.turn (castling_side m)
  pub not_crossed : is_castling p m ≡ true → s ≢ halfway m.from.index m.to.index

pub stays : (p : Position) (m : Move) (s : ℕ) → IsUnmet p m s → placed p m s ≡ piece_at p.squares s
unfolding placed
stays p m s h =
    let P : Option Piece → Type 0 = λ o. o ≡ piece_at p.squares s in
    by P (s == m.to.index) (λ e. absurd (h.not_to (eqb-true _ _ e)))
    (λ _. by P (s == m.from.index) (λ e. absurd (h.not_from (eqb-true _ _ e)))
    (λ _. by P (takes_en_passant p m && (s == captured_en_passant m)) (λ e. absurd (h.not_passed (and-left _ _ e) (eqb-true _ _ (and-right (takes_en_passant p m) _ e))))
    (λ _. by P (is_castling p m && (s == rook_home p.turn (castling_side m))) (λ e. absurd (h.not_home (and-left _ _ e) (eqb-true _ _ (and-right (is_castling p m) _ e))))
    (λ _. by P (is_castling p m && (s == halfway m.from.index m.to.index)) (λ e. absurd (h.not_crossed (and-left _ _ e) (eqb-true _ _ (and-right (is_castling p m) _ e)))) (λ _. refl)))))

-- one piece has one colour and one role
same_pieces : (c d : Color) (role other : Role) (o : Option Piece) → o ≡ piece_of c role → o ≡ piece_of d other → (c ≡ d) × (role ≡ other)
same_pieces c d role other o e f = let P : Option Piece → Type 0 = λ o. IsPiece d other o in subst P e (is_piece d other o f)

-- a king or a rook that neither moves nor is taken, and is no rook of castling
pub unmet : (p : Position) (m : Move) (s : ℕ) (c : Color) (role : Role) → IsValid p → Mover p m → piece_at p.squares s ≡ piece_of c role → (role ≡ Pawn → ⊥)
    → s ≢ m.from.index → s ≢ m.to.index → (is_castling p m ≡ true → (c ≡ p.turn) → role ≡ Rook → ⊥) → IsUnmet p m s
unmet p m s c role v mover stands no_pawn not_from not_to no_castled = record {
  not_from = not_from;
  not_to = not_to;
  not_passed = λ taken e. no_pawn (same_pieces _ _ _ _ _ stands (ap (piece_at p.squares) e ∙ (taking p m v mover taken).passed)).1;
  not_home = λ castled e.
      let same : (c ≡ p.turn) × (role ≡ Rook) = same_pieces _ _ _ _ _ stands (ap (piece_at p.squares) e ∙ (castling p m v mover castled).rook) in
      no_castled castled same.0 same.1;
  not_crossed = λ castled e. no_such_piece c role _ (ap (piece_at p.squares) e ∙ (castling p m v mover castled).crossed_empty) (is_piece c role _ stands);
}

either_color : (c turn : Color) → (c ≡ turn) ⊎ (c ≡ opponent turn)
either_color White White = inl refl
either_color White Black = inr refl
either_color Black White = inr refl
either_color Black Black = inl refl

-- no king stands where the move ends
no_king_at_target : (p : Position) (m : Move) (c : Color) → IsValid p → PseudoLegal p m → (c ≡ p.turn) ⊎ (c ≡ opponent p.turn)
    → piece_at p.squares m.to.index ≡ piece_of c King → ⊥
no_king_at_target p m c v pseudo_legal (inl own) e =
    pseudo_legal.1 (is_own p.turn King _ (e ∙ ap (λ c. piece_of c King) own))
no_king_at_target p m c v pseudo_legal (inr enemy) e =
    no_king_taken p m v (mover p m pseudo_legal) (is_piece (opponent p.turn) King _ (e ∙ ap (λ c. piece_of c King) enemy))

record KeptRight (p : Position) (m : Move) (color : Color) (side : Side) : Type 0 where
  right : IsTrue (has_right p.rights color side)
  from_king : king_home color ≢ m.from.index
  from_rook : rook_home color side ≢ m.from.index
  to_rook : rook_home color side ≢ m.to.index

not_eq : (x y : ℕ) → IsTrue (not (x == y)) → y ≢ x
not_eq x y h = grind (arith, nat_tests)

kept_right : (p : Position) (m : Move) (color : Color) (side : Side) → IsTrue (keeps_right p m color side) → KeptRight p m color side
kept_right p m color side h =
    let a : IsTrue (has_right p.rights color side && not (m.from.index == king_home color) && not (m.from.index == rook_home color side)) = and-left _ _ h in
    let b : IsTrue (has_right p.rights color side && not (m.from.index == king_home color)) = and-left _ _ a in
    record {
      right = and-left _ _ b;
      from_king = not_eq _ _ (and-right (has_right p.rights color side) _ b);
      from_rook = not_eq _ _ (and-right (has_right p.rights color side && not (m.from.index == king_home color)) _ a);
      to_rook = not_eq _ _ (and-right (has_right p.rights color side && not (m.from.index == king_home color) && not (m.from.index == rook_home color side)) _ h);
    }

right_after : (p : Position) (m : Move) (color : Color) (side : Side) → IsTrue (has_right (rights_after p m) color side) → IsTrue (keeps_right p m color side)
right_after p m White Short h = h
right_after p m White Long h = h
right_after p m Black Short h = h
right_after p m Black Long h = h

pub stands_after : (p : Position) (m : Move) (s : ℕ) (c : Color) (role : Role) → s < 64 → IsUnmet p m s → IsPiece c role (piece_at p.squares s)
    → IsPiece c role (piece_at (squares_after p m) s)
stands_after p m s c role on unmet h =
    let P : Option Piece → Type 0 = λ o. IsPiece c role o in subst P (sym (piece_at-after p m s on ∙ stays p m s unmet)) h

pub keeps_rights : (p : Position) (m : Move) → IsValid p → PseudoLegal p m → RightsStand (after p m)
keeps_rights p m v pseudo_legal color side h =
    let kept : KeptRight p m color side = kept_right p m color side (right_after p m color side h) in
    let sets : IsPiece color King (piece_at p.squares (king_home color)) × IsPiece color Rook (piece_at p.squares (rook_home color side)) = v.rights color side kept.right in
    let moving : Mover p m = mover p m pseudo_legal in
    let king : piece_at p.squares (king_home color) ≡ piece_of color King = piece_is color King _ sets.0 in
    let rook : piece_at p.squares (rook_home color side) ≡ piece_of color Rook = piece_is color Rook _ sets.1 in
    let king_unmet : IsUnmet p m (king_home color) =
    unmet p m _ color King v moving king (λ e. cc) kept.from_king
    (λ e. no_king_at_target p m color v pseudo_legal (either_color color p.turn) (ap (piece_at p.squares) (sym e) ∙ king))
    (λ castled own e. cc) in
    let rook_unmet : IsUnmet p m (rook_home color side) =
    unmet p m _ color Rook v moving rook (λ e. cc) kept.from_rook kept.to_rook
    (λ castled own e. kept.from_king (ap king_home own ∙ sym (castling p m v moving castled).from_home)) in
    (stands_after p m _ color King (king_home_on_board color) king_unmet sets.0, stands_after p m _ color Rook (rook_home_on_board color side) rook_unmet sets.1)

-- The square that a pawn crossed.

pub placed_to : (p : Position) (m : Move) → placed p m m.to.index ≡ arriving (piece_at p.squares m.from.index) m.promotion
unfolding placed
placed_to p m =
    let P : Option Piece → Type 0 = λ o. o ≡ arriving (piece_at p.squares m.from.index) m.promotion in
    by P (m.to.index == m.to.index) (λ _. refl) (λ e. absurd (eqb-false _ _ e refl))

placed_from : (p : Position) (m : Move) → m.from.index ≢ m.to.index → placed p m m.from.index ≡ None
unfolding placed
placed_from p m apart =
    let P : Option Piece → Type 0 = λ o. o ≡ None in
    by P (m.from.index == m.to.index) (λ e. absurd (apart (eqb-true _ _ e)))
    (λ _. by P (m.from.index == m.from.index) (λ _. refl) (λ e. absurd (eqb-false _ _ e refl)))

has_crossed_after : (color : Color) (squares : List (Option Piece)) (from to : ℕ) → from < 64 → to < 64 → rank_of from ≡ pawn_rank color
    → file_of from ≡ file_of to → ranks_apart from to ≡ 2 → piece_at squares (halfway from to) ≡ None → piece_at squares from ≡ None
    → IsPiece color Pawn (piece_at squares to) → HasCrossed squares (opponent color) (halfway from to)
has_crossed_after White squares from to from_on to_on rank file two crossed left pawn =
    let Pawns : ℕ → Type 0 = λ s. IsPiece White Pawn (piece_at squares s) in
    let back : halfway from to - 8 ≡ from = omega arith in
    let ahead : to ≡ halfway from to + 8 = omega arith in
    (omega arith, crossed, ap (piece_at squares) back ∙ left, subst Pawns ahead pawn)
has_crossed_after Black squares from to from_on to_on rank file two crossed left pawn =
    let Pawns : ℕ → Type 0 = λ s. IsPiece Black Pawn (piece_at squares s) in
    let back : halfway from to + 8 ≡ from = omega arith in
    let ahead : to ≡ halfway from to - 8 = omega arith in
    (omega arith, crossed, ap (piece_at squares) back ∙ left, subst Pawns ahead pawn)

pawn_unpromoted : (p : Position) (m : Move) → rank_of m.to.index ≡ double_rank p.turn → Promotes p.turn m → m.promotion ≡ None
pawn_unpromoted p m rank (inl h) = absurd (double_not_last p.turn (sym rank ∙ h.0))
pawn_unpromoted p m rank (inr h) = h.1

pawn_castles_not : (p : Position) (m : Move) → piece_at p.squares m.from.index ≡ piece_of p.turn Pawn → is_castling p m ≡ true → ⊥
pawn_castles_not p m stands e = true≢false (sym (and-left _ _ e) ∙ pawn_no_king _ (ap is_pawn_at stands))

double_crosses : (p : Position) (m : Move) → piece_at p.squares m.from.index ≡ piece_of p.turn Pawn → PawnDoubleSteps p m → Promotes p.turn m
    → HasCrossed (squares_after p m) (opponent p.turn) (halfway m.from.index m.to.index)
double_crosses p m stands s promotes =
    let two : ranks_apart m.from.index m.to.index ≡ 2 = s.2 in
    let apart : m.from.index ≢ m.to.index = omega arith in
    let crossed_on : halfway m.from.index m.to.index < 64 = halfway_on_board _ _ m.from.on_board m.to.on_board in
    let crossed_apart : halfway m.from.index m.to.index ≢ m.to.index = let file : file_of m.from.index ≡ file_of m.to.index = s.1 in omega arith in
    let Empty : Option Piece → Type 0 = λ o. o ≡ None in
    let unpromoted : m.promotion ≡ None = pawn_unpromoted p m (double_step_rank p.turn _ _ m.from.on_board m.to.on_board s.0 s.2) promotes in
    let crossed : placed p m (halfway m.from.index m.to.index) ≡ None =
    placed_cases Empty p m _ (λ e. absurd (crossed_apart e)) refl (λ e. absurd (pawn_castles_not p m stands e)) s.3 in
    let arrives : placed p m m.to.index ≡ piece_of p.turn Pawn =
    placed_to p m ∙ ap (arriving (piece_at p.squares m.from.index)) unpromoted ∙ ap (λ o. arriving o None) stands in
    has_crossed_after p.turn (squares_after p m) _ _ m.from.on_board m.to.on_board s.0 s.1 s.2
    (piece_at-after p m _ crossed_on ∙ crossed)
    (piece_at-after p m _ m.from.on_board ∙ placed_from p m apart)
    (is_piece p.turn Pawn _ (piece_at-after p m _ m.to.on_board ∙ arrives))

one_rank : (color : Color) (from to : ℕ) → IsRankAhead color from to → ranks_apart from to ≡ 2 → ⊥
one_rank White from to ahead two = omega arith
one_rank Black from to ahead two = omega arith

pawn_crosses : (p : Position) (m : Move) → piece_at p.squares m.from.index ≡ piece_of p.turn Pawn → ranks_apart m.from.index m.to.index ≡ 2 → RoleMoves p Pawn m
    → HasCrossed (squares_after p m) (opponent p.turn) (halfway m.from.index m.to.index)
pawn_crosses p m stands two (inl s, promotes) = absurd (one_rank p.turn _ _ s.1 two)
pawn_crosses p m stands two (inr (inl s), promotes) = double_crosses p m stands s promotes
pawn_crosses p m stands two (inr (inr s), promotes) = absurd (one_rank p.turn _ _ s.0.0 two)

double_step_crosses : (p : Position) (m : Move) → Mover p m → is_double_step p m ≡ true
    → HasCrossed (squares_after p m) (opponent p.turn) (halfway m.from.index m.to.index)
double_step_crosses p m mover e =
    let role : mover.role ≡ Pawn = pawn_role mover.role (ap is_pawn_at (sym mover.stands) ∙ and-left _ _ e) in
    let P : Role → Type 0 = λ role. RoleMoves p role m in
    pawn_crosses p m (mover.stands ∙ ap (piece_of p.turn) role) (eqb-true _ _ (and-right (is_pawn_at (piece_at p.squares m.from.index)) _ e)) (subst P role mover.goes)

en_passant_by : (p : Position) (m : Move) → Mover p m → (double : Bool) → is_double_step p m ≡ double → (s : ℕ)
    → IsSquare (if double then Some (halfway_square m.from m.to) else None) s → HasCrossed (squares_after p m) (opponent p.turn) s
en_passant_by p m mover true e s is = let P : ℕ → Type 0 = λ s. HasCrossed (squares_after p m) (opponent p.turn) s in subst P is (double_step_crosses p m mover e)
en_passant_by p m mover false e s is = absurd is

pub sets_en_passant : (p : Position) (m : Move) → Mover p m → EnPassantStands (after p m)
sets_en_passant p m mover s is = en_passant_by p m mover _ refl s is
