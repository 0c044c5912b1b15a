-- What is known of the piece that moves, and of the squares that a move meets.
use Rattle.std.proofs.Common.{◌≡◌, ◌≢◌, ℕ, ◌+◌, ◌-◌, ◌*◌, ◌<◌, ◌⊎◌, true, ◌==◌, if◌then◌else◌, List, Option, Some, None, refl, sym, ap, ◌∙◌, subst, inl, inr, arith, lit<}
use Rattle.std.proofs.lemmas.Bool.{eqb-true}
use Rattle.explorer_model.specs.declared.chess.Color.{Color}
use Rattle.explorer_model.specs.declared.chess.Color.TheVariants.{White, Black}
use Rattle.explorer_model.specs.declared.chess.Role.{Role}
use Rattle.explorer_model.specs.declared.chess.Role.TheVariants.{Pawn, Knight, Bishop, Rook, Queen, King}
use Rattle.explorer_model.specs.declared.chess.Side.{Side}
use Rattle.explorer_model.specs.declared.chess.Side.TheVariants.{Short, Long}
use Rattle.explorer_model.specs.declared.chess.Piece.{Piece}
use Rattle.explorer_model.specs.declared.chess.Position.{Position}
use Rattle.explorer_model.specs.declared.chess.Move.{Move}
use Rattle.explorer_model.specs.Board.{file_of, rank_of, files_apart, ranks_apart, halfway, opponent, piece_of, piece_at, IsOfColor, IsPiece, IsRankAhead, PawnDiagonal, KingStep, IsBetween, PieceAttacks, Attacks}
use Rattle.explorer_model.specs.Chess.{home_rank, pawn_rank, last_rank, king_home, rook_home, king_target, is_pawn, is_pawn_at, is_king_at, IsSquare, HasCrossed, IsValid, PawnSteps, PawnDoubleSteps, PawnCaptures, CastlesTo, Castles, RoleMoves, PieceMoves, PseudoLegal, takes_en_passant, captured_en_passant, is_castling, castling_side}
use Rattle.legal_moves.proofs.Writes.{and-left, and-right}
use Rattle.explorer_model.proofs.Pieces.{king_role, square_true}

-- The piece that moves.

pub record Mover (p : Position) (m : Move) : Type 0 where
  pub role : Role
  pub stands : piece_at p.squares m.from.index ≡ piece_of p.turn role
  pub goes : RoleMoves p role m

mover_of : (p : Position) (m : Move) (o : Option Piece) → piece_at p.squares m.from.index ≡ o → IsOfColor p.turn o → PieceMoves p o m → Mover p m
mover_of p m None e own goes = absurd own
mover_of p m (Some piece) e own goes = record { role = piece.role; stands = e ∙ ap (λ c. piece_of c piece.role) own; goes = goes }

pub mover : (p : Position) (m : Move) → PseudoLegal p m → Mover p m
mover p m c = mover_of p m (piece_at p.squares m.from.index) refl c.0 c.2

-- What stands on a square.

pub piece_is : (color : Color) (role : Role) (o : Option Piece) → IsPiece color role o → o ≡ piece_of color role
piece_is color role None h = absurd h
piece_is color role (Some piece) h = ap (λ c. piece_of c piece.role) h.0 ∙ ap (λ r. piece_of color r) h.1

pub is_piece : (color : Color) (role : Role) (o : Option Piece) → o ≡ piece_of color role → IsPiece color role o
is_piece color role o e = let P : Option Piece → Type 0 = λ o. IsPiece color role o in subst P (sym e) (refl, refl)

pub no_such_piece : (color : Color) (role : Role) (o : Option Piece) → o ≡ None → IsPiece color role o → ⊥
no_such_piece color role o e h = let P : Option Piece → Type 0 = λ o. IsPiece color role o in subst P e h

pub no_piece : (color : Color) (o : Option Piece) → o ≡ None → IsOfColor color o → ⊥
no_piece color o e h = let P : Option Piece → Type 0 = λ o. IsOfColor color o in subst P e h

pub is_own : (color : Color) (role : Role) (o : Option Piece) → o ≡ piece_of color role → IsOfColor color o
is_own color role o e = let P : Option Piece → Type 0 = λ o. IsOfColor color o in subst P (sym e) refl

pub opponent-opponent : (color : Color) → opponent (opponent color) ≡ color
opponent-opponent White = refl
opponent-opponent Black = refl

pub opponent-other : (color : Color) → opponent color ≡ color → ⊥
opponent-other White e = cc
opponent-other Black e = cc

pub piece_not_own : (c : Color) (role : Role) (o : Option Piece) → o ≡ piece_of (opponent c) role → IsOfColor c o → ⊥
piece_not_own c role o e h =
    let P : Option Piece → Type 0 = λ o. IsOfColor c o in opponent-other c (subst P e h)

-- Where castling goes.

between_on_rank : (a s b : ℕ) → (ranks_apart a b ≡ 0) × (ranks_apart a s ≡ 0) × (ranks_apart s b ≡ 0) × (a ≢ b) × (a ≢ s) × (s ≢ b)
    → files_apart a s + files_apart s b ≡ files_apart a b → ranks_apart a s + ranks_apart s b ≡ ranks_apart a b → IsBetween a s b
between_on_rank a s b h files ranks = (inl ((inr h.0, h.3), (inr h.1, h.4), (inr h.2, h.5)), files, ranks)

target_between : (color : Color) (side : Side) → IsBetween (king_home color) (king_target color side) (rook_home color side)
target_between White Short = between_on_rank 4 6 7 (refl, refl, refl, omega arith, omega arith, omega arith) refl refl
target_between White Long = between_on_rank 4 2 0 (refl, refl, refl, omega arith, omega arith, omega arith) refl refl
target_between Black Short = between_on_rank 60 62 63 (refl, refl, refl, omega arith, omega arith, omega arith) refl refl
target_between Black Long = between_on_rank 60 58 56 (refl, refl, refl, omega arith, omega arith, omega arith) refl refl

crossed_between : (color : Color) (side : Side) → IsBetween (king_home color) (halfway (king_home color) (king_target color side)) (rook_home color side)
crossed_between White Short = between_on_rank 4 5 7 (refl, refl, refl, omega arith, omega arith, omega arith) refl refl
crossed_between White Long = between_on_rank 4 3 0 (refl, refl, refl, omega arith, omega arith, omega arith) refl refl
crossed_between Black Short = between_on_rank 60 61 63 (refl, refl, refl, omega arith, omega arith, omega arith) refl refl
crossed_between Black Long = between_on_rank 60 59 56 (refl, refl, refl, omega arith, omega arith, omega arith) refl refl

target_on_board : (color : Color) (side : Side) → king_target color side < 64
target_on_board White Short = lit< tt
target_on_board White Long = lit< tt
target_on_board Black Short = lit< tt
target_on_board Black Long = lit< tt

crossed_on_board : (color : Color) (side : Side) → halfway (king_home color) (king_target color side) < 64
crossed_on_board White Short = lit< tt
crossed_on_board White Long = lit< tt
crossed_on_board Black Short = lit< tt
crossed_on_board Black Long = lit< tt

pub side_of_target : (color : Color) (side : Side) → (if file_of (king_target color side) == 6 then Short else Long) ≡ side
side_of_target White Short = refl
side_of_target White Long = refl
side_of_target Black Short = refl
side_of_target Black Long = refl

-- the squares of castling are four
pub record AreApart (from to crossed home : ℕ) : Type 0 where
  pub to_from : to ≢ from
  pub crossed_from : crossed ≢ from
  pub crossed_to : crossed ≢ to
  pub home_from : home ≢ from
  pub home_to : home ≢ to
  pub home_crossed : home ≢ crossed

castling_apart : (color : Color) (side : Side) (from to : ℕ) → from ≡ king_home color → to ≡ king_target color side
    → AreApart from to (halfway from to) (rook_home color side)
castling_apart White Short from to f t = record { to_from = omega arith; crossed_from = omega arith; crossed_to = omega arith; home_from = omega arith; home_to = omega arith; home_crossed = omega arith }
castling_apart White Long from to f t = record { to_from = omega arith; crossed_from = omega arith; crossed_to = omega arith; home_from = omega arith; home_to = omega arith; home_crossed = omega arith }
castling_apart Black Short from to f t = record { to_from = omega arith; crossed_from = omega arith; crossed_to = omega arith; home_from = omega arith; home_to = omega arith; home_crossed = omega arith }
castling_apart Black Long from to f t = record { to_from = omega arith; crossed_from = omega arith; crossed_to = omega arith; home_from = omega arith; home_to = omega arith; home_crossed = omega arith }

pub record Castling (p : Position) (m : Move) : Type 0 where
  pub from_home : m.from.index ≡ king_home p.turn
  pub king : piece_at p.squares m.from.index ≡ piece_of p.turn King
  pub rook : piece_at p.squares (rook_home p.turn (castling_side m)) ≡ piece_of p.turn Rook
  pub to_empty : piece_at p.squares m.to.index ≡ None
  pub crossed_empty : piece_at p.squares (halfway m.from.index m.to.index) ≡ None
  pub apart : AreApart m.from.index m.to.index (halfway m.from.index m.to.index) (rook_home p.turn (castling_side m))

target_empty : (p : Position) (m : Move) (side : Side) → CastlesTo side p m → piece_at p.squares m.to.index ≡ None
target_empty p m side c =
    ap (piece_at p.squares) c.2 ∙ c.4 (king_target p.turn side) (target_on_board p.turn side) (target_between p.turn side)

pub castles_to_empty : (p : Position) (m : Move) → Castles p m → piece_at p.squares m.to.index ≡ None
castles_to_empty p m (inl c) = target_empty p m Short c
castles_to_empty p m (inr c) = target_empty p m Long c

castling_toward : (p : Position) (m : Move) (side : Side) → IsValid p → CastlesTo side p m → Castling p m
castling_toward p m side v c =
    let toward : castling_side m ≡ side = ap (λ t. if file_of t == 6 then Short else Long) c.2 ∙ side_of_target p.turn side in
    let crossed : halfway m.from.index m.to.index ≡ halfway (king_home p.turn) (king_target p.turn side) =
    ap (λ f. halfway f m.to.index) c.1 ∙ ap (halfway (king_home p.turn)) c.2 in
    let rook : piece_at p.squares (rook_home p.turn side) ≡ piece_of p.turn Rook = piece_is p.turn Rook _ (v.rights p.turn side c.0).1 in
    let Apart : Side → Type 0 = λ side. AreApart m.from.index m.to.index (halfway m.from.index m.to.index) (rook_home p.turn side) in
    record {
      from_home = c.1;
      king = piece_is p.turn King _ c.3;
      rook = ap (λ side. piece_at p.squares (rook_home p.turn side)) toward ∙ rook;
      to_empty = target_empty p m side c;
      crossed_empty = ap (piece_at p.squares) crossed ∙ c.4 _ (crossed_on_board p.turn side) (crossed_between p.turn side);
      apart = subst Apart (sym toward) (castling_apart p.turn side _ _ c.1 c.2);
    }

pub pawn_role : (role : Role) → is_pawn role ≡ true → role ≡ Pawn
pawn_role Pawn e = refl
pawn_role King e = cc
pawn_role Knight e = cc
pawn_role Bishop e = cc
pawn_role Rook e = cc
pawn_role Queen e = cc

-- a king's own step is no castling
castling_goes : (p : Position) (m : Move) → IsValid p → piece_at p.squares m.from.index ≡ piece_of p.turn King → files_apart m.from.index m.to.index ≡ 2
    → Attacks p.squares m.from.index m.to.index ⊎ Castles p m → Castling p m
castling_goes p m v stands two (inl steps) =
    let P : Option Piece → Type 0 = λ o. PieceAttacks p.squares o m.from.index m.to.index in
    let step : KingStep m.from.index m.to.index = subst P stands steps in
    absurd (omega arith)
castling_goes p m v stands two (inr (inl c)) = castling_toward p m Short v c
castling_goes p m v stands two (inr (inr c)) = castling_toward p m Long v c

pub castling : (p : Position) (m : Move) → IsValid p → Mover p m → is_castling p m ≡ true → Castling p m
castling p m v mover e =
    let king : piece_at p.squares m.from.index ≡ piece_of p.turn King =
    mover.stands ∙ ap (piece_of p.turn) (king_role mover.role (ap is_king_at (sym mover.stands) ∙ and-left _ _ e)) in
    let P : Role → Type 0 = λ role. RoleMoves p role m in
    let goes : RoleMoves p King m = subst P (king_role mover.role (ap is_king_at (sym mover.stands) ∙ and-left _ _ e)) mover.goes in
    castling_goes p m v king (eqb-true _ _ (and-right (is_king_at (piece_at p.squares m.from.index)) _ e)) goes.0

-- How pawns go.

-- no pawn comes to its side's first rank
step_rank : (color : Color) (from to : ℕ) → from < 64 → IsRankAhead color from to → rank_of to ≢ home_rank color
step_rank White from to on ahead = omega arith
step_rank Black from to on ahead = omega arith

-- the rank that a pawn's step of two ends on
abbrev pub double_rank : Color → ℕ
double_rank White = 3
double_rank Black = 4

-- the rank of the square that such a step crosses
abbrev pub crossed_rank : Color → ℕ
crossed_rank White = 2
crossed_rank Black = 5

pub double_step_rank : (color : Color) (from to : ℕ) → from < 64 → to < 64 → rank_of from ≡ pawn_rank color → ranks_apart from to ≡ 2
    → rank_of to ≡ double_rank color
double_step_rank White from to from_on to_on first two = omega arith
double_step_rank Black from to from_on to_on first two = omega arith

double_not_home : (color : Color) → double_rank color ≢ home_rank color
double_not_home White e = cc
double_not_home Black e = cc

pub double_not_last : (color : Color) → double_rank color ≢ last_rank color
double_not_last White e = cc
double_not_last Black e = cc

pub pawn_not_home : (p : Position) (m : Move) → PawnSteps p m ⊎ PawnDoubleSteps p m ⊎ PawnCaptures p m → rank_of m.to.index ≢ home_rank p.turn
pawn_not_home p m (inl s) = step_rank p.turn _ _ m.from.on_board s.1
pawn_not_home p m (inr (inl s)) =
    λ e. double_not_home p.turn (sym (double_step_rank p.turn _ _ m.from.on_board m.to.on_board s.0 s.2) ∙ e)
pawn_not_home p m (inr (inr s)) = step_rank p.turn _ _ m.from.on_board s.0.0

-- En passant: the pawn that is taken stands behind the square that it crossed.

behind : Color → ℕ → ℕ
behind White s = s - 8
behind Black s = s + 8

pub record HasPassed (squares : List (Option Piece)) (color : Color) (s : ℕ) : Type 0 where
  empty : piece_at squares s ≡ None
  pawn : IsPiece (opponent color) Pawn (piece_at squares (behind color s))
  rank : rank_of s ≡ crossed_rank (opponent color)

pub has_passed : (squares : List (Option Piece)) (color : Color) (s : ℕ) → HasCrossed squares color s → HasPassed squares color s
unfolding behind
has_passed squares White s h = record { empty = h.1; pawn = h.3; rank = h.0 }
has_passed squares Black s h = record { empty = h.1; pawn = h.3; rank = h.0 }

-- straight ahead of a crossed square its own pawn stands
straight_is_behind : (color : Color) (from to : ℕ) → IsRankAhead color from to → file_of from ≡ file_of to → from ≡ behind color to
unfolding behind
straight_is_behind White from to ahead file = omega arith
straight_is_behind Black from to ahead file = omega arith

double_not_crossed : (color : Color) → double_rank color ≢ crossed_rank (opponent color)
double_not_crossed White e = cc
double_not_crossed Black e = cc

passed_is_behind : (color : Color) (from to : ℕ) → IsRankAhead color from to → 8 * rank_of from + file_of to ≡ behind color to
unfolding behind
passed_is_behind White from to ahead = omega arith
passed_is_behind Black from to ahead = omega arith

passed_not_to : (color : Color) (from to : ℕ) → IsRankAhead color from to → 8 * rank_of from + file_of to ≢ to
passed_not_to White from to ahead = omega arith
passed_not_to Black from to ahead = omega arith

pub record Taking (p : Position) (m : Move) : Type 0 where
  pub pawn : piece_at p.squares m.from.index ≡ piece_of p.turn Pawn
  pub to_empty : piece_at p.squares m.to.index ≡ None
  pub passed : piece_at p.squares (captured_en_passant m) ≡ piece_of (opponent p.turn) Pawn
  pub passed_from : captured_en_passant m ≢ m.from.index
  pub passed_to : captured_en_passant m ≢ m.to.index

taking_diagonal : (p : Position) (m : Move) → piece_at p.squares m.from.index ≡ piece_of p.turn Pawn → HasPassed p.squares p.turn m.to.index
    → PawnDiagonal p.turn m.from.index m.to.index → Taking p m
taking_diagonal p m stands h diagonal = record {
  pawn = stands;
  to_empty = h.empty;
  passed = ap (piece_at p.squares) (passed_is_behind p.turn _ _ diagonal.0) ∙ piece_is (opponent p.turn) Pawn _ h.pawn;
  passed_from = let apart : files_apart m.from.index m.to.index ≡ 1 = diagonal.1 in omega arith;
  passed_to = passed_not_to p.turn _ _ diagonal.0;
}

pub straight_none : (p : Position) (m : Move) → piece_at p.squares m.from.index ≡ piece_of p.turn Pawn → HasPassed p.squares p.turn m.to.index
    → PawnSteps p m → ⊥
straight_none p m stands h s =
    let there : piece_at p.squares m.from.index ≡ piece_of (opponent p.turn) Pawn =
    ap (piece_at p.squares) (straight_is_behind p.turn _ _ s.1 s.0) ∙ piece_is (opponent p.turn) Pawn _ h.pawn in
    piece_not_own p.turn Pawn _ there (is_own p.turn Pawn _ stands)

pub double_none : (p : Position) (m : Move) → HasPassed p.squares p.turn m.to.index → PawnDoubleSteps p m → ⊥
double_none p m h s =
    double_not_crossed p.turn (sym (double_step_rank p.turn _ _ m.from.on_board m.to.on_board s.0 s.2) ∙ h.rank)

taking_goes : (p : Position) (m : Move) → piece_at p.squares m.from.index ≡ piece_of p.turn Pawn → HasPassed p.squares p.turn m.to.index
    → PawnSteps p m ⊎ PawnDoubleSteps p m ⊎ PawnCaptures p m → Taking p m
taking_goes p m stands h (inl s) = absurd (straight_none p m stands h s)
taking_goes p m stands h (inr (inl s)) = absurd (double_none p m h s)
taking_goes p m stands h (inr (inr s)) = taking_diagonal p m stands h s.0

pub taking : (p : Position) (m : Move) → IsValid p → Mover p m → takes_en_passant p m ≡ true → Taking p m
taking p m v mover e =
    let role : mover.role ≡ Pawn = pawn_role mover.role (ap is_pawn_at (sym mover.stands) ∙ and-left _ _ e) in
    let P : Role → Type 0 = λ role. RoleMoves p role m in
    let goes : RoleMoves p Pawn m = subst P role mover.goes in
    let crossed : IsSquare p.en_passant m.to.index = square_true p.en_passant m.to.index (and-right (is_pawn_at (piece_at p.squares m.from.index)) _ e) in
    taking_goes p m (mover.stands ∙ ap (piece_of p.turn) role) (has_passed p.squares p.turn m.to.index (v.en_passant m.to.index crossed)) goes.0
