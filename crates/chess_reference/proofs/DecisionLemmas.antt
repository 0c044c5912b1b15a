-- A program for each definition of chess, which computes where the board is given: it is true exactly where the definition holds.
use Rattle.std.specs.Prelude.{is_none, nat_le}
use Rattle.std.specs.Bool.{Decides, ⊤}
use Rattle.std.proofs.Common.{◌≡◌, ◌≢◌, ℕ, zero, suc, ◌+◌, ◌-◌, ◌%◌, ◌<◌, ◌≤◌, Bool, true, false, not, ◌&&◌, ◌||◌, ◌==◌, IsTrue, List, length, count_by, Option, Some, None, refl, sym, ap, ◌∙◌, subst, lit<, mod-lt, mod-eq_of_lt, true≢false}
use Rattle.std.proofs.lemmas.Bool.{le-leb, leb-true, and_parts}
use Rattle.std.proofs.lemmas.Bool.Decides.{Decides-eqb, Decides-not, Decides-and, Decides-or, Decides-like, Decides-below_and, Decides-below_or}
use Rattle.explorer_model.specs.declared.chess.Color.{Color}
use Rattle.explorer_model.specs.declared.chess.Color.TheVariants.{White, Black}
use Rattle.explorer_model.specs.declared.chess.Role.{Role}
use Rattle.explorer_model.specs.declared.chess.Role.TheVariants.{Pawn, Knight, Bishop, Rook, Queen, King}
use Rattle.explorer_model.specs.declared.chess.Side.{Side}
use Rattle.explorer_model.specs.declared.chess.Side.TheVariants.{Short, Long}
use Rattle.explorer_model.specs.declared.chess.Piece.{Piece}
use Rattle.explorer_model.specs.declared.chess.Position.{Position}
use Rattle.explorer_model.specs.declared.chess.Move.{Move}
use Rattle.explorer_model.specs.declared.square.Square.{Square}
use Rattle.explorer_model.specs.Board.{file_of, rank_of, files_apart, ranks_apart, halfway, opponent, piece_at, IsEmpty, IsOfColor, IsPiece, IsRankAhead, RookLine, BishopLine, AreAligned, IsBetween, PawnDiagonal, KnightStep, KingStep, IsOpen, RoleAttacks, PieceAttacks, Attacks, IsAttacked, InCheck}
use Rattle.explorer_model.specs.Chess.{king_home, rook_home, king_target, pawn_rank, last_rank, has_right, is_color, is_of_color, is_king_of, is_pawn, is_pawn_at, is_square, HasPieces, IsPawn, HasPawnsInside, RightStands, RightsStand, HasCrossed, IsSquare, IsValid, IsPromotion, Promotes, PawnSteps, PawnDoubleSteps, PawnCaptures, CastlesTo, Castles, RoleMoves, PieceMoves, PseudoLegal, placed, squares_after, IsCastlingPathSafe, Legal, CanCaptureEnPassant, Same}
use Rattle.explorer_model.specs.Counting.{promotion_number, is_same_move}
use Rattle.explorer_model.specs.Order.{role_index}
use Rattle.explorer_model.proofs.Squares.{square_eq}
use Rattle.step_tables.specs.Test.{all_below, any_below}
use Rattle.step_tables.proofs.Test.{all_below-at}

-- ---- facts together

-- the second test is computed only where the first holds
unfoldable pub also : Bool → (⊤ → Bool) → Bool
also true test = test tt
also false test = false

module _ {P Q : Type 0} where
  pub Decides-also : (x : Bool) (y : ⊤ → Bool) → Decides x P → Decides (y tt) Q → Decides (also x y) (P × Q)
  unfolding also
  Decides-also true y d e = (λ h. (d.0 refl, e.0 h), λ h. e.1 h.1)
  Decides-also false y d e = (λ h. absurd (true≢false (sym h)), λ h. d.1 h.0)

  pub Decides-implies : (x y : Bool) → Decides x P → Decides y Q → Decides (not x || y) (P → Q)
  Decides-implies true y d e = (λ h p. e.0 h, λ f. e.1 (f (d.0 refl)))
  Decides-implies false y d e = (λ _ p. absurd (true≢false (sym (d.1 p))), λ _. refl)

-- the fact that is quicker to decide may be the second
Decides-second_first : {P Q : Type 0} (x : ⊤ → Bool) (y : Bool) → Decides (x tt) P → Decides y Q → Decides (also y x) (P × Q)
Decides-second_first x y d e =
    let both = Decides-also y x e d in (λ h. let t = both.0 h in (t.1, t.0), λ h. both.1 (h.1, h.0))

Decides-true : {P : Type 0} → P → Decides true P
Decides-true p = (λ _. p, λ _. refl)

Decides-false : {P : Type 0} → ¬ P → Decides false P
Decides-false none = (λ h. absurd (true≢false (sym h)), λ p. absurd (none p))

-- a test says of itself that it holds
Decides-self : (x : Bool) → Decides x (IsTrue x)
Decides-self x = (λ h. h, λ h. h)

pub Decides-three : {P Q R : Type 0} (x y z : Bool) → Decides x P → Decides y Q → Decides z R → Decides (also x (λ _. also y (λ _. z))) (P × Q × R)
Decides-three x y z d e f =
    let all = Decides-also x (λ _. also y (λ _. z)) d (Decides-also y (λ _. z) e f) in
    (λ h. let t = all.0 h in (t.0, t.1.0, t.1.1), λ h. all.1 (h.0, (h.1, h.2)))

Decides-four : {P Q R S : Type 0} (x y z u : Bool) → Decides x P → Decides y Q → Decides z R → Decides u S
    → Decides (also x (λ _. also y (λ _. also z (λ _. u)))) (P × Q × R × S)
Decides-four x y z u d e f g =
    let all = Decides-also x (λ _. also y (λ _. also z (λ _. u))) d (Decides-three y z u e f g) in
    (λ h. let t = all.0 h in (t.0, t.1.0, t.1.1, t.1.2), λ h. all.1 (h.0, (h.1, h.2, h.3)))

Decides-five : {P Q R S T : Type 0} (x y z u v : Bool) → Decides x P → Decides y Q → Decides z R → Decides u S → Decides v T
    → Decides (also x (λ _. also y (λ _. also z (λ _. also u (λ _. v))))) (P × Q × R × S × T)
Decides-five x y z u v d e f g k =
    let all = Decides-also x (λ _. also y (λ _. also z (λ _. also u (λ _. v)))) d (Decides-four y z u v e f g k) in
    (λ h. let t = all.0 h in (t.0, t.1.0, t.1.1, t.1.2, t.1.3), λ h. all.1 (h.0, (h.1, h.2, h.3, h.4)))

Decides-leb : (a b : ℕ) → Decides (nat_le a b) (a ≤ b)
Decides-leb a b = (leb-true a b, le-leb a b)

-- each square, and some square
Decides-each : (test : ℕ → Bool) (P : ℕ → Type 0) → ((s : ℕ) → Decides (test s) (P s)) → Decides (all_below test 64) ((s : ℕ) → s < 64 → P s)
unfolding all_below
Decides-each test P decides = Decides-below_and test P (all_below test) decides refl (λ _. refl) 64

Decides-some : (test : ℕ → Bool) (P : ℕ → Type 0) → ((s : ℕ) → Decides (test s) (P s)) → Decides (any_below test 64) ((s : ℕ) × (s < 64) × P s)
unfolding any_below
Decides-some test P decides = Decides-below_or test P (any_below test) decides refl (λ _. refl) 64

-- ---- what stands on a square

pub decides-none : {A : Type 0} (o : Option A) → Decides (is_none o) (o ≡ None)
decides-none None = Decides-true refl
decides-none (Some a) = Decides-false (λ e. true≢false (sym (ap is_none e)))

decides-color : (a b : Color) → Decides (is_color a b) (a ≡ b)
decides-color White White = Decides-true refl
decides-color White Black = Decides-false (λ e. true≢false (ap (λ c. is_color c White) e))
decides-color Black White = Decides-false (λ e. true≢false (ap (λ c. is_color c Black) e))
decides-color Black Black = Decides-true refl

decides-of_color : (color : Color) (o : Option Piece) → Decides (is_of_color color o) (IsOfColor color o)
decides-of_color color None = Decides-false (λ h. h)
decides-of_color color (Some piece) = decides-color piece.color color

unfoldable pub is_role : Role → Role → Bool
is_role a b = role_index a == role_index b

-- the role of an index
unfoldable pub role_at : ℕ → Role
role_at n =
    elim (n == 0) [
      | true ↦ Pawn
      | false ↦ elim (n == 1) [
        | true ↦ Knight
        | false ↦ elim (n == 2) [
          | true ↦ Bishop
          | false ↦ elim (n == 3) [ true ↦ Rook | false ↦ elim (n == 4) [ true ↦ Queen | false ↦ King ] ]
        ]
      ]
    ]

role_again : (role : Role) → role_at (role_index role) ≡ role
unfolding role_at
role_again Pawn = refl
role_again Knight = refl
role_again Bishop = refl
role_again Rook = refl
role_again Queen = refl
role_again King = refl

pub decides-role : (a b : Role) → Decides (is_role a b) (a ≡ b)
unfolding is_role
decides-role a b =
    let same = Decides-eqb (role_index a) (role_index b) in
    (λ h. sym (role_again a) ∙ ap role_at (same.0 h) ∙ role_again b, λ e. same.1 (ap role_index e))

unfoldable pub is_piece : Color → Role → Option Piece → Bool
is_piece color role None = false
is_piece color role (Some piece) = is_color piece.color color && is_role piece.role role

pub decides-piece : (color : Color) (role : Role) (o : Option Piece) → Decides (is_piece color role o) (IsPiece color role o)
unfolding is_piece
decides-piece color role None = Decides-false (λ h. h)
decides-piece color role (Some piece) = Decides-and _ _ (decides-color piece.color color) (decides-role piece.role role)

-- ---- how the pieces step

unfoldable pub is_rook_line : ℕ → ℕ → Bool
is_rook_line a b = ((files_apart a b == 0) || (ranks_apart a b == 0)) && not (a == b)

decides-rook_line : (a b : ℕ) → Decides (is_rook_line a b) (RookLine a b)
unfolding is_rook_line
decides-rook_line a b = Decides-and _ _ (Decides-or _ _ (Decides-eqb _ _) (Decides-eqb _ _)) (Decides-not _ (Decides-eqb a b))

unfoldable pub is_bishop_line : ℕ → ℕ → Bool
is_bishop_line a b = (files_apart a b == ranks_apart a b) && not (a == b)

decides-bishop_line : (a b : ℕ) → Decides (is_bishop_line a b) (BishopLine a b)
unfolding is_bishop_line
decides-bishop_line a b = Decides-and _ _ (Decides-eqb _ _) (Decides-not _ (Decides-eqb a b))

unfoldable pub is_aligned : ℕ → ℕ → ℕ → Bool
is_aligned a s b =
    also (is_rook_line a b) (λ _. also (is_rook_line a s) (λ _. is_rook_line s b))
    || also (is_bishop_line a b) (λ _. also (is_bishop_line a s) (λ _. is_bishop_line s b))

decides-aligned : (a s b : ℕ) → Decides (is_aligned a s b) (AreAligned a s b)
unfolding is_aligned
decides-aligned a s b =
    Decides-or _ _ (Decides-three _ _ _ (decides-rook_line a b) (decides-rook_line a s) (decides-rook_line s b))
    (Decides-three _ _ _ (decides-bishop_line a b) (decides-bishop_line a s) (decides-bishop_line s b))

unfoldable pub is_between : ℕ → ℕ → ℕ → Bool
is_between a s b =
    also (is_aligned a s b) (λ _. also (files_apart a s + files_apart s b == files_apart a b) (λ _. ranks_apart a s + ranks_apart s b == ranks_apart a b))

decides-between : (a s b : ℕ) → Decides (is_between a s b) (IsBetween a s b)
unfolding is_between
decides-between a s b = Decides-three _ _ _ (decides-aligned a s b) (Decides-eqb _ _) (Decides-eqb _ _)

unfoldable pub is_open : List (Option Piece) → ℕ → ℕ → Bool
is_open squares a b = all_below (λ s. not (is_between a s b) || is_none (piece_at squares s)) 64

decides-open : (squares : List (Option Piece)) (a b : ℕ) → Decides (is_open squares a b) (IsOpen squares a b)
unfolding is_open
decides-open squares a b =
    Decides-each _ (λ s. IsBetween a s b → IsEmpty (piece_at squares s))
    (λ s. Decides-implies (is_between a s b) (is_none (piece_at squares s)) (decides-between a s b) (decides-none (piece_at squares s)))

unfoldable pub is_rank_ahead : Color → ℕ → ℕ → Bool
is_rank_ahead White a b = rank_of b == rank_of a + 1
is_rank_ahead Black a b = rank_of a == rank_of b + 1

decides-rank_ahead : (color : Color) (a b : ℕ) → Decides (is_rank_ahead color a b) (IsRankAhead color a b)
unfolding is_rank_ahead
decides-rank_ahead White a b = Decides-eqb _ _
decides-rank_ahead Black a b = Decides-eqb _ _

unfoldable pub is_pawn_diagonal : Color → ℕ → ℕ → Bool
is_pawn_diagonal color a b = is_rank_ahead color a b && (files_apart a b == 1)

decides-pawn_diagonal : (color : Color) (a b : ℕ) → Decides (is_pawn_diagonal color a b) (PawnDiagonal color a b)
unfolding is_pawn_diagonal
decides-pawn_diagonal color a b = Decides-and _ _ (decides-rank_ahead color a b) (Decides-eqb _ _)

unfoldable pub is_knight_step : ℕ → ℕ → Bool
is_knight_step a b =
    ((files_apart a b == 1) && (ranks_apart a b == 2)) || ((files_apart a b == 2) && (ranks_apart a b == 1))

decides-knight_step : (a b : ℕ) → Decides (is_knight_step a b) (KnightStep a b)
unfolding is_knight_step
decides-knight_step a b =
    Decides-or _ _ (Decides-and _ _ (Decides-eqb _ _) (Decides-eqb _ _)) (Decides-and _ _ (Decides-eqb _ _) (Decides-eqb _ _))

unfoldable pub is_king_step : ℕ → ℕ → Bool
is_king_step a b =
    also (nat_le (files_apart a b) 1) (λ _. also (nat_le (ranks_apart a b) 1) (λ _. not (a == b)))

decides-king_step : (a b : ℕ) → Decides (is_king_step a b) (KingStep a b)
unfolding is_king_step
decides-king_step a b = Decides-three _ _ _ (Decides-leb _ _) (Decides-leb _ _) (Decides-not _ (Decides-eqb a b))

unfoldable pub attacks_as : List (Option Piece) → Color → Role → ℕ → ℕ → Bool
attacks_as squares color Pawn a b = is_pawn_diagonal color a b
attacks_as squares color Knight a b = is_knight_step a b
attacks_as squares color Bishop a b = also (is_bishop_line a b) (λ _. is_open squares a b)
attacks_as squares color Rook a b = also (is_rook_line a b) (λ _. is_open squares a b)
attacks_as squares color Queen a b = also (is_rook_line a b || is_bishop_line a b) (λ _. is_open squares a b)
attacks_as squares color King a b = is_king_step a b

decides-attacks_as : (squares : List (Option Piece)) (color : Color) (role : Role) (a b : ℕ)
    → Decides (attacks_as squares color role a b) (RoleAttacks squares color role a b)
unfolding attacks_as
decides-attacks_as squares color Pawn a b = decides-pawn_diagonal color a b
decides-attacks_as squares color Knight a b = decides-knight_step a b
decides-attacks_as squares color Bishop a b = Decides-also _ _ (decides-bishop_line a b) (decides-open squares a b)
decides-attacks_as squares color Rook a b = Decides-also _ _ (decides-rook_line a b) (decides-open squares a b)
decides-attacks_as squares color Queen a b =
    Decides-also _ _ (Decides-or _ _ (decides-rook_line a b) (decides-bishop_line a b)) (decides-open squares a b)
decides-attacks_as squares color King a b = decides-king_step a b

unfoldable pub attacks_from : List (Option Piece) → Option Piece → ℕ → ℕ → Bool
attacks_from squares None a b = false
attacks_from squares (Some piece) a b = attacks_as squares piece.color piece.role a b

decides-attacks_from : (squares : List (Option Piece)) (o : Option Piece) (a b : ℕ)
    → Decides (attacks_from squares o a b) (PieceAttacks squares o a b)
unfolding attacks_from
decides-attacks_from squares None a b = Decides-false (λ h. h)
decides-attacks_from squares (Some piece) a b = decides-attacks_as squares piece.color piece.role a b

unfoldable pub attacks : List (Option Piece) → ℕ → ℕ → Bool
attacks squares a b = attacks_from squares (piece_at squares a) a b

pub decides-attacks : (squares : List (Option Piece)) (a b : ℕ) → Decides (attacks squares a b) (Attacks squares a b)
unfolding attacks
decides-attacks squares a b = decides-attacks_from squares (piece_at squares a) a b

unfoldable pub is_attacked : List (Option Piece) → Color → ℕ → Bool
is_attacked squares color s =
    any_below (λ a. also (is_of_color color (piece_at squares a)) (λ _. attacks squares a s)) 64

pub decides-attacked : (squares : List (Option Piece)) (color : Color) (s : ℕ) → Decides (is_attacked squares color s) (IsAttacked squares color s)
unfolding is_attacked
decides-attacked squares color s =
    Decides-like _ (λ h. (h.0, h.1, h.2.0, h.2.1)) (λ h. (h.0, h.1, (h.2, h.3)))
    (Decides-some _ (λ a. IsOfColor color (piece_at squares a) × Attacks squares a s)
    (λ a. Decides-also (is_of_color color (piece_at squares a)) (λ _. attacks squares a s)
    (decides-of_color color (piece_at squares a)) (decides-attacks squares a s)))

unfoldable pub in_check : List (Option Piece) → Color → Bool
in_check squares color =
    any_below (λ k. also (is_piece color King (piece_at squares k)) (λ _. is_attacked squares (opponent color) k)) 64

pub decides-in_check : (squares : List (Option Piece)) (color : Color) → Decides (in_check squares color) (InCheck squares color)
unfolding in_check
decides-in_check squares color =
    Decides-like _ (λ h. (h.0, h.1, h.2.0, h.2.1)) (λ h. (h.0, h.1, (h.2, h.3)))
    (Decides-some _ (λ k. IsPiece color King (piece_at squares k) × IsAttacked squares (opponent color) k)
    (λ k. Decides-also (is_piece color King (piece_at squares k)) (λ _. is_attacked squares (opponent color) k)
    (decides-piece color King (piece_at squares k)) (decides-attacked squares (opponent color) k)))

-- ---- how the pieces move

unfoldable pub is_promotion : Option Role → Bool
is_promotion None = false
is_promotion (Some role) = not (is_role role Pawn) && not (is_role role King)

decides-promotion : (o : Option Role) → Decides (is_promotion o) (IsPromotion o)
unfolding is_promotion is_role
decides-promotion None = Decides-false (λ h. h)
decides-promotion (Some Pawn) = Decides-false (λ h. h)
decides-promotion (Some Knight) = Decides-true tt
decides-promotion (Some Bishop) = Decides-true tt
decides-promotion (Some Rook) = Decides-true tt
decides-promotion (Some Queen) = Decides-true tt
decides-promotion (Some King) = Decides-false (λ h. h)

unfoldable pub promotes : Color → Move → Bool
promotes color m =
    ((rank_of m.to.index == last_rank color) && is_promotion m.promotion)
    || (not (rank_of m.to.index == last_rank color) && is_none m.promotion)

decides-promotes : (color : Color) (m : Move) → Decides (promotes color m) (Promotes color m)
unfolding promotes
decides-promotes color m =
    let last = Decides-eqb (rank_of m.to.index) (last_rank color) in
    Decides-or _ _ (Decides-and _ _ last (decides-promotion m.promotion)) (Decides-and _ _ (Decides-not _ last) (decides-none m.promotion))

unfoldable pub pawn_steps : Position → Move → Bool
pawn_steps p m =
    also (file_of m.from.index == file_of m.to.index) (λ _. also (is_rank_ahead p.turn m.from.index m.to.index)
    (λ _. is_none (piece_at p.squares m.to.index)))

decides-pawn_steps : (p : Position) (m : Move) → Decides (pawn_steps p m) (PawnSteps p m)
unfolding pawn_steps
decides-pawn_steps p m =
    Decides-three _ _ _ (Decides-eqb _ _) (decides-rank_ahead p.turn m.from.index m.to.index) (decides-none (piece_at p.squares m.to.index))

unfoldable pub pawn_double_steps : Position → Move → Bool
pawn_double_steps p m =
    also (rank_of m.from.index == pawn_rank p.turn) (λ _. also (file_of m.from.index == file_of m.to.index)
    (λ _. also (ranks_apart m.from.index m.to.index == 2)
    (λ _. also (is_none (piece_at p.squares (halfway m.from.index m.to.index)))
    (λ _. is_none (piece_at p.squares m.to.index)))))

decides-pawn_double_steps : (p : Position) (m : Move) → Decides (pawn_double_steps p m) (PawnDoubleSteps p m)
unfolding pawn_double_steps
decides-pawn_double_steps p m =
    Decides-five _ _ _ _ _ (Decides-eqb _ _) (Decides-eqb _ _) (Decides-eqb _ _)
    (decides-none (piece_at p.squares (halfway m.from.index m.to.index))) (decides-none (piece_at p.squares m.to.index))

pub decides-square : (o : Option Square) (s : ℕ) → Decides (is_square o s) (IsSquare o s)
decides-square None s = Decides-false (λ h. h)
decides-square (Some square) s = Decides-eqb square.index s

unfoldable pub pawn_captures : Position → Move → Bool
pawn_captures p m =
    is_pawn_diagonal p.turn m.from.index m.to.index
    && (is_of_color (opponent p.turn) (piece_at p.squares m.to.index) || is_square p.en_passant m.to.index)

decides-pawn_captures : (p : Position) (m : Move) → Decides (pawn_captures p m) (PawnCaptures p m)
unfolding pawn_captures
decides-pawn_captures p m =
    Decides-and _ _ (decides-pawn_diagonal p.turn m.from.index m.to.index)
    (Decides-or _ _ (decides-of_color (opponent p.turn) (piece_at p.squares m.to.index)) (decides-square p.en_passant m.to.index))

unfoldable pub castles_to : Side → Position → Move → Bool
castles_to side p m =
    also (has_right p.rights p.turn side) (λ _. also (m.from.index == king_home p.turn)
    (λ _. also (m.to.index == king_target p.turn side) (λ _. also (is_piece p.turn King (piece_at p.squares m.from.index))
    (λ _. is_open p.squares (king_home p.turn) (rook_home p.turn side)))))

decides-castles_to : (side : Side) (p : Position) (m : Move) → Decides (castles_to side p m) (CastlesTo side p m)
unfolding castles_to
decides-castles_to side p m =
    Decides-five _ _ _ _ _ (Decides-self (has_right p.rights p.turn side)) (Decides-eqb _ _) (Decides-eqb _ _)
    (decides-piece p.turn King (piece_at p.squares m.from.index)) (decides-open p.squares (king_home p.turn) (rook_home p.turn side))

unfoldable pub castles : Position → Move → Bool
castles p m = castles_to Short p m || castles_to Long p m

pub decides-castles : (p : Position) (m : Move) → Decides (castles p m) (Castles p m)
unfolding castles
decides-castles p m = Decides-or _ _ (decides-castles_to Short p m) (decides-castles_to Long p m)

unfoldable pub attacks_quietly : Position → Move → Bool
attacks_quietly p m = also (is_none m.promotion) (λ _. attacks p.squares m.from.index m.to.index)

decides-attacks_quietly : (p : Position) (m : Move)
    → Decides (attacks_quietly p m) (Attacks p.squares m.from.index m.to.index × (m.promotion ≡ None))
unfolding attacks_quietly
decides-attacks_quietly p m =
    Decides-second_first (λ _. attacks p.squares m.from.index m.to.index) (is_none m.promotion)
    (decides-attacks p.squares m.from.index m.to.index) (decides-none m.promotion)

unfoldable pub role_moves : Position → Role → Move → Bool
role_moves p Pawn m =
    also (promotes p.turn m) (λ _. pawn_steps p m || (pawn_double_steps p m || pawn_captures p m))
role_moves p Knight m = attacks_quietly p m
role_moves p Bishop m = attacks_quietly p m
role_moves p Rook m = attacks_quietly p m
role_moves p Queen m = attacks_quietly p m
role_moves p King m =
    also (is_none m.promotion) (λ _. attacks p.squares m.from.index m.to.index || castles p m)

decides-role_moves : (p : Position) (role : Role) (m : Move) → Decides (role_moves p role m) (RoleMoves p role m)
unfolding role_moves
decides-role_moves p Pawn m =
    let goes = Decides-or _ _ (decides-pawn_double_steps p m) (decides-pawn_captures p m) in
    Decides-second_first (λ _. pawn_steps p m || (pawn_double_steps p m || pawn_captures p m)) (promotes p.turn m)
    (Decides-or _ _ (decides-pawn_steps p m) goes) (decides-promotes p.turn m)
decides-role_moves p Knight m = decides-attacks_quietly p m
decides-role_moves p Bishop m = decides-attacks_quietly p m
decides-role_moves p Rook m = decides-attacks_quietly p m
decides-role_moves p Queen m = decides-attacks_quietly p m
decides-role_moves p King m =
    Decides-second_first (λ _. attacks p.squares m.from.index m.to.index || castles p m) (is_none m.promotion)
    (Decides-or _ _ (decides-attacks p.squares m.from.index m.to.index) (decides-castles p m)) (decides-none m.promotion)

unfoldable pub piece_moves : Position → Option Piece → Move → Bool
piece_moves p None m = false
piece_moves p (Some piece) m = role_moves p piece.role m

decides-piece_moves : (p : Position) (o : Option Piece) (m : Move) → Decides (piece_moves p o m) (PieceMoves p o m)
unfolding piece_moves
decides-piece_moves p None m = Decides-false (λ h. h)
decides-piece_moves p (Some piece) m = decides-role_moves p piece.role m

unfoldable pub is_pseudo_legal : Position → Move → Bool
is_pseudo_legal p m =
    also (is_of_color p.turn (piece_at p.squares m.from.index)) (λ _. also (not (is_of_color p.turn (piece_at p.squares m.to.index)))
    (λ _. piece_moves p (piece_at p.squares m.from.index) m))

pub decides-pseudo_legal : (p : Position) (m : Move) → Decides (is_pseudo_legal p m) (PseudoLegal p m)
unfolding is_pseudo_legal
decides-pseudo_legal p m =
    Decides-three _ _ _ (decides-of_color p.turn (piece_at p.squares m.from.index))
    (Decides-not _ (decides-of_color p.turn (piece_at p.squares m.to.index))) (decides-piece_moves p (piece_at p.squares m.from.index) m)

-- ---- legal moves

unfoldable pub is_path_safe : Position → Move → Bool
is_path_safe p m =
    also (not (is_attacked p.squares (opponent p.turn) m.from.index))
    (λ _. also (not (is_attacked p.squares (opponent p.turn) (halfway m.from.index m.to.index)))
    (λ _. not (is_attacked p.squares (opponent p.turn) m.to.index)))

decides-path_safe : (p : Position) (m : Move) → Decides (is_path_safe p m) (IsCastlingPathSafe p m)
unfolding is_path_safe
decides-path_safe p m =
    let safe = λ (s : ℕ). Decides-not _ (decides-attacked p.squares (opponent p.turn) s) in
    Decides-three _ _ _ (safe m.from.index) (safe (halfway m.from.index m.to.index)) (safe m.to.index)

unfoldable pub is_legal : Position → Move → Bool
is_legal p m =
    also (is_pseudo_legal p m) (λ _. also (not (in_check (squares_after p m) p.turn))
    (λ _. not (castles p m) || is_path_safe p m))

pub decides-legal : (p : Position) (m : Move) → Decides (is_legal p m) (Legal p m)
unfolding is_legal
decides-legal p m =
    Decides-three _ _ _ (decides-pseudo_legal p m) (Decides-not _ (decides-in_check (squares_after p m) p.turn))
    (Decides-implies _ _ (decides-castles p m) (decides-path_safe p m))

-- ---- each legal move

-- the second test is asked only where the first holds
unfoldable pub wherever : Bool → (⊤ → Bool) → Bool
wherever true test = test tt
wherever false test = true

wherever_holds : (x : Bool) (test : ⊤ → Bool) → wherever x test ≡ true → x ≡ true → test tt ≡ true
unfolding wherever
wherever_holds true test h e = h
wherever_holds false test h e = absurd (true≢false (sym e))

unfoldable pub square_at : ℕ → Square
square_at n = record { index = n % 64; on_board = mod-lt n (lit< tt) }

-- nothing is 0
unfoldable pub promotion_at : ℕ → Option Role
promotion_at zero = None
promotion_at (suc n) = Some (role_at n)

unfoldable pub move_at : ℕ → ℕ → ℕ → Move
move_at from to promotion = record { from = square_at from; to = square_at to; promotion = promotion_at promotion }

square_again : (s : Square) → square_at s.index ≡ s
unfolding square_at
square_again s = square_eq (square_at s.index) s (mod-eq_of_lt s.on_board)

promotion_again : (o : Option Role) → promotion_at (promotion_number o) ≡ o
unfolding promotion_at role_at
promotion_again None = refl
promotion_again (Some Pawn) = refl
promotion_again (Some Knight) = refl
promotion_again (Some Bishop) = refl
promotion_again (Some Rook) = refl
promotion_again (Some Queen) = refl
promotion_again (Some King) = refl

promotion_below : (o : Option Role) → promotion_number o < 7
promotion_below None = lit< tt
promotion_below (Some Pawn) = lit< tt
promotion_below (Some Knight) = lit< tt
promotion_below (Some Bishop) = lit< tt
promotion_below (Some Rook) = lit< tt
promotion_below (Some Queen) = lit< tt
promotion_below (Some King) = lit< tt

move_again : (m : Move) → move_at m.from.index m.to.index (promotion_number m.promotion) ≡ m
unfolding move_at
move_again m =
    let from = square_again m.from in
    let to = square_again m.to in
    let promotion = promotion_again m.promotion in
    λ i. record { from = from i; to = to i; promotion = promotion i }

-- the test holds of each legal move to such a square
unfoldable pub for_each_legal_to : Position → (ℕ → Bool) → (Move → Bool) → Bool
for_each_legal_to p is_goal test =
    all_below (λ from. wherever (is_of_color p.turn (piece_at p.squares from)) (λ _. all_below (λ to. wherever (is_goal to)
    (λ _. all_below (λ n. wherever (is_legal p (move_at from to n)) (λ _. test (move_at from to n))) 7)) 64)) 64

pub each_legal_to : (p : Position) (is_goal : ℕ → Bool) (test : Move → Bool) → for_each_legal_to p is_goal test ≡ true
    → (m : Move) → is_goal m.to.index ≡ true → Legal p m → test m ≡ true
unfolding for_each_legal_to
each_legal_to p is_goal test each m ends legal =
    let of_move : Move → Bool = λ o. wherever (is_legal p o) (λ _. test o) in
    let of_ends : ℕ → ℕ → Bool = λ from to. all_below (λ n. of_move (move_at from to n)) 7 in
    let of_goal : ℕ → ℕ → Bool = λ from to. wherever (is_goal to) (λ _. of_ends from to) in
    let of_start : ℕ → Bool = λ from. wherever (is_of_color p.turn (piece_at p.squares from)) (λ _. all_below (of_goal from) 64) in
    let start : of_start m.from.index ≡ true = all_below-at of_start 64 each m.from.index m.from.on_board in
    let own = (decides-of_color p.turn (piece_at p.squares m.from.index)).1 legal.0.0 in
    let goals : all_below (of_goal m.from.index) 64 ≡ true = wherever_holds _ (λ _. all_below (of_goal m.from.index) 64) start own in
    let goal : of_goal m.from.index m.to.index ≡ true = all_below-at (of_goal m.from.index) 64 goals m.to.index m.to.on_board in
    let both : of_ends m.from.index m.to.index ≡ true = wherever_holds (is_goal m.to.index) (λ _. of_ends m.from.index m.to.index) goal ends in
    let one : of_move (move_at m.from.index m.to.index (promotion_number m.promotion)) ≡ true =
    all_below-at (λ n. of_move (move_at m.from.index m.to.index n)) 7 both (promotion_number m.promotion) (promotion_below m.promotion) in
    let P : Move → Type 0 = λ o. of_move o ≡ true in
    wherever_holds (is_legal p m) (λ _. test m) (subst P (move_again m) one) ((decides-legal p m).1 legal)

-- the test holds of each legal move
unfoldable pub for_each_legal : Position → (Move → Bool) → Bool
for_each_legal p test = for_each_legal_to p (λ to. true) test

pub each_legal : (p : Position) (test : Move → Bool) → for_each_legal p test ≡ true → (m : Move) → Legal p m → test m ≡ true
unfolding for_each_legal
each_legal p test each m legal = each_legal_to p (λ to. true) test each m refl legal

-- no legal move leads from the one square to the other
pub none_leads : (p : Position) (from to : ℕ)
    → for_each_legal_to p (λ s. s == to) (λ m. not (m.from.index == from)) ≡ true
    → (m : Move) → m.from.index ≡ from → m.to.index ≡ to → ¬ Legal p m
none_leads p from to each m starts ends legal =
    let other = each_legal_to p (λ s. s == to) (λ o. not (o.from.index == from)) each m ((Decides-eqb m.to.index to).1 ends) legal in
    (Decides-not _ (Decides-eqb m.from.index from)).0 other starts

-- ---- the same position

-- no legal move of a pawn goes to the en passant square
unfoldable pub has_no_en_passant : Position → Bool
has_no_en_passant p = for_each_legal_to p (is_square p.en_passant) (λ m. not (is_piece p.turn Pawn (piece_at p.squares m.from.index)))

pub no_en_passant : (p : Position) → has_no_en_passant p ≡ true → (s : ℕ) → ¬ CanCaptureEnPassant p s
unfolding has_no_en_passant
no_en_passant p none s h =
    let m : Move = h.1.0 in
    let test : Move → Bool = λ m. not (is_piece p.turn Pawn (piece_at p.squares m.from.index)) in
    let P : ℕ → Type 0 = λ n. IsSquare p.en_passant n in
    let ends = (decides-square p.en_passant m.to.index).1 (subst P (sym h.1.2) h.0) in
    let no_pawn = each_legal_to p (is_square p.en_passant) test none m ends h.1.3 in
    (Decides-not _ (decides-piece p.turn Pawn (piece_at p.squares m.from.index))).0 no_pawn h.1.1

-- positions whose pieces, turn and rights are equal, and where no pawn can be taken en passant
pub same_by : (p q : Position) → p.squares ≡ q.squares → p.turn ≡ q.turn → p.rights ≡ q.rights
    → has_no_en_passant p ≡ true → has_no_en_passant q ≡ true → Same p q
same_by p q squares turn rights none_p none_q =
    (squares, turn, rights, λ s. (λ h. absurd (no_en_passant p none_p s h), λ h. absurd (no_en_passant q none_q s h)))

-- a square that is empty in one of them and not in the other
pub apart_by : (p q : Position) (s : ℕ) → is_none (piece_at p.squares s) ≡ true → is_none (piece_at q.squares s) ≡ false → ¬ Same p q
apart_by p q s empty filled h =
    true≢false (sym empty ∙ ap (λ squares. is_none (piece_at squares s)) h.0 ∙ filled)

-- ---- equal moves

unfoldable pub is_same_promotion : Option Role → Option Role → Bool
is_same_promotion a b = promotion_number a == promotion_number b

pub decides-same_promotion : (a b : Option Role) → Decides (is_same_promotion a b) (a ≡ b)
unfolding is_same_promotion
decides-same_promotion a b =
    let same = Decides-eqb (promotion_number a) (promotion_number b) in
    (λ h. sym (promotion_again a) ∙ ap promotion_at (same.0 h) ∙ promotion_again b, λ e. same.1 (ap promotion_number e))

pub same_move : (m o : Move) → is_same_move m o ≡ true → m ≡ o
same_move m o e =
    let same_from : Bool = m.from.index == o.from.index in
    let same_to : Bool = m.to.index == o.to.index in
    let squares = and_parts (same_from && same_to) (promotion_number m.promotion == promotion_number o.promotion) e in
    let ends = and_parts same_from same_to squares.0 in
    let from = square_eq m.from o.from ((Decides-eqb _ _).0 ends.0) in
    let to = square_eq m.to o.to ((Decides-eqb _ _).0 ends.1) in
    let promotion = sym (promotion_again m.promotion) ∙ ap promotion_at ((Decides-eqb _ _).0 squares.1) ∙ promotion_again o.promotion in
    λ i. record { from = from i; to = to i; promotion = promotion i }

-- ---- valid positions

unfoldable pub is_pawn_inside : List (Option Piece) → ℕ → Bool
is_pawn_inside squares s = not (is_pawn_at (piece_at squares s)) || (not (rank_of s == 0) && not (rank_of s == 7))

decides-pawn : (o : Option Piece) → Decides (is_pawn_at o) (IsPawn o)
decides-pawn None = Decides-false (λ h. h)
decides-pawn (Some piece) = decides-is_pawn piece.role
  where
    decides-is_pawn : (role : Role) → Decides (is_pawn role) (role ≡ Pawn)
    decides-is_pawn Pawn = Decides-true refl
    decides-is_pawn Knight = Decides-false (λ e. true≢false (sym (ap is_pawn e)))
    decides-is_pawn Bishop = Decides-false (λ e. true≢false (sym (ap is_pawn e)))
    decides-is_pawn Rook = Decides-false (λ e. true≢false (sym (ap is_pawn e)))
    decides-is_pawn Queen = Decides-false (λ e. true≢false (sym (ap is_pawn e)))
    decides-is_pawn King = Decides-false (λ e. true≢false (sym (ap is_pawn e)))

unfoldable pub has_pawns_inside : List (Option Piece) → Bool
has_pawns_inside squares = all_below (is_pawn_inside squares) 64

decides-pawns_inside : (squares : List (Option Piece)) → Decides (has_pawns_inside squares) (HasPawnsInside squares)
unfolding has_pawns_inside is_pawn_inside
decides-pawns_inside squares =
    Decides-each (is_pawn_inside squares) (λ s. IsPawn (piece_at squares s) → (rank_of s ≢ 0) × (rank_of s ≢ 7))
    (λ s. Decides-implies _ _ (decides-pawn (piece_at squares s))
    (Decides-and _ _ (Decides-not _ (Decides-eqb (rank_of s) 0)) (Decides-not _ (Decides-eqb (rank_of s) 7))))

unfoldable pub right_stands : Position → Color → Side → Bool
right_stands p color side =
    not (has_right p.rights color side)
    || (is_piece color King (piece_at p.squares (king_home color)) && is_piece color Rook (piece_at p.squares (rook_home color side)))

decides-right_stands : (p : Position) (color : Color) (side : Side) → Decides (right_stands p color side) (RightStands p color side)
unfolding right_stands
decides-right_stands p color side =
    Decides-implies _ _ (Decides-self (has_right p.rights color side))
    (Decides-and _ _ (decides-piece color King (piece_at p.squares (king_home color))) (decides-piece color Rook (piece_at p.squares (rook_home color side))))

unfoldable pub has_crossed : List (Option Piece) → Color → ℕ → Bool
has_crossed squares White s =
    also (rank_of s == 5) (λ _. also (is_none (piece_at squares s)) (λ _. also (is_none (piece_at squares (s + 8)))
    (λ _. is_piece Black Pawn (piece_at squares (s - 8)))))
has_crossed squares Black s =
    also (rank_of s == 2) (λ _. also (is_none (piece_at squares s)) (λ _. also (is_none (piece_at squares (s - 8)))
    (λ _. is_piece White Pawn (piece_at squares (s + 8)))))

pub decides-crossed : (squares : List (Option Piece)) (color : Color) (s : ℕ) → Decides (has_crossed squares color s) (HasCrossed squares color s)
unfolding has_crossed
decides-crossed squares White s =
    Decides-four _ _ _ _ (Decides-eqb _ _) (decides-none (piece_at squares s)) (decides-none (piece_at squares (s + 8))) (decides-piece Black Pawn (piece_at squares (s - 8)))
decides-crossed squares Black s =
    Decides-four _ _ _ _ (Decides-eqb _ _) (decides-none (piece_at squares s)) (decides-none (piece_at squares (s - 8))) (decides-piece White Pawn (piece_at squares (s + 8)))

unfoldable pub en_passant_stands_at : List (Option Piece) → Color → Option Square → Bool
en_passant_stands_at squares color None = true
en_passant_stands_at squares color (Some square) = has_crossed squares color square.index

en_passant-stands : (squares : List (Option Piece)) (color : Color) (o : Option Square) → en_passant_stands_at squares color o ≡ true
    → (s : ℕ) → IsSquare o s → HasCrossed squares color s
unfolding en_passant_stands_at
en_passant-stands squares color None e s h = absurd h
en_passant-stands squares color (Some square) e s h =
    let P : ℕ → Type 0 = λ n. HasCrossed squares color n in subst P h ((decides-crossed squares color square.index).0 e)

unfoldable pub has_pieces : List (Option Piece) → Color → Bool
has_pieces squares color = (count_by (is_king_of color) squares == 1) && nat_le (count_by (is_of_color color) squares) 16

decides-pieces : (squares : List (Option Piece)) (color : Color) → Decides (has_pieces squares color) (HasPieces squares color)
unfolding has_pieces
decides-pieces squares color = Decides-and _ _ (Decides-eqb _ _) (Decides-leb _ _)

unfoldable pub rights_stand : Position → Bool
rights_stand p =
    (right_stands p White Short && right_stands p White Long) && (right_stands p Black Short && right_stands p Black Long)

rights-stand : (p : Position) → rights_stand p ≡ true → RightsStand p
unfolding rights_stand
rights-stand p e White Short =
    let white = (and_parts (right_stands p White Short && right_stands p White Long) _ e).0 in
    (decides-right_stands p White Short).0 (and_parts (right_stands p White Short) _ white).0
rights-stand p e White Long =
    let white = (and_parts (right_stands p White Short && right_stands p White Long) _ e).0 in
    (decides-right_stands p White Long).0 (and_parts (right_stands p White Short) _ white).1
rights-stand p e Black Short =
    let black = (and_parts (right_stands p White Short && right_stands p White Long) _ e).1 in
    (decides-right_stands p Black Short).0 (and_parts (right_stands p Black Short) _ black).0
rights-stand p e Black Long =
    let black = (and_parts (right_stands p White Short && right_stands p White Long) _ e).1 in
    (decides-right_stands p Black Long).0 (and_parts (right_stands p Black Short) _ black).1

unfoldable pub is_valid : Position → Bool
is_valid p =
    (length p.squares == 64) && (has_pieces p.squares White && (has_pieces p.squares Black && (has_pawns_inside p.squares
    && (not (in_check p.squares (opponent p.turn)) && (rights_stand p && en_passant_stands_at p.squares p.turn p.en_passant)))))

pub valid : (p : Position) → is_valid p ≡ true → IsValid p
unfolding is_valid
valid p e =
    let board = and_parts (length p.squares == 64) _ e in
    let white = and_parts (has_pieces p.squares White) _ board.1 in
    let black = and_parts (has_pieces p.squares Black) _ white.1 in
    let pawns = and_parts (has_pawns_inside p.squares) _ black.1 in
    let quiet = and_parts (not (in_check p.squares (opponent p.turn))) _ pawns.1 in
    let rights = and_parts (rights_stand p) _ quiet.1 in
    record {
      board = (Decides-eqb _ _).0 board.0;
      white = (decides-pieces p.squares White).0 white.0;
      black = (decides-pieces p.squares Black).0 black.0;
      pawns = (decides-pawns_inside p.squares).0 pawns.0;
      not_in_check = (Decides-not _ (decides-in_check p.squares (opponent p.turn))).0 quiet.0;
      rights = rights-stand p rights.0;
      en_passant = en_passant-stands p.squares p.turn p.en_passant rights.1;
    }

-- ---- computing

-- what is unfolded where these programs compute
unfoldable pub chess_computes : ⊤
unfolding also all_below any_below is_role is_piece is_rook_line is_bishop_line is_aligned is_between is_open is_rank_ahead is_pawn_diagonal is_knight_step is_king_step attacks_as attacks_from attacks is_attacked in_check is_promotion promotes pawn_steps pawn_double_steps pawn_captures castles_to castles attacks_quietly role_moves piece_moves is_pseudo_legal is_path_safe is_legal placed squares_after wherever square_at role_at promotion_at move_at for_each_legal_to for_each_legal has_no_en_passant is_same_promotion is_pawn_inside has_pawns_inside right_stands has_crossed en_passant_stands_at has_pieces rights_stand is_valid
chess_computes = tt
