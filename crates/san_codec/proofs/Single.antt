-- No other legal move agrees with what a legal move is written as.
use Rattle.std.proofs.Common.{◌≡◌, ◌≢◌, ℕ, ◌<◌, ◌||◌, ◌==◌, ◌⊎◌, inl, inr, Bool, true, false, Option, Some, None, is_some, List, refl, sym, subst, ap, ◌∙◌, arith, if◌then◌else◌}
use Rattle.std.proofs.lemmas.Bool.{and_parts, eqb-true, cases_eq, and_from, or_right}
use Rattle.std.proofs.lemmas.Bool.Decides.{Decides-eqb}
use Rattle.explorer_model.specs.declared.chess.Color.{Color}
use Rattle.explorer_model.specs.declared.chess.Color.TheVariants.{White, Black}
use Rattle.explorer_model.specs.declared.chess.Role.{Role}
use Rattle.explorer_model.specs.declared.chess.Role.TheVariants.{Pawn, Knight, Bishop, Rook, Queen, King}
use Rattle.explorer_model.specs.declared.chess.Side.{Side}
use Rattle.explorer_model.specs.declared.chess.Side.TheVariants.{Short, Long}
use Rattle.explorer_model.specs.declared.chess.Piece.{Piece}
use Rattle.explorer_model.specs.declared.chess.Position.{Position}
use Rattle.explorer_model.specs.declared.chess.Move.{Move}
use Rattle.explorer_model.specs.declared.square.Square.{Square as BoardSquare}
use Rattle.explorer_model.specs.declared.notation.Start.{Start}
use Rattle.explorer_model.specs.declared.notation.Start.TheVariants.{Unnamed, File, Rank, Square}
use Rattle.explorer_model.specs.Board.{file_of, rank_of, ranks_apart, halfway, opponent, piece_at, IsOfColor, IsRankAhead, RoleAttacks, PieceAttacks, files_apart}
use Rattle.explorer_model.specs.Chess.{pawn_rank, king_home, king_target, is_pawn, is_pawn_at, is_king_at, is_square, takes_en_passant, is_castling, castling_side, IsValid, HasCrossed, IsSquare, IsPromotion, PawnSteps, PawnDoubleSteps, PawnCaptures, CastlesTo, RoleMoves, Legal}
use Rattle.explorer_model.specs.San.{captures, IsRole, IsAsNamed, PieceStart, StartOf}
use Rattle.explorer_model.proofs.Squares.{square_eq}
use Rattle.san_codec.proofs.Moves.{moves_legally}
use Rattle.san_codec.proofs.Spelling.{file_in, rank_in}
use Rattle.explorer_model.proofs.Pieces.{king_role, square_true}

pub move_eq : (m o : Move) → m.from.index ≡ o.from.index → m.to.index ≡ o.to.index → m.promotion ≡ o.promotion → m ≡ o
move_eq m o from to promotion =
    let f = square_eq m.from o.from from in
    let t = square_eq m.to o.to to in
    λ i. record { from = f i; to = t i; promotion = promotion i }

square_from : (a b : ℕ) → file_of a ≡ file_of b → rank_of a ≡ rank_of b → a ≡ b
square_from a b file rank = omega (arith, file, rank)

-- Tests.

or_left : (a b : Bool) → a ≡ true → (a || b) ≡ true
or_left a b e = ap (λ (x : Bool). x || b) e

or_cases : (a b : Bool) → (a || b) ≡ true → (a ≡ true) ⊎ (b ≡ true)
or_cases true b e = inl refl
or_cases false b e = inr e

pawn_there : (occupant : Option Piece) → IsRole Pawn occupant → is_pawn_at occupant ≡ true
pawn_there None is = absurd is
pawn_there (Some piece) is = ap is_pawn is

king_there : (occupant : Option Piece) → is_king_at occupant ≡ true → IsRole King occupant
king_there None e = cc
king_there (Some piece) e = king_role piece.role e

some_there : (color : Color) (occupant : Option Piece) → IsOfColor color occupant → is_some occupant ≡ true
some_there color None is = absurd is
some_there color (Some piece) is = refl

square_tested : (o : Option BoardSquare) (s : ℕ) → IsSquare o s → is_square o s ≡ true
square_tested None s is = absurd is
square_tested (Some square) s is = (Decides-eqb square.index s).1 is

-- Pieces.

same_piece : (color : Color) (role : Role) (a b : Option Piece) → IsOfColor color a → IsOfColor color b → IsRole role a → IsRole role b → a ≡ b
same_piece color role None b own_a own_b is_a is_b = absurd own_a
same_piece color role (Some a) None own_a own_b is_a is_b = absurd own_b
same_piece color role (Some a) (Some b) own_a own_b is_a is_b =
    let colors = own_a ∙ sym own_b in
    let roles = is_a ∙ sym is_b in
    λ i. Some (record { color = colors i; role = roles i })

own_piece : (p : Position) (m : Move) → Legal p m → IsOfColor p.turn (piece_at p.squares m.from.index)
own_piece p m ((own, free, goes), safe, path) = own

piece_from : (p : Position) (m o : Move) (role : Role) (start : Start) → Legal p m → Legal p o
    → IsRole role (piece_at p.squares m.from.index) → IsRole role (piece_at p.squares o.from.index) → o.to.index ≡ m.to.index
    → PieceStart p m start → IsAsNamed (file_in start m.from.index) (file_of o.from.index) → IsAsNamed (rank_in start m.from.index) (rank_of o.from.index)
    → o.from.index ≡ m.from.index
piece_from p m o role start legal_m legal_o is_m is_o to starts file rank =
    elim (cases_eq o.from.index m.from.index) [ inl same ↦ same | inr differ ↦ absurd (rival start starts file rank differ) ]
  where
    rival : (start : Start) → PieceStart p m start → IsAsNamed (file_in start m.from.index) (file_of o.from.index)
        → IsAsNamed (rank_in start m.from.index) (rank_of o.from.index) → o.from.index ≢ m.from.index → ⊥
    rival Unnamed starts file rank differ =
        starts o (legal_o, (differ, same_piece p.turn role _ _ (own_piece p o legal_o) (own_piece p m legal_m) is_o is_m, to))
    rival File starts file rank differ =
        starts.1 o ((legal_o, (differ, same_piece p.turn role _ _ (own_piece p o legal_o) (own_piece p m legal_m) is_o is_m, to)), file)
    rival Rank starts file rank differ =
        starts.1 o ((legal_o, (differ, same_piece p.turn role _ _ (own_piece p o legal_o) (own_piece p m legal_m) is_o is_m, to)), rank)
    rival Square starts file rank differ = differ (square_from o.from.index m.from.index file rank)

-- Pawns.

captures_taken : (p : Position) (m : Move) → IsRole Pawn (piece_at p.squares m.from.index) → PawnCaptures p m → captures p m ≡ true
captures_taken p m is (diagonal, inl enemy) =
    or_left (is_some (piece_at p.squares m.to.index)) (takes_en_passant p m) (some_there (opponent p.turn) (piece_at p.squares m.to.index) enemy)
captures_taken p m is (diagonal, inr crossed) =
    or_right (is_some (piece_at p.squares m.to.index)) (takes_en_passant p m)
    (and_from (is_pawn_at (piece_at p.squares m.from.index)) (is_square p.en_passant m.to.index)
    (pawn_there (piece_at p.squares m.from.index) is) (square_tested p.en_passant m.to.index crossed))

too_far : (squares : List (Option Piece)) (turn : Color) (from to : ℕ) → from < 64 → to < 64
    → rank_of from ≡ pawn_rank turn → ranks_apart from to ≡ 2 → HasCrossed squares turn to → ⊥
too_far squares White from to on_from on_to first two crossed = omega (arith, crossed.0, first, two)
too_far squares Black from to on_from on_to first two crossed = omega (arith, crossed.0, first, two)

quiet_double : (p : Position) (m : Move) → IsValid p → PawnDoubleSteps p m → captures p m ≡ true → ⊥
quiet_double p m valid (first, file, two, over, onto) takes =
    elim (or_cases (is_some (piece_at p.squares m.to.index)) (takes_en_passant p m) takes) [
      | inl some ↦ let none = ap (λ (occupant : Option Piece). is_some occupant) onto in cc
      | inr passing ↦
          let (pawn, square) = and_parts (is_pawn_at (piece_at p.squares m.from.index)) (is_square p.en_passant m.to.index) passing in
          too_far p.squares p.turn m.from.index m.to.index m.from.on_board m.to.on_board first two
          (valid.en_passant m.to.index (square_true p.en_passant m.to.index square))
    ]

capture_ahead : (p : Position) (m : Move) → IsValid p → RoleMoves p Pawn m → captures p m ≡ true → IsRankAhead p.turn m.from.index m.to.index
capture_ahead p m valid (inl steps, promotes) takes = steps.1
capture_ahead p m valid (inr (inl double), promotes) takes = absurd (quiet_double p m valid double takes)
capture_ahead p m valid (inr (inr (diagonal, target)), promotes) takes = diagonal.0

straight : (p : Position) (m : Move) → IsRole Pawn (piece_at p.squares m.from.index) → RoleMoves p Pawn m → captures p m ≡ false → PawnSteps p m ⊎ PawnDoubleSteps p m
straight p m is (inl steps, promotes) quiet = inl steps
straight p m is (inr (inl double), promotes) quiet = inr double
straight p m is (inr (inr taken), promotes) quiet = let takes = captures_taken p m is taken in cc

same_ahead : (turn : Color) (a b s t : ℕ) → s ≡ t → file_of b ≡ file_of a → IsRankAhead turn a s → IsRankAhead turn b t → b ≡ a
same_ahead White a b s t e file ahead_a ahead_b = omega (arith, e, file, ahead_a, ahead_b)
same_ahead Black a b s t e file ahead_a ahead_b = omega (arith, e, file, ahead_a, ahead_b)

crossed_at : (turn : Color) (a b s t : ℕ) → a < 64 → b < 64 → s < 64 → t < 64 → s ≡ t → file_of a ≡ file_of s → IsRankAhead turn a s
    → rank_of b ≡ pawn_rank turn → file_of b ≡ file_of t → ranks_apart b t ≡ 2 → halfway b t ≡ a
crossed_at White a b s t on_a on_b on_s on_t e file ahead first down two = omega (arith, e, file, ahead, first, down, two)
crossed_at Black a b s t on_a on_b on_s on_t e file ahead first down two = omega (arith, e, file, ahead, first, down, two)

blocked : (p : Position) (m o : Move) → o.to.index ≡ m.to.index → IsRole Pawn (piece_at p.squares m.from.index) → PawnSteps p m → PawnDoubleSteps p o → ⊥
blocked p m o to is (file, ahead, onto) (first, down, two, over, free) =
    let crossed = crossed_at p.turn m.from.index o.from.index m.to.index o.to.index m.from.on_board o.from.on_board m.to.on_board o.to.on_board (sym to) file ahead first down two in
    subst (IsRole Pawn) (sym (ap (piece_at p.squares) crossed) ∙ over) is

straight_from : (p : Position) (m o : Move) → o.to.index ≡ m.to.index → IsRole Pawn (piece_at p.squares m.from.index) → IsRole Pawn (piece_at p.squares o.from.index)
    → PawnSteps p m ⊎ PawnDoubleSteps p m → PawnSteps p o ⊎ PawnDoubleSteps p o → o.from.index ≡ m.from.index
straight_from p m o to is_m is_o (inl (file_m, ahead_m, onto_m)) (inl (file_o, ahead_o, onto_o)) =
    same_ahead p.turn m.from.index o.from.index m.to.index o.to.index (sym to) (file_o ∙ ap file_of to ∙ sym file_m) ahead_m ahead_o
straight_from p m o to is_m is_o (inl steps) (inr double) = absurd (blocked p m o to is_m steps double)
straight_from p m o to is_m is_o (inr double) (inl steps) = absurd (blocked p o m (sym to) is_o steps double)
straight_from p m o to is_m is_o (inr (first_m, file_m, two_m, over_m, onto_m)) (inr (first_o, file_o, two_o, over_o, onto_o)) =
    square_from o.from.index m.from.index (file_o ∙ ap file_of to ∙ sym file_m) (first_o ∙ sym first_m)

pawn_from : (p : Position) (m o : Move) (start : Start) (c : Bool) → IsValid p → Legal p m → Legal p o
    → IsRole Pawn (piece_at p.squares m.from.index) → IsRole Pawn (piece_at p.squares o.from.index) → o.to.index ≡ m.to.index
    → captures p m ≡ c → captures p o ≡ c → start ≡ (if c then File else Unnamed) → IsAsNamed (file_in start m.from.index) (file_of o.from.index)
    → o.from.index ≡ m.from.index
pawn_from p m o start true valid legal_m legal_o is_m is_o to takes_m takes_o starts file =
    let named : file_of o.from.index ≡ file_of m.from.index = subst (λ (s : Start). IsAsNamed (file_in s m.from.index) (file_of o.from.index)) starts file in
    same_ahead p.turn m.from.index o.from.index m.to.index o.to.index (sym to) named
    (capture_ahead p m valid (moves_legally p m Pawn legal_m is_m) takes_m) (capture_ahead p o valid (moves_legally p o Pawn legal_o is_o) takes_o)
pawn_from p m o start false valid legal_m legal_o is_m is_o to takes_m takes_o starts file =
    straight_from p m o to is_m is_o (straight p m is_m (moves_legally p m Pawn legal_m is_m) takes_m) (straight p o is_o (moves_legally p o Pawn legal_o is_o) takes_o)

pub named_from : (p : Position) (m o : Move) (role : Role) (start : Start) → IsValid p → Legal p m → Legal p o
    → IsRole role (piece_at p.squares m.from.index) → IsRole role (piece_at p.squares o.from.index) → o.to.index ≡ m.to.index → captures p o ≡ captures p m
    → StartOf p m role start → IsAsNamed (file_in start m.from.index) (file_of o.from.index) → IsAsNamed (rank_in start m.from.index) (rank_of o.from.index)
    → o.from.index ≡ m.from.index
named_from p m o Pawn start valid legal_m legal_o is_m is_o to takes starts file rank =
    pawn_from p m o start (captures p m) valid legal_m legal_o is_m is_o to refl takes starts file
named_from p m o Knight start valid legal_m legal_o is_m is_o to takes starts file rank = piece_from p m o Knight start legal_m legal_o is_m is_o to starts file rank
named_from p m o Bishop start valid legal_m legal_o is_m is_o to takes starts file rank = piece_from p m o Bishop start legal_m legal_o is_m is_o to starts file rank
named_from p m o Rook start valid legal_m legal_o is_m is_o to takes starts file rank = piece_from p m o Rook start legal_m legal_o is_m is_o to starts file rank
named_from p m o Queen start valid legal_m legal_o is_m is_o to takes starts file rank = piece_from p m o Queen start legal_m legal_o is_m is_o to starts file rank
named_from p m o King start valid legal_m legal_o is_m is_o to takes starts file rank = piece_from p m o King start legal_m legal_o is_m is_o to starts file rank

-- What a legal move may promote to.

promoted_fine : (p : Position) (m : Move) (role : Role) → RoleMoves p role m → (m.promotion ≡ None) ⊎ IsPromotion m.promotion
promoted_fine p m Pawn (goes, inl (last, fine)) = inr fine
promoted_fine p m Pawn (goes, inr (inside, none)) = inl none
promoted_fine p m Knight (goes, none) = inl none
promoted_fine p m Bishop (goes, none) = inl none
promoted_fine p m Rook (goes, none) = inl none
promoted_fine p m Queen (goes, none) = inl none
promoted_fine p m King (goes, none) = inl none

pub promotes_well : (p : Position) (m : Move) (role : Role) → Legal p m → IsRole role (piece_at p.squares m.from.index) → (m.promotion ≡ None) ⊎ IsPromotion m.promotion
promotes_well p m role legal is = promoted_fine p m role (moves_legally p m role legal is)

-- Castling.

side_of : (turn : Color) (side : Side) (m : Move) → m.to.index ≡ king_target turn side → castling_side m ≡ side
side_of White Short m e = ap (λ (s : ℕ). if file_of s == 6 then Short else Long) e
side_of White Long m e = ap (λ (s : ℕ). if file_of s == 6 then Short else Long) e
side_of Black Short m e = ap (λ (s : ℕ). if file_of s == 6 then Short else Long) e
side_of Black Long m e = ap (λ (s : ℕ). if file_of s == 6 then Short else Long) e

king_near : (squares : List (Option Piece)) (occupant : Option Piece) (a b : ℕ) → IsRole King occupant → PieceAttacks squares occupant a b → files_apart a b ≡ 2 → ⊥
king_near squares None a b is attacks two = is
king_near squares (Some piece) a b is attacks two =
    let steps = subst (λ (role : Role). RoleAttacks squares piece.color role a b) is attacks in omega (arith, steps.0, two)

castles : (p : Position) (m : Move) → Legal p m → is_castling p m ≡ true
    → ((side : Side) × (castling_side m ≡ side) × (m.from.index ≡ king_home p.turn) × (m.to.index ≡ king_target p.turn side)) × (m.promotion ≡ None)
castles p m legal is =
    let (king, apart) = and_parts (is_king_at (piece_at p.squares m.from.index)) (files_apart m.from.index m.to.index == 2) is in
    let there = king_there (piece_at p.squares m.from.index) king in
    let two = eqb-true (files_apart m.from.index m.to.index) 2 apart in
    go there two (moves_legally p m King legal there)
  where
    to_side : (side : Side) → CastlesTo side p m → (side : Side) × (castling_side m ≡ side) × (m.from.index ≡ king_home p.turn) × (m.to.index ≡ king_target p.turn side)
    to_side side (right, from, to, king, clear) = (side, side_of p.turn side m to, from, to)

    go : IsRole King (piece_at p.squares m.from.index) → files_apart m.from.index m.to.index ≡ 2 → RoleMoves p King m
        → ((side : Side) × (castling_side m ≡ side) × (m.from.index ≡ king_home p.turn) × (m.to.index ≡ king_target p.turn side)) × (m.promotion ≡ None)
    go there two (inl attacks, none) = absurd (king_near p.squares (piece_at p.squares m.from.index) m.from.index m.to.index there attacks two)
    go there two (inr (inl short), none) = (to_side Short short, none)
    go there two (inr (inr long), none) = (to_side Long long, none)

pub castling_only : (p : Position) (m o : Move) → Legal p m → is_castling p m ≡ true → Legal p o → is_castling p o ≡ true → castling_side o ≡ castling_side m → o ≡ m
castling_only p m o legal_m is_m legal_o is_o side =
    let ((side_m, told_m, from_m, to_m), none_m) = castles p m legal_m is_m in
    let ((side_o, told_o, from_o, to_o), none_o) = castles p o legal_o is_o in
    let same : side_o ≡ side_m = sym told_o ∙ side ∙ told_m in
    move_eq o m (from_o ∙ sym from_m) (to_o ∙ ap (king_target p.turn) same ∙ sym to_m) (none_o ∙ sym none_m)
