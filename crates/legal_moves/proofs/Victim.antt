-- A legal move takes at most one piece, which is none of the mover's and no king.
use Rattle.std.proofs.Common.{◌≡◌, ◌≢◌, ℕ, ◌+◌, ◌<◌, ◌⊎◌, Bool, true, false, List, length, set, Option, None, refl, sym, ap, ◌∙◌, subst, inl, inr, arith, get_or-set_other}
use Rattle.std.specs.List.{sum_by}
use Rattle.std.proofs.lemmas.List.Sums.{sum_by-set}
use Rattle.explorer_model.specs.declared.chess.Color.{Color}
use Rattle.explorer_model.specs.declared.chess.Role.{Role}
use Rattle.explorer_model.specs.declared.chess.Role.TheVariants.{Pawn, Knight, Bishop, Rook, Queen, King}
use Rattle.explorer_model.specs.declared.chess.Piece.{Piece}
use Rattle.explorer_model.specs.declared.chess.Position.{Position}
use Rattle.explorer_model.specs.declared.chess.Move.{Move}
use Rattle.explorer_model.specs.Board.{halfway, opponent, piece_of, piece_at, IsOfColor, IsPiece, RoleAttacks, PieceAttacks, Attacks}
use Rattle.explorer_model.specs.Chess.{rook_home, IsValid, PawnSteps, PawnDoubleSteps, PawnCaptures, Castles, RoleMoves, PseudoLegal, takes_en_passant, captured_en_passant, is_castling, castling_side, arriving, squares_after}
use Rattle.legal_moves.proofs.Writes.{length-set_64, moved, plain_writes, taking_writes, castling_writes, passed_pawn_on_board, rook_home_on_board, halfway_on_board}
use Rattle.legal_moves.proofs.Facts.{Mover, mover, no_such_piece, no_piece, is_own, opponent-opponent, piece_not_own, castles_to_empty, Castling, castling, Taking, taking}

-- No king is taken: it would be in check while the other side moves.

own_attack : (p : Position) (m : Move) (role : Role) → piece_at p.squares m.from.index ≡ piece_of p.turn role
    → RoleAttacks p.squares p.turn role m.from.index m.to.index → Attacks p.squares m.from.index m.to.index
own_attack p m role stands attack =
    let P : Option Piece → Type 0 = λ o. PieceAttacks p.squares o m.from.index m.to.index in subst P (sym stands) attack

pawn_attacks : (p : Position) (m : Move) → IsPiece (opponent p.turn) King (piece_at p.squares m.to.index)
    → piece_at p.squares m.from.index ≡ piece_of p.turn Pawn → PawnSteps p m ⊎ PawnDoubleSteps p m ⊎ PawnCaptures p m
    → Attacks p.squares m.from.index m.to.index
pawn_attacks p m king stands (inl s) = absurd (no_such_piece _ _ _ s.2 king)
pawn_attacks p m king stands (inr (inl s)) = absurd (no_such_piece _ _ _ s.4 king)
pawn_attacks p m king stands (inr (inr s)) = own_attack p m Pawn stands s.0

king_attacks : (p : Position) (m : Move) → IsPiece (opponent p.turn) King (piece_at p.squares m.to.index)
    → Attacks p.squares m.from.index m.to.index ⊎ Castles p m → Attacks p.squares m.from.index m.to.index
king_attacks p m king (inl s) = s
king_attacks p m king (inr c) = absurd (no_such_piece _ _ _ (castles_to_empty p m c) king)

goes_attacks : (p : Position) (m : Move) → IsPiece (opponent p.turn) King (piece_at p.squares m.to.index) → (role : Role)
    → piece_at p.squares m.from.index ≡ piece_of p.turn role → RoleMoves p role m → Attacks p.squares m.from.index m.to.index
goes_attacks p m king Pawn stands goes = pawn_attacks p m king stands goes.0
goes_attacks p m king Knight stands goes = goes.0
goes_attacks p m king Bishop stands goes = goes.0
goes_attacks p m king Rook stands goes = goes.0
goes_attacks p m king Queen stands goes = goes.0
goes_attacks p m king King stands goes = king_attacks p m king goes.0

pub no_king_taken : (p : Position) (m : Move) → IsValid p → Mover p m → IsPiece (opponent p.turn) King (piece_at p.squares m.to.index) → ⊥
no_king_taken p m v mover king =
    let Own : Color → Type 0 = λ c. IsOfColor c (piece_at p.squares m.from.index) in
    let own : IsOfColor (opponent (opponent p.turn)) (piece_at p.squares m.from.index) =
    subst Own (sym (opponent-opponent p.turn)) (is_own p.turn mover.role _ mover.stands) in
    v.not_in_check (m.to.index, m.to.on_board, king, (m.from.index, m.from.on_board, own, goes_attacks p m king mover.role mover.stands mover.goes))

-- What a write changes in a sum over the squares.

sum_by-write : (f : Option Piece → ℕ) (xs : List (Option Piece)) (i : ℕ) (occupant : Option Piece) → length xs ≡ 64 → i < 64
    → sum_by f (set xs i occupant) + f (piece_at xs i) ≡ sum_by f xs + f occupant
sum_by-write f xs i occupant whole on = sum_by-set f xs i occupant None (let h : length xs ≡ 64 = whole in omega arith)

piece_at-other : (xs : List (Option Piece)) (i j : ℕ) (occupant : Option Piece) → j ≢ i → piece_at (set xs i occupant) j ≡ piece_at xs j
piece_at-other xs i j occupant other = get_or-set_other xs i j occupant None other

-- the sum over the squares after a piece has gone
moved_sum : (after empty arrives from to xs emptied moved : ℕ)
    → emptied + from ≡ xs + empty → moved + to ≡ emptied + arrives → empty ≡ 0 → arrives ≡ from → moved + to ≡ xs
moved_sum after empty arrives from to xs emptied moved a b c d = omega arith

sum_by-moved : (f : Option Piece → ℕ) (xs : List (Option Piece)) (from to : ℕ) (occupant : Option Piece) → length xs ≡ 64 → from < 64 → to < 64
    → to ≢ from → f None ≡ 0 → f occupant ≡ f (piece_at xs from) → sum_by f (moved xs from to occupant) + f (piece_at xs to) ≡ sum_by f xs
sum_by-moved f xs from to occupant whole from_on to_on apart nothing same =
    let one : sum_by f (set xs from None) + f (piece_at xs from) ≡ sum_by f xs + f None = sum_by-write f xs from None whole from_on in
    let two : sum_by f (moved xs from to occupant) + f (piece_at (set xs from None) to) ≡ sum_by f (set xs from None) + f occupant =
    sum_by-write f (set xs from None) to occupant (length-set_64 xs from None whole) to_on in
    let there : f (piece_at (set xs from None) to) ≡ f (piece_at xs to) = ap f (piece_at-other xs from to None apart) in
    omega arith

pub record Victim (p : Position) (m : Move) : Type 0 where
  pub square : ℕ
  pub not_own : IsOfColor p.turn (piece_at p.squares square) → ⊥
  pub no_king : IsPiece (opponent p.turn) King (piece_at p.squares square) → ⊥
  pub counted : (f : Option Piece → ℕ) → f None ≡ 0 → f (arriving (piece_at p.squares m.from.index) m.promotion) ≡ f (piece_at p.squares m.from.index)
      → sum_by f (squares_after p m) + f (piece_at p.squares square) ≡ sum_by f p.squares

to_not_from : (p : Position) (m : Move) → Mover p m → (IsOfColor p.turn (piece_at p.squares m.to.index) → ⊥) → m.to.index ≢ m.from.index
to_not_from p m mover not_own e = not_own (is_own p.turn mover.role _ (ap (piece_at p.squares) e ∙ mover.stands))

plain_victim : (p : Position) (m : Move) → IsValid p → Mover p m → (IsOfColor p.turn (piece_at p.squares m.to.index) → ⊥)
    → takes_en_passant p m ≡ false → is_castling p m ≡ false → Victim p m
plain_victim p m v mover not_own no_taking no_castling = record {
  square = m.to.index;
  not_own = not_own;
  no_king = no_king_taken p m v mover;
  counted = λ f nothing same.
      ap (λ xs. sum_by f xs + f (piece_at p.squares m.to.index)) (sym (plain_writes p m v.board no_taking no_castling))
      ∙ sum_by-moved f p.squares _ _ _ v.board m.from.on_board m.to.on_board (to_not_from p m mover not_own) nothing same;
}

king_not_pawn : (c d : Color) (o : Option Piece) → o ≡ piece_of c Pawn → IsPiece d King o → ⊥
king_not_pawn c d o e h =
    let P : Option Piece → Type 0 = λ o. IsPiece d King o in let k : Pawn ≡ King = (subst P e h).1 in cc

taking_sum : (f : Option Piece → ℕ) (p : Position) (m : Move) → length p.squares ≡ 64 → takes_en_passant p m ≡ true → m.to.index ≢ m.from.index
    → Taking p m → f None ≡ 0 → f (arriving (piece_at p.squares m.from.index) m.promotion) ≡ f (piece_at p.squares m.from.index)
    → sum_by f (squares_after p m) + f (piece_at p.squares (captured_en_passant m)) ≡ sum_by f p.squares
taking_sum f p m whole taken apart t nothing same =
    let xs : List (Option Piece) = set p.squares (captured_en_passant m) None in
    let whole_xs : length xs ≡ 64 = length-set_64 p.squares (captured_en_passant m) None whole in
    let away : sum_by f xs + f (piece_at p.squares (captured_en_passant m)) ≡ sum_by f p.squares + f None =
    sum_by-write f p.squares (captured_en_passant m) None whole (passed_pawn_on_board m) in
    let at_from : piece_at xs m.from.index ≡ piece_at p.squares m.from.index =
    piece_at-other p.squares (captured_en_passant m) m.from.index None (λ e. t.passed_from (sym e)) in
    let at_to : f (piece_at xs m.to.index) ≡ f None =
    ap f (piece_at-other p.squares (captured_en_passant m) m.to.index None (λ e. t.passed_to (sym e)) ∙ t.to_empty) in
    let gone : sum_by f (moved xs m.from.index m.to.index (arriving (piece_at p.squares m.from.index) m.promotion)) + f (piece_at xs m.to.index) ≡ sum_by f xs =
    sum_by-moved f xs _ _ _ whole_xs m.from.on_board m.to.on_board apart nothing (same ∙ sym (ap f at_from)) in
    let is_after : sum_by f (moved xs m.from.index m.to.index (arriving (piece_at p.squares m.from.index) m.promotion)) ≡ sum_by f (squares_after p m) =
    ap (sum_by f) (taking_writes p m whole taken) in
    omega arith

taking_victim : (p : Position) (m : Move) → IsValid p → Mover p m → (IsOfColor p.turn (piece_at p.squares m.to.index) → ⊥)
    → takes_en_passant p m ≡ true → Victim p m
taking_victim p m v mover not_own taken =
    let t : Taking p m = taking p m v mover taken in
    record {
      square = captured_en_passant m;
      not_own = piece_not_own p.turn Pawn _ t.passed;
      no_king = king_not_pawn _ _ _ t.passed;
      counted = λ f nothing same. taking_sum f p m v.board taken (to_not_from p m mover not_own) t nothing same;
    }

castling_sum : (f : Option Piece → ℕ) (p : Position) (m : Move) → length p.squares ≡ 64 → takes_en_passant p m ≡ false → is_castling p m ≡ true
    → Castling p m → f None ≡ 0 → f (arriving (piece_at p.squares m.from.index) m.promotion) ≡ f (piece_at p.squares m.from.index)
    → sum_by f (squares_after p m) + f (piece_at p.squares m.to.index) ≡ sum_by f p.squares
castling_sum f p m whole no_taking castled c nothing same =
    let crossed : ℕ = halfway m.from.index m.to.index in
    let home : ℕ = rook_home p.turn (castling_side m) in
    let rook : Option Piece = piece_of p.turn Rook in
    let xs : List (Option Piece) = set p.squares crossed rook in
    let ys : List (Option Piece) = set xs home None in
    let whole_xs : length xs ≡ 64 = length-set_64 p.squares crossed rook whole in
    let whole_ys : length ys ≡ 64 = length-set_64 xs home None whole_xs in
    let put : sum_by f xs + f (piece_at p.squares crossed) ≡ sum_by f p.squares + f rook =
    sum_by-write f p.squares crossed rook whole (halfway_on_board _ _ m.from.on_board m.to.on_board) in
    let was_empty : f (piece_at p.squares crossed) ≡ f None = ap f c.crossed_empty in
    let lift : sum_by f ys + f (piece_at xs home) ≡ sum_by f xs + f None = sum_by-write f xs home None whole_xs (rook_home_on_board p.turn (castling_side m)) in
    let was_rook : f (piece_at xs home) ≡ f rook = ap f (piece_at-other p.squares crossed home rook c.apart.home_crossed ∙ c.rook) in
    let at_from : piece_at ys m.from.index ≡ piece_at p.squares m.from.index =
    piece_at-other xs home m.from.index None (λ e. c.apart.home_from (sym e)) ∙ piece_at-other p.squares crossed m.from.index rook (λ e. c.apart.crossed_from (sym e)) in
    let at_to : f (piece_at ys m.to.index) ≡ f (piece_at p.squares m.to.index) =
    ap f (piece_at-other xs home m.to.index None (λ e. c.apart.home_to (sym e)) ∙ piece_at-other p.squares crossed m.to.index rook (λ e. c.apart.crossed_to (sym e))) in
    let gone : sum_by f (moved ys m.from.index m.to.index (arriving (piece_at p.squares m.from.index) m.promotion)) + f (piece_at ys m.to.index) ≡ sum_by f ys =
    sum_by-moved f ys _ _ _ whole_ys m.from.on_board m.to.on_board c.apart.to_from nothing (same ∙ sym (ap f at_from)) in
    let is_after : sum_by f (moved ys m.from.index m.to.index (arriving (piece_at p.squares m.from.index) m.promotion)) ≡ sum_by f (squares_after p m) =
    ap (sum_by f) (castling_writes p m whole no_taking castled) in
    omega arith

castling_victim : (p : Position) (m : Move) → IsValid p → Mover p m → takes_en_passant p m ≡ false → is_castling p m ≡ true → Victim p m
castling_victim p m v mover no_taking castled =
    let c : Castling p m = castling p m v mover castled in
    record {
      square = m.to.index;
      not_own = no_piece p.turn _ c.to_empty;
      no_king = no_such_piece (opponent p.turn) King _ c.to_empty;
      counted = λ f nothing same. castling_sum f p m v.board no_taking castled c nothing same;
    }

victim_by : (p : Position) (m : Move) → IsValid p → Mover p m → (IsOfColor p.turn (piece_at p.squares m.to.index) → ⊥)
    → (takes castles : Bool) → takes_en_passant p m ≡ takes → is_castling p m ≡ castles → Victim p m
victim_by p m v mover not_own true castles taken castled = taking_victim p m v mover not_own taken
victim_by p m v mover not_own false true taken castled = castling_victim p m v mover taken castled
victim_by p m v mover not_own false false taken castled = plain_victim p m v mover not_own taken castled

pub victim : (p : Position) (m : Move) → IsValid p → PseudoLegal p m → Victim p m
victim p m v c = victim_by p m v (mover p m c) c.1 _ _ refl refl
