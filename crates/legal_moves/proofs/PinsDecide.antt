-- Checks and pins decide where a piece other than the king may go, but for captures en passant.
use Rattle.std.proofs.Common.{◌≡◌, ◌≢◌, ◌↔◌, ℕ, ◌+◌, ◌<◌, ◌≤◌, ◌⊎◌, Bool, true, false, ◌==◌, ◌&&◌, ◌||◌, if◌then◌else◌, List, Option, Some, None, refl, sym, ap, ◌∙◌, subst, inl, inr, arith, ⊎_elim}
use Rattle.std.specs.Bool.{Decides}
use Rattle.std.proofs.lemmas.Bool.{cases_eq}
use Rattle.std.proofs.lemmas.Bool.Decides.{nat_tests, Decides-and, Decides-or, Decides-eqb, Decides-like, not_from_Decides}
use Rattle.step_tables.proofs.Rule.{is_rook_line, is_bishop_line, Decides-is_rook_line, Decides-is_bishop_line}
use Rattle.explorer_model.specs.declared.chess.Color.{Color}
use Rattle.explorer_model.specs.declared.chess.Color.TheVariants.{White, Black}
use Rattle.explorer_model.specs.declared.chess.Role.{Role}
use Rattle.explorer_model.specs.declared.chess.Role.TheVariants.{Pawn, Knight, Bishop, Rook, Queen, King}
use Rattle.explorer_model.specs.declared.chess.Piece.{Piece}
use Rattle.explorer_model.specs.declared.chess.Position.{Position}
use Rattle.explorer_model.specs.declared.chess.Move.{Move}
use Rattle.explorer_model.specs.Board.{rank_of, files_apart, ranks_apart, opponent, piece_of, piece_at, IsEmpty, IsOfColor, IsPiece, PawnDiagonal, KnightStep, IsBetween, IsOpen, RoleAttacks, PieceAttacks, IsAttacked, InCheck}
use Rattle.explorer_model.specs.Chess.{IsValid, PseudoLegal, Castles, Legal, takes_en_passant, is_castling, arriving, placed, squares_after}
use Rattle.legal_moves.specs.Pins.{IsAimed, Pins, Checks, Meets, IsEvasion, StaysOnPins}
use Rattle.legal_moves.proofs.Facts.{Mover, mover, castling, piece_is, is_piece, no_piece, opponent-other}
use Rattle.legal_moves.proofs.Kept.{piece_at-after}
use Rattle.legal_moves.proofs.OneKing.{king_somewhere, king_stayed, check_after}
use Rattle.legal_moves.proofs.WrittenSets.{Arrives, arrives}
use Rattle.legal_moves.proofs.Writes.{placed-by}

-- Between is decided.

abbrev pub is_between : ℕ → ℕ → ℕ → Bool
is_between a s b =
    ((is_rook_line a b && (is_rook_line a s && is_rook_line s b)) || (is_bishop_line a b && (is_bishop_line a s && is_bishop_line s b)))
    && (files_apart a s + files_apart s b == files_apart a b && ranks_apart a s + ranks_apart s b == ranks_apart a b)

pub Decides-is_between : (a s b : ℕ) → Decides (is_between a s b) (IsBetween a s b)
Decides-is_between a s b =
    let rook = Decides-and _ _ (Decides-is_rook_line a b) (Decides-and _ _ (Decides-is_rook_line a s) (Decides-is_rook_line s b)) in
    let bishop = Decides-and _ _ (Decides-is_bishop_line a b) (Decides-and _ _ (Decides-is_bishop_line a s) (Decides-is_bishop_line s b)) in
    let apart = Decides-and _ _ (Decides-eqb (files_apart a s + files_apart s b) (files_apart a b))
    (Decides-eqb (ranks_apart a s + ranks_apart s b) (ranks_apart a b)) in
    Decides-like _
    (λ h. (⊎_elim (λ r. inl (r.0, r.1.0, r.1.1)) (λ d. inr (d.0, d.1.0, d.1.1)) h.0, h.1.0, h.1.1))
    (λ h. (⊎_elim (λ r. inl (r.0, (r.1, r.2))) (λ d. inr (d.0, (d.1, d.2))) h.0, (h.1, h.2)))
    (Decides-and _ _ (Decides-or _ _ rook bishop) apart)

decided : (P : Type 0) (b : Bool) → Decides b P → P ⊎ (P → ⊥)
decided P true d = inl (d.0 refl)
decided P false d = inr (not_from_Decides false d refl)

pub between_or : (a s b : ℕ) → IsBetween a s b ⊎ (IsBetween a s b → ⊥)
between_or a s b = decided (IsBetween a s b) (is_between a s b) (Decides-is_between a s b)

-- What leaps has nothing between.

pub king_near : (a s k : ℕ) → files_apart a k ≤ 1 → ranks_apart a k ≤ 1 → IsBetween a s k → ⊥
king_near a s k f r h = elim h.0 [ inl lines ↦ rook lines.0.0 lines.1.1 lines.2.1 | inr lines ↦ bishop lines.1.0 lines.2.0 lines.1.1 lines.2.1 ]
  where
    apart : (x y : ℕ) → x ≢ y → 1 ≤ files_apart x y + ranks_apart x y
    apart x y ne = omega arith

    sums : (fa fb fk ra rb rk : ℕ) → fa + fb ≡ fk → ra + rb ≡ rk → fk ≤ 1 → rk ≤ 1 → 1 ≤ fa + ra → 1 ≤ fb + rb → (fk ≡ 0) ⊎ (rk ≡ 0) → ⊥
    sums fa fb fk ra rb rk ef er f r one two (inl none) = omega arith
    sums fa fb fk ra rb rk ef er f r one two (inr none) = omega arith

    rook : (files_apart a k ≡ 0) ⊎ (ranks_apart a k ≡ 0) → a ≢ s → s ≢ k → ⊥
    rook line first second = sums _ _ _ _ _ _ h.1 h.2 f r (apart a s first) (apart s k second) line

    ones : (fa fb fk ra rb : ℕ) → fa + fb ≡ fk → fk ≤ 1 → 1 ≤ fa + ra → 1 ≤ fb + rb → fa ≡ ra → fb ≡ rb → ⊥
    ones fa fb fk ra rb ef f one two ea eb = omega arith

    bishop : files_apart a s ≡ ranks_apart a s → files_apart s k ≡ ranks_apart s k → a ≢ s → s ≢ k → ⊥
    bishop ea eb first second = ones _ _ _ _ _ h.1 f (apart a s first) (apart s k second) ea eb

pub knight_near : (a s k : ℕ) → KnightStep a k → IsBetween a s k → ⊥
knight_near a s k step h = elim h.0 [ inl lines ↦ rook lines.0.0 | inr lines ↦ bishop lines.0.0 ]
  where
    rook : (files_apart a k ≡ 0) ⊎ (ranks_apart a k ≡ 0) → ⊥
    rook line = grind (arith, nat_tests)

    bishop : files_apart a k ≡ ranks_apart a k → ⊥
    bishop line = grind (arith, nat_tests)

pub pawn_near : (color : Color) (a s k : ℕ) → PawnDiagonal color a k → IsBetween a s k → ⊥
pawn_near White a s k step h = king_near a s k (let one : files_apart a k ≡ 1 = step.1 in omega arith) (let ahead : rank_of k ≡ rank_of a + 1 = step.0 in omega arith) h
pawn_near Black a s k step h = king_near a s k (let one : files_apart a k ≡ 1 = step.1 in omega arith) (let ahead : rank_of a ≡ rank_of k + 1 = step.0 in omega arith) h

-- What stands on a square after the move.

pub record Plain (p : Position) (m : Move) : Type 0 where
  pub valid : IsValid p
  pub pseudo_legal : PseudoLegal p m
  pub moving : Mover p m
  pub no_taking : takes_en_passant p m ≡ false
  pub no_castling : is_castling p m ≡ false

placed_cases : (p : Position) (m : Move) (s : ℕ) → Plain p m
    → ((s ≡ m.to.index) × (placed p m s ≡ arriving (piece_at p.squares m.from.index) m.promotion))
    ⊎ ((s ≡ m.from.index) × (placed p m s ≡ None))
    ⊎ ((s ≢ m.to.index) × (s ≢ m.from.index) × (placed p m s ≡ piece_at p.squares s))
placed_cases p m s plain = by (s == m.to.index) (s == m.from.index) refl refl
  where
    written : Bool → Bool → Option Piece
    written = λ to from. if to then arriving (piece_at p.squares m.from.index) m.promotion else if from then None else piece_at p.squares s

    is : placed p m s ≡ written (s == m.to.index) (s == m.from.index)
    is = placed-by p m false false s plain.no_taking plain.no_castling

    equal : (a b : ℕ) → (a == b) ≡ true → a ≡ b
    equal a b e = grind (arith, nat_tests)

    differ : (a b : ℕ) → (a == b) ≡ false → a ≢ b
    differ a b e same = grind (arith, nat_tests)

    by : (to from : Bool) → (s == m.to.index) ≡ to → (s == m.from.index) ≡ from
        → ((s ≡ m.to.index) × (placed p m s ≡ arriving (piece_at p.squares m.from.index) m.promotion))
        ⊎ ((s ≡ m.from.index) × (placed p m s ≡ None))
        ⊎ ((s ≢ m.to.index) × (s ≢ m.from.index) × (placed p m s ≡ piece_at p.squares s))
    by true from e f = inl (equal s m.to.index e, is ∙ ap (λ t. written t (s == m.from.index)) e)
    by false true e f = inr (inl (equal s m.from.index f, is ∙ ap (λ t. written t (s == m.from.index)) e ∙ ap (written false) f))
    by false false e f = inr (inr (differ s m.to.index e, differ s m.from.index f, is ∙ ap (λ t. written t (s == m.from.index)) e ∙ ap (written false) f))

module _ (p : Position) (m : Move) (plain : Plain p m) (k : ℕ) where
  abbrev enemy : Color
  enemy = opponent p.turn

  abbrev left : List (Option Piece)
  left = squares_after p m

  -- an own piece stands on the target
  own_there : Arrives p.turn (arriving (piece_at p.squares m.from.index) m.promotion)
  own_there = arrives p m plain.moving

  there : (s : ℕ) → s < 64 → s ≡ m.to.index → piece_at left s ≡ piece_of p.turn own_there.role
  there s on e = elim (placed_cases p m s plain) [
    | inl h ↦ piece_at-after p m s on ∙ h.1 ∙ own_there.is
    | inr (inl h) ↦ absurd (plain.pseudo_legal.1 (let P : ℕ → Type 0 = λ s. IsOfColor p.turn (piece_at p.squares s) in subst P (sym h.0 ∙ e) plain.pseudo_legal.0))
    | inr (inr h) ↦ absurd (h.0 e)
  ]

  not_empty : (s : ℕ) → s < 64 → s ≡ m.to.index → piece_at left s ≡ None → ⊥
  not_empty s on e empty = let no_way : piece_of p.turn own_there.role ≡ None = sym (there s on e) ∙ empty in cc

  gone : (s : ℕ) → s < 64 → s ≡ m.from.index → s ≢ m.to.index → piece_at left s ≡ None
  gone s on e apart = elim (placed_cases p m s plain) [
    | inl h ↦ absurd (apart h.0)
    | inr (inl h) ↦ piece_at-after p m s on ∙ h.1
    | inr (inr h) ↦ absurd (h.1 e)
  ]

  -- what is no target and not left stands as before
  stands_still : (s : ℕ) → s < 64 → s ≢ m.to.index → s ≢ m.from.index → piece_at left s ≡ piece_at p.squares s
  stands_still s on not_to not_from = elim (placed_cases p m s plain) [
    | inl h ↦ absurd (not_to h.0)
    | inr (inl h) ↦ absurd (not_from h.0)
    | inr (inr h) ↦ piece_at-after p m s on ∙ h.2
  ]

  enemy_not_left : (a : ℕ) → IsOfColor enemy (piece_at p.squares a) → a ≢ m.from.index
  enemy_not_left a foe e =
      let P : ℕ → Type 0 = λ s. IsOfColor enemy (piece_at p.squares s) in
      let Q : Option Piece → Type 0 = λ o. IsOfColor enemy o in
      opponent-other p.turn (sym (subst Q plain.moving.stands (subst P e foe)))

  -- an enemy that is not taken stands as before
  enemy_still : (a : ℕ) → a < 64 → IsOfColor enemy (piece_at p.squares a) → a ≢ m.to.index → piece_at left a ≡ piece_at p.squares a
  enemy_still a on foe apart = stands_still a on apart (enemy_not_left a foe)

  -- an enemy after the move stood there before, and not on the target
  enemy_stood : (a : ℕ) → a < 64 → IsOfColor enemy (piece_at left a) → (a ≢ m.to.index) × (piece_at left a ≡ piece_at p.squares a)
  enemy_stood a on foe = (not_to, stands_still a on not_to not_from)
    where
      Foe : Option Piece → Type 0
      Foe o = IsOfColor enemy o

      not_to : a ≢ m.to.index
      not_to e = opponent-other p.turn (sym (subst Foe (there a on e) foe))

      not_from : a ≢ m.from.index
      not_from e = no_piece enemy _ (gone a on e not_to) foe

  -- a line that was empty, but for the square that is left, is open, unless the target is on it
  opens : (a : ℕ) → (IsBetween a m.to.index k → ⊥) → ((s : ℕ) → s < 64 → IsBetween a s k → s ≢ m.from.index → IsEmpty (piece_at p.squares s))
      → IsOpen left a k
  opens a off empty s on between = elim (placed_cases p m s plain) [
    | inl h ↦ absurd (off (let P : ℕ → Type 0 = λ s. IsBetween a s k in subst P h.0 between))
    | inr (inl h) ↦ piece_at-after p m s on ∙ h.1
    | inr (inr h) ↦ piece_at-after p m s on ∙ h.2 ∙ empty s on between h.1
  ]

  -- an open line was empty but for the square that is left, and the target is not on it
  off_target : (a : ℕ) → IsOpen left a k → IsBetween a m.to.index k → ⊥
  off_target a open_line between = not_empty m.to.index m.to.on_board refl (open_line m.to.index m.to.on_board between)

  was_empty : (a s : ℕ) → IsOpen left a k → s < 64 → IsBetween a s k → s ≢ m.from.index → IsEmpty (piece_at p.squares s)
  was_empty a s open_line on between not_from =
      sym (stands_still s on (λ e. not_empty s on e (open_line s on between)) not_from) ∙ open_line s on between

  -- What attacks after the move.

  attacks_on : (role : Role) (a : ℕ) → (IsBetween a m.to.index k → ⊥) → RoleAttacks p.squares enemy role a k → RoleAttacks left enemy role a k
  attacks_on Pawn a off h = h
  attacks_on Knight a off h = h
  attacks_on King a off h = h
  attacks_on Bishop a off h = (h.0, opens a off (λ s on between _. h.1 s on between))
  attacks_on Rook a off h = (h.0, opens a off (λ s on between _. h.1 s on between))
  attacks_on Queen a off h = (h.0, opens a off (λ s on between _. h.1 s on between))

  by_role : (role : Role) (a : ℕ) → a < 64 → a ≢ m.to.index → IsPiece enemy role (piece_at p.squares a) → RoleAttacks left enemy role a k
      → IsAttacked left enemy k
  by_role role a on apart piece attacks =
      let stood : piece_at p.squares a ≡ piece_of enemy role = piece_is enemy role _ piece in
      let Foe : Option Piece → Type 0 = λ o. IsOfColor enemy o in
      let still : piece_at left a ≡ piece_of enemy role = enemy_still a on (subst Foe (sym stood) refl) apart ∙ stood in
      let P : Option Piece → Type 0 = λ o. PieceAttacks left o a k in
      (a, on, subst Foe (sym still) refl, subst P (sym still) attacks)

  checks_on : (a : ℕ) (o : Option Piece) → piece_at p.squares a ≡ o → a < 64 → a ≢ m.to.index → (IsBetween a m.to.index k → ⊥) → IsOfColor enemy o
      → PieceAttacks p.squares o a k → IsAttacked left enemy k
  checks_on a None stands on apart off foe attacks = absurd foe
  checks_on a (Some piece) stands on apart off foe attacks =
      let Stands : Option Piece → Type 0 = λ o. IsPiece enemy piece.role o in
      let By : Color → Type 0 = λ c. RoleAttacks p.squares c piece.role a k in
      by_role piece.role a on apart (subst Stands (sym stands) (foe, refl)) (attacks_on piece.role a off (subst By foe attacks))

  aims_on : (a : ℕ) → a < 64 → a ≢ m.to.index → IsAimed p.squares enemy a k → IsOpen left a k → IsAttacked left enemy k
  aims_on a on apart (inl (inl rook, line)) open_line = by_role Rook a on apart rook (line, open_line)
  aims_on a on apart (inl (inr queen, line)) open_line = by_role Queen a on apart queen (inl line, open_line)
  aims_on a on apart (inr (inl bishop, line)) open_line = by_role Bishop a on apart bishop (line, open_line)
  aims_on a on apart (inr (inr queen, line)) open_line = by_role Queen a on apart queen (inr line, open_line)

  -- The law, at the square of the king.

  meets_or : (a : ℕ) → (a ≢ m.to.index → (IsBetween a m.to.index k → ⊥) → ⊥) → Meets a m.to.index k
  meets_or a apart_off = elim (cases_eq m.to.index a) [
    | inl e ↦ inl e
    | inr apart ↦ elim (between_or a m.to.index k) [ inl between ↦ inr between | inr off ↦ absurd (apart_off (λ e. apart (sym e)) off) ]
  ]

  safe_meets : (IsAttacked left enemy k → ⊥) → (a : ℕ) → a < 64 → Checks p.squares enemy a k → Meets a m.to.index k
  safe_meets safe a on checks = meets_or a (λ apart off. safe (checks_on a (piece_at p.squares a) refl on apart off checks.0 checks.1))

  safe_stays : (IsAttacked left enemy k → ⊥) → (a : ℕ) → a < 64 → Pins p.squares enemy a m.from.index k → Meets a m.to.index k
  safe_stays safe a on pins = meets_or a (λ apart off. safe (aims_on a on apart pins.0 (opens a off pins.2)))

  module _ (meets : (a : ℕ) → a < 64 → Checks p.squares enemy a k → Meets a m.to.index k)
      (stays : (a : ℕ) → a < 64 → Pins p.squares enemy a m.from.index k → Meets a m.to.index k) where
    -- a slider that attacks after the move attacked before it, or pinned
    slid : (a : ℕ) → a < 64 → a ≢ m.to.index → IsAimed p.squares enemy a k → IsOpen left a k → (IsOpen p.squares a k → Checks p.squares enemy a k) → ⊥
    slid a on apart aimed open_line checks = elim (between_or a m.from.index k) [
      | inl before ↦ unmet (stays a on (aimed, before, λ t on_t between not_from. was_empty a t open_line on_t between not_from))
      | inr aside ↦ unmet (meets a on (checks (λ s on_s between.
          was_empty a s open_line on_s between (λ e. aside (let P : ℕ → Type 0 = λ s. IsBetween a s k in subst P e between)))))
    ]
      where
        unmet : Meets a m.to.index k → ⊥
        unmet (inl e) = apart (sym e)
        unmet (inr between) = off_target a open_line between

    leapt : (a : ℕ) → a ≢ m.to.index → (IsBetween a m.to.index k → ⊥) → Meets a m.to.index k → ⊥
    leapt a apart off (inl e) = apart (sym e)
    leapt a apart off (inr between) = off between

    check_of : (role : Role) (a : ℕ) → IsPiece enemy role (piece_at p.squares a) → RoleAttacks p.squares enemy role a k → Checks p.squares enemy a k
    check_of role a piece attacks =
        let stood : piece_at p.squares a ≡ piece_of enemy role = piece_is enemy role _ piece in
        let Foe : Option Piece → Type 0 = λ o. IsOfColor enemy o in
        let P : Option Piece → Type 0 = λ o. PieceAttacks p.squares o a k in
        (subst Foe (sym stood) refl, subst P (sym stood) attacks)

    none_attacks : (role : Role) (a : ℕ) → a < 64 → a ≢ m.to.index → IsPiece enemy role (piece_at p.squares a) → RoleAttacks left enemy role a k → ⊥
    none_attacks Pawn a on apart piece h = leapt a apart (λ b. pawn_near enemy a m.to.index k h b) (meets a on (check_of Pawn a piece h))
    none_attacks Knight a on apart piece h = leapt a apart (λ b. knight_near a m.to.index k h b) (meets a on (check_of Knight a piece h))
    none_attacks King a on apart piece h = leapt a apart (λ b. king_near a m.to.index k h.0 h.1 b) (meets a on (check_of King a piece h))
    none_attacks Bishop a on apart piece h = slid a on apart (inr (inl piece, h.0)) h.1 (λ was_open. check_of Bishop a piece (h.0, was_open))
    none_attacks Rook a on apart piece h = slid a on apart (inl (inl piece, h.0)) h.1 (λ was_open. check_of Rook a piece (h.0, was_open))
    none_attacks Queen a on apart piece (inl line, open_line) = slid a on apart (inl (inr piece, line)) open_line (λ was_open. check_of Queen a piece (inl line, was_open))
    none_attacks Queen a on apart piece (inr line, open_line) = slid a on apart (inr (inr piece, line)) open_line (λ was_open. check_of Queen a piece (inr line, was_open))

    no_piece_attacks : (a : ℕ) (o : Option Piece) → piece_at p.squares a ≡ o → a < 64 → a ≢ m.to.index → IsOfColor enemy o → PieceAttacks left o a k → ⊥
    no_piece_attacks a None stands on apart foe attacks = foe
    no_piece_attacks a (Some piece) stands on apart foe attacks =
        let Stands : Option Piece → Type 0 = λ o. IsPiece enemy piece.role o in
        let By : Color → Type 0 = λ c. RoleAttacks left c piece.role a k in
        none_attacks piece.role a on apart (subst Stands (sym stands) (foe, refl)) (subst By foe attacks)

    met_safe : IsAttacked left enemy k → ⊥
    met_safe (a, on, foe, attacks) =
        let stood : (a ≢ m.to.index) × (piece_at left a ≡ piece_at p.squares a) = enemy_stood a on foe in
        let Foe : Option Piece → Type 0 = λ o. IsOfColor enemy o in
        let By : Option Piece → Type 0 = λ o. PieceAttacks left o a k in
        no_piece_attacks a (piece_at p.squares a) refl on stood.0 (subst Foe stood.1 foe) (subst By stood.1 attacks)

pub pins-decide : (p : Position) (m : Move) → IsValid p → PseudoLegal p m → ¬ IsPiece p.turn King (piece_at p.squares m.from.index)
    → takes_en_passant p m ≡ false → Legal p m ↔ (IsEvasion p m.to.index × StaysOnPins p m.from.index m.to.index)
pins-decide p m valid pseudo_legal other no_taking = (
  λ legal. (
    λ k on king a on_a checks. safe_meets p m plain k (λ attacked. legal.1 ((in_check k on king).0 attacked)) a on_a checks,
    λ k on king a on_a pins. safe_stays p m plain k (λ attacked. legal.1 ((in_check k on king).0 attacked)) a on_a pins,
  ),
  λ both. (
    pseudo_legal,
    λ check. (
        let king : (k : ℕ) × (k < 64) × IsPiece p.turn King (piece_at p.squares k) = king_somewhere p p.turn valid in
        met_safe p m plain king.0 (both.0 king.0 king.1 king.2) (both.1 king.0 king.1 king.2) ((in_check king.0 king.1 king.2).1 check)
        ),
    λ castles. absurd (other (castler castles)),
  ),
)
  where
    castler : Castles p m → IsPiece p.turn King (piece_at p.squares m.from.index)
    castler (inl c) = c.3
    castler (inr c) = c.3

    not_castling : (b : Bool) → is_castling p m ≡ b → is_castling p m ≡ false
    not_castling false e = e
    not_castling true e = absurd (other (is_piece p.turn King _ (castling p m valid (mover p m pseudo_legal) e).king))

    plain : Plain p m
    plain = record { valid = valid; pseudo_legal = pseudo_legal; moving = mover p m pseudo_legal; no_taking = no_taking; no_castling = not_castling (is_castling p m) refl }

    stays_king : (k : ℕ) → IsPiece p.turn King (piece_at p.squares k) → m.from.index ≢ k
    stays_king k king e = other (let P : ℕ → Type 0 = λ s. IsPiece p.turn King (piece_at p.squares s) in subst P (sym e) king)

    in_check : (k : ℕ) → k < 64 → IsPiece p.turn King (piece_at p.squares k)
        → IsAttacked (squares_after p m) (opponent p.turn) k ↔ InCheck (squares_after p m) p.turn
    in_check k on king = check_after p m k valid pseudo_legal on (king_stayed p m k valid pseudo_legal on king (stays_king k king))
