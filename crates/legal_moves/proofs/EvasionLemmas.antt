-- What bitboards tell of the pieces that give check.
use Rattle.std.proofs.Common.{◌≡◌, ◌≢◌, ◌↔◌, ℕ, ◌<◌, ◌⊎◌, true, List, Option, Some, None, bit_and, bit_or, refl, sym, subst, inl, inr, arith}
use Rattle.step_tables.specs.Bitboard.{Holds}
use Rattle.step_tables.specs.Squares.{IsUnblocked}
use Rattle.step_tables.specs.Test.{all_below, is_set_of}
use Rattle.step_tables.proofs.Test.{Holds-is_set_of}
use Rattle.step_tables.proofs.BetweenLemmas.{IsBetween-swap}
use Rattle.step_tables.proofs.BitboardLemmas.{Holds-or, Holds-and}
use Rattle.explorer_model.specs.declared.chess.Color.{Color}
use Rattle.explorer_model.specs.declared.chess.Role.{Role}
use Rattle.explorer_model.specs.declared.chess.Role.TheVariants.{Pawn, Knight, Bishop, Rook, Queen, King}
use Rattle.explorer_model.specs.declared.chess.Piece.{Piece}
use Rattle.explorer_model.specs.declared.chess.Position.{Position}
use Rattle.explorer_model.specs.Board.{opponent, piece_of, piece_at, IsOfColor, IsPiece, PawnDiagonal, KnightStep, KingStep, RookLine, BishopLine, IsOpen, RoleAttacks, PieceAttacks}
use Rattle.legal_moves.specs.declared.enemy_sets.EnemySets.{EnemySets}
use Rattle.legal_moves.specs.EnemySets.{Describes, IsInfoOf, IsClear, IsStraight, IsDiagonal}
use Rattle.legal_moves.specs.Pins.{Checks, Meets, IsEvasion, IsAttacker}
use Rattle.legal_moves.specs.declared.check_info.CheckInfo.{CheckInfo}
use Rattle.legal_moves.proofs.PinLemmas.{no_bit, king_is}
use Rattle.legal_moves.proofs.Rays.{no_two}
use Rattle.legal_moves.proofs.AttackSets.{clear-open, rook_back, bishop_back}
use Rattle.legal_moves.proofs.Facts.{piece_is, is_own}

all_right : is_set_of (λ s. true) 18446744073709551615 ≡ true
unfolding all_below
all_right = refl

pub all_squares : (s : ℕ) → s < 64 → Holds 18446744073709551615 s
all_squares s on = (Holds-is_set_of (λ s. true) (λ s. Unit {0}) 18446744073709551615 (λ b. ((λ _. tt), (λ _. refl))) all_right s on).1 tt

knight_back : (a b : ℕ) → KnightStep a b → KnightStep b a
knight_back a b (inl h) = inl (omega (arith, h.0), omega (arith, h.1))
knight_back a b (inr h) = inr (omega (arith, h.0), omega (arith, h.1))

king_back : (a b : ℕ) → KingStep a b → KingStep b a
king_back a b h = (omega (arith, h.0), omega (arith, h.1), λ e. h.2 (sym e))

clear_back : (occupied a b : ℕ) → IsUnblocked occupied a b ↔ IsClear occupied b a
clear_back occupied a b = (
  λ h s on between. h s on (IsBetween-swap b s a between),
  λ h s on between. h s on (IsBetween-swap a s b between),
)

held_lines : (enemy_sets : EnemySets) (s a rooks bishops : ℕ) → Holds rooks a ↔ RookLine s a → Holds bishops a ↔ BishopLine s a
    → Holds (bit_or (bit_and enemy_sets.straights rooks) (bit_and enemy_sets.diagonals bishops)) a
    → (Holds enemy_sets.straights a × RookLine a s) ⊎ (Holds enemy_sets.diagonals a × BishopLine a s)
held_lines enemy_sets s a rooks bishops by_rook by_bishop bit = elim ((Holds-or (bit_and enemy_sets.straights rooks) (bit_and enemy_sets.diagonals bishops) a).0 bit) [
  | inl x ↦ (let h = (Holds-and enemy_sets.straights rooks a).0 x in inl (h.0, (rook_back s a).0 (by_rook.0 h.1)))
  | inr y ↦ (let h = (Holds-and enemy_sets.diagonals bishops a).0 y in inr (h.0, (bishop_back s a).0 (by_bishop.0 h.1)))
]

lines_held : (enemy_sets : EnemySets) (s a rooks bishops : ℕ) → Holds rooks a ↔ RookLine s a → Holds bishops a ↔ BishopLine s a
    → (Holds enemy_sets.straights a × RookLine a s) ⊎ (Holds enemy_sets.diagonals a × BishopLine a s)
    → Holds (bit_or (bit_and enemy_sets.straights rooks) (bit_and enemy_sets.diagonals bishops)) a
lines_held enemy_sets s a rooks bishops by_rook by_bishop (inl h) =
    (Holds-or (bit_and enemy_sets.straights rooks) (bit_and enemy_sets.diagonals bishops) a).1
    (inl ((Holds-and enemy_sets.straights rooks a).1 (h.0, by_rook.1 ((rook_back s a).1 h.1))))
lines_held enemy_sets s a rooks bishops by_rook by_bishop (inr h) =
    (Holds-or (bit_and enemy_sets.straights rooks) (bit_and enemy_sets.diagonals bishops) a).1
    (inr ((Holds-and enemy_sets.diagonals bishops a).1 (h.0, by_bishop.1 ((bishop_back s a).1 h.1))))

pub attackers_say : (enemy_sets : EnemySets) (enemy : Color) (s a pawns knights king rooks bishops sliders : ℕ) → a < 64
    → Holds pawns a ↔ PawnDiagonal enemy a s → Holds knights a ↔ KnightStep s a → Holds king a ↔ KingStep s a
    → Holds rooks a ↔ RookLine s a → Holds bishops a ↔ BishopLine s a
    → Holds sliders a ↔ (Holds (bit_or (bit_and enemy_sets.straights rooks) (bit_and enemy_sets.diagonals bishops)) a × IsUnblocked enemy_sets.occupied s a)
    → Holds (bit_or (bit_and enemy_sets.pawns pawns) (bit_or (bit_and enemy_sets.knights knights) (bit_or (bit_and enemy_sets.king king) sliders))) a
    ↔ IsAttacker enemy_sets enemy a s
attackers_say enemy_sets enemy s a pawns knights king rooks bishops sliders on by_pawn by_knight by_king by_rook by_bishop by_slider = (
  λ bit. elim ((Holds-or _ _ a).0 bit) [
    | inl x ↦ (let h = (Holds-and _ _ a).0 x in inl (h.0, by_pawn.0 h.1))
    | inr more ↦ elim ((Holds-or _ _ a).0 more) [
      | inl x ↦ (let h = (Holds-and _ _ a).0 x in inr (inl (h.0, knight_back s a (by_knight.0 h.1))))
      | inr rest ↦ elim ((Holds-or _ _ a).0 rest) [
        | inl x ↦ (let h = (Holds-and _ _ a).0 x in inr (inr (inl (h.0, king_back s a (by_king.0 h.1)))))
        | inr x ↦ (let h = by_slider.0 x in inr (inr (inr (held_lines enemy_sets s a rooks bishops by_rook by_bishop h.0, (clear_back enemy_sets.occupied s a).0 h.1))))
      ]
    ]
  ],
  λ h. elim h [
    | inl x ↦ (Holds-or _ _ a).1 (inl ((Holds-and _ _ a).1 (x.0, by_pawn.1 x.1)))
    | inr (inl x) ↦ (Holds-or _ _ a).1 (inr ((Holds-or _ _ a).1 (inl ((Holds-and _ _ a).1 (x.0, by_knight.1 (knight_back a s x.1))))))
    | inr (inr (inl x)) ↦
        (Holds-or _ _ a).1 (inr ((Holds-or _ _ a).1 (inr ((Holds-or _ _ a).1 (inl ((Holds-and _ _ a).1 (x.0, by_king.1 (king_back a s x.1))))))))
    | inr (inr (inr x)) ↦
        (Holds-or (bit_and enemy_sets.pawns pawns) (bit_or (bit_and enemy_sets.knights knights) (bit_or (bit_and enemy_sets.king king) sliders)) a).1
        (inr ((Holds-or (bit_and enemy_sets.knights knights) (bit_or (bit_and enemy_sets.king king) sliders) a).1
        (inr ((Holds-or (bit_and enemy_sets.king king) sliders a).1 (inr (by_slider.1 (
          lines_held enemy_sets s a rooks bishops by_rook by_bishop x.0,
          (clear_back enemy_sets.occupied s a).1 x.1,
        )))))))
  ],
)

-- An attacker gives check.

module _ (squares : List (Option Piece)) (enemy : Color) (enemy_sets : EnemySets) (a s : ℕ) (d : Describes squares enemy enemy_sets) (on : a < 64) where
  by_standing : (role : Role) → IsPiece enemy role (piece_at squares a) → RoleAttacks squares enemy role a s → Checks squares enemy a s
  by_standing role piece attacks =
      let stands : piece_at squares a ≡ piece_of enemy role = piece_is enemy role _ piece in
      let P : Option Piece → Type 0 = λ o. PieceAttacks squares o a s in
      (is_own enemy role _ stands, subst P (sym stands) attacks)

  line : IsStraight enemy (piece_at squares a) × RookLine a s ⊎ IsDiagonal enemy (piece_at squares a) × BishopLine a s → IsOpen squares a s → Checks squares enemy a s
  line (inl (inl rook, h)) open_line = by_standing Rook rook (h, open_line)
  line (inl (inr queen, h)) open_line = by_standing Queen queen (inl h, open_line)
  line (inr (inl bishop, h)) open_line = by_standing Bishop bishop (h, open_line)
  line (inr (inr queen, h)) open_line = by_standing Queen queen (inr h, open_line)

  bits : (Holds enemy_sets.straights a × RookLine a s) ⊎ (Holds enemy_sets.diagonals a × BishopLine a s)
      → IsStraight enemy (piece_at squares a) × RookLine a s ⊎ IsDiagonal enemy (piece_at squares a) × BishopLine a s
  bits (inl h) = inl ((d.straights a on).0 h.0, h.1)
  bits (inr h) = inr ((d.diagonals a on).0 h.0, h.1)

  pub attacker_checks : IsAttacker enemy_sets enemy a s → Checks squares enemy a s
  attacker_checks (inl h) = by_standing Pawn ((d.pawns a on).0 h.0) h.1
  attacker_checks (inr (inl h)) = by_standing Knight ((d.knights a on).0 h.0) h.1
  attacker_checks (inr (inr (inl h))) = by_standing King ((d.king a on).0 h.0) h.1
  attacker_checks (inr (inr (inr h))) = line (bits h.0) ((clear-open squares enemy_sets.occupied a s d.occupied).0 h.1)

  clear : IsOpen squares a s → IsClear enemy_sets.occupied a s
  clear open_line = (clear-open squares enemy_sets.occupied a s d.occupied).1 open_line

  by_role : (role : Role) → IsPiece enemy role (piece_at squares a) → RoleAttacks squares enemy role a s → IsAttacker enemy_sets enemy a s
  by_role Pawn piece h = inl ((d.pawns a on).1 piece, h)
  by_role Knight piece h = inr (inl ((d.knights a on).1 piece, h))
  by_role King piece h = inr (inr (inl ((d.king a on).1 piece, h)))
  by_role Rook piece h = inr (inr (inr (inl ((d.straights a on).1 (inl piece), h.0), clear h.1)))
  by_role Bishop piece h = inr (inr (inr (inr ((d.diagonals a on).1 (inl piece), h.0), clear h.1)))
  by_role Queen piece (inl h, open_line) = inr (inr (inr (inl ((d.straights a on).1 (inr piece), h), clear open_line)))
  by_role Queen piece (inr h, open_line) = inr (inr (inr (inr ((d.diagonals a on).1 (inr piece), h), clear open_line)))

  by_piece : (o : Option Piece) → piece_at squares a ≡ o → IsOfColor enemy o → PieceAttacks squares o a s → IsAttacker enemy_sets enemy a s
  by_piece None stands own attacks = absurd own
  by_piece (Some piece) stands own attacks =
      let Stands : Option Piece → Type 0 = λ o. IsPiece enemy piece.role o in
      let P : Color → Type 0 = λ c. RoleAttacks squares c piece.role a s in
      by_role piece.role (subst Stands (sym stands) (own, refl)) (subst P own attacks)

  pub checks_attacker : Checks squares enemy a s → IsAttacker enemy_sets enemy a s
  checks_attacker checks = by_piece (piece_at squares a) refl checks.0 checks.1

-- Evasions.

module _ (p : Position) (info : CheckInfo) (informed : IsInfoOf p info) (checkers : ℕ)
    (says : (a : ℕ) → a < 64 → Holds checkers a ↔ IsAttacker info.enemy_sets (opponent p.turn) a info.king) where
  checker : (k a : ℕ) → k < 64 → IsPiece p.turn King (piece_at p.squares k) → a < 64 → Checks p.squares (opponent p.turn) a k → Holds checkers a
  checker k a on_k king on checks =
      let P : ℕ → Type 0 = λ k. Checks p.squares (opponent p.turn) a k in
      (says a on).1 (checks_attacker p.squares (opponent p.turn) info.enemy_sets a info.king informed.enemy_sets on (subst P (king_is p info informed k on_k king) checks))

  gives_check : (a : ℕ) → a < 64 → Holds checkers a → Checks p.squares (opponent p.turn) a info.king
  gives_check a on bit = attacker_checks p.squares (opponent p.turn) info.enemy_sets a info.king informed.enemy_sets on ((says a on).0 bit)

  pub none_checks : (s : ℕ) → checkers ≡ 0 → IsEvasion p s
  none_checks s none k on_k king a on checks = absurd (no_bit checkers a none (checker k a on_k king on checks))

  pub two_check : (a b s : ℕ) → a < 64 → b < 64 → s < 64 → Holds checkers a → Holds checkers b → a ≢ b → IsEvasion p s → ⊥
  two_check a b s on_a on_b on_s first second apart evades =
      no_two p.squares (opponent p.turn) a b s info.king on_a on_b on_s informed.on_board (gives_check a on_a first) (gives_check b on_b second) apart
      (evades info.king informed.on_board informed.king a on_a (gives_check a on_a first))
      (evades info.king informed.on_board informed.king b on_b (gives_check b on_b second))

  pub one_checks : (a s : ℕ) → a < 64 → Holds checkers a → ((b : ℕ) → b < 64 → Holds checkers b → b ≡ a) → Meets a s info.king ↔ IsEvasion p s
  one_checks a s on bit only = (
    λ meets k on_k king b on_b checks.
        let K : ℕ → Type 0 = λ k. Meets a s k in
        let B : ℕ → Type 0 = λ b. Meets b s k in
        subst B (sym (only b on_b (checker k b on_k king on_b checks))) (subst K (sym (king_is p info informed k on_k king)) meets),
    λ evades. evades info.king informed.on_board informed.king a on (gives_check a on bit),
  )
