-- What the bitboards of a board tell of open lines and attacks.
use Rattle.std.proofs.Common.{◌≡◌, ◌↔◌, ℕ, ◌<◌, ◌⊎◌, List, Option, Some, None, refl, sym, subst, inl, inr, arith}
use Rattle.explorer_model.specs.declared.chess.Color.{Color}
use Rattle.explorer_model.specs.declared.chess.Role.{Role}
use Rattle.explorer_model.specs.declared.chess.Role.TheVariants.{Pawn, Knight, Bishop, Rook, Queen, King}
use Rattle.explorer_model.specs.declared.chess.Piece.{Piece}
use Rattle.explorer_model.specs.Board.{files_apart, ranks_apart, piece_of, piece_at, IsEmpty, IsOfColor, IsPiece, RookLine, BishopLine, IsOpen, RoleAttacks, PieceAttacks, IsAttacked}
use Rattle.legal_moves.specs.declared.enemy_sets.EnemySets.{EnemySets}
use Rattle.legal_moves.specs.EnemySets.{IsOccupied, IsDiagonal, IsStraight, IsBitboardOf, Describes, IsClear, LeapsTo, SlidesTo}
use Rattle.legal_moves.proofs.Facts.{piece_is, is_own}

-- Open lines.

not_occupied : (occupant : Option Piece) → ¬ IsOccupied occupant → IsEmpty occupant
not_occupied None h = refl
not_occupied (Some piece) h = absurd (h tt)

pub clear-open : (squares : List (Option Piece)) (occupied a b : ℕ) → IsBitboardOf IsOccupied squares occupied → IsClear occupied a b ↔ IsOpen squares a b
clear-open squares occupied a b is = (
  λ clear s on between. not_occupied (piece_at squares s) (λ there. clear s on between ((is s on).1 there)),
  λ open_line s on between bit. subst IsOccupied (open_line s on between) ((is s on).0 bit),
)

-- Steps and lines lead both ways.

pub rook_back : (a b : ℕ) → RookLine a b ↔ RookLine b a
rook_back a b = (λ h. swapped a b h.0 h.1, λ h. swapped b a h.0 h.1)
  where
    swapped : (a b : ℕ) → (files_apart a b ≡ 0) ⊎ (ranks_apart a b ≡ 0) → (a ≡ b → ⊥) → RookLine b a
    swapped a b (inl f) apart = (inl (omega arith), λ e. apart (sym e))
    swapped a b (inr r) apart = (inr (omega arith), λ e. apart (sym e))

pub bishop_back : (a b : ℕ) → BishopLine a b ↔ BishopLine b a
bishop_back a b = (λ h. swapped a b h.0 h.1, λ h. swapped b a h.0 h.1)
  where
    swapped : (a b : ℕ) → files_apart a b ≡ ranks_apart a b → (a ≡ b → ⊥) → BishopLine b a
    swapped a b same apart = (omega arith, λ e. apart (sym e))

-- Attacks.

by_piece : (squares : List (Option Piece)) (enemy : Color) (role : Role) (a s : ℕ) → a < 64 → IsPiece enemy role (piece_at squares a)
    → RoleAttacks squares enemy role a s → IsAttacked squares enemy s
by_piece squares enemy role a s on occupant attacks =
    let stands : piece_at squares a ≡ piece_of enemy role = piece_is enemy role _ occupant in
    let P : Option Piece → Type 0 = λ o. PieceAttacks squares o a s in
    (a, on, is_own enemy role _ stands, subst P (sym stands) attacks)

seen_attacks : (squares : List (Option Piece)) (enemy : Color) (enemy_sets : EnemySets) (s : ℕ) → Describes squares enemy enemy_sets
    → LeapsTo enemy_sets enemy s ⊎ SlidesTo enemy_sets s → IsAttacked squares enemy s
seen_attacks squares enemy enemy_sets s d (inl (inl (a, on, bit, step))) = by_piece squares enemy Pawn a s on ((d.pawns a on).0 bit) step
seen_attacks squares enemy enemy_sets s d (inl (inr (inl (a, on, bit, step)))) = by_piece squares enemy Knight a s on ((d.knights a on).0 bit) step
seen_attacks squares enemy enemy_sets s d (inl (inr (inr (a, on, bit, step)))) = by_piece squares enemy King a s on ((d.king a on).0 bit) step
seen_attacks squares enemy enemy_sets s d (inr (inl (a, on, bit, line))) = by_straight ((d.straights a on).0 bit)
  where
    open_line : IsOpen squares a s
    open_line = (clear-open squares enemy_sets.occupied a s d.occupied).0 line.1

    by_straight : IsStraight enemy (piece_at squares a) → IsAttacked squares enemy s
    by_straight (inl rook) = by_piece squares enemy Rook a s on rook (line.0, open_line)
    by_straight (inr queen) = by_piece squares enemy Queen a s on queen (inl line.0, open_line)
seen_attacks squares enemy enemy_sets s d (inr (inr (a, on, bit, line))) = by_diagonal ((d.diagonals a on).0 bit)
  where
    open_line : IsOpen squares a s
    open_line = (clear-open squares enemy_sets.occupied a s d.occupied).0 line.1

    by_diagonal : IsDiagonal enemy (piece_at squares a) → IsAttacked squares enemy s
    by_diagonal (inl bishop) = by_piece squares enemy Bishop a s on bishop (line.0, open_line)
    by_diagonal (inr queen) = by_piece squares enemy Queen a s on queen (inr line.0, open_line)

by_role : (squares : List (Option Piece)) (enemy : Color) (enemy_sets : EnemySets) (a s : ℕ) → Describes squares enemy enemy_sets → a < 64 → (role : Role)
    → IsPiece enemy role (piece_at squares a) → RoleAttacks squares enemy role a s → LeapsTo enemy_sets enemy s ⊎ SlidesTo enemy_sets s
by_role squares enemy enemy_sets a s d on Pawn occupant step = inl (inl (a, on, (d.pawns a on).1 occupant, step))
by_role squares enemy enemy_sets a s d on Knight occupant step = inl (inr (inl (a, on, (d.knights a on).1 occupant, step)))
by_role squares enemy enemy_sets a s d on King occupant step = inl (inr (inr (a, on, (d.king a on).1 occupant, step)))
by_role squares enemy enemy_sets a s d on Rook occupant line =
    inr (inl (a, on, (d.straights a on).1 (inl occupant), (line.0, (clear-open squares enemy_sets.occupied a s d.occupied).1 line.1)))
by_role squares enemy enemy_sets a s d on Bishop occupant line =
    inr (inr (a, on, (d.diagonals a on).1 (inl occupant), (line.0, (clear-open squares enemy_sets.occupied a s d.occupied).1 line.1)))
by_role squares enemy enemy_sets a s d on Queen occupant (inl line, open_line) =
    inr (inl (a, on, (d.straights a on).1 (inr occupant), (line, (clear-open squares enemy_sets.occupied a s d.occupied).1 open_line)))
by_role squares enemy enemy_sets a s d on Queen occupant (inr line, open_line) =
    inr (inr (a, on, (d.diagonals a on).1 (inr occupant), (line, (clear-open squares enemy_sets.occupied a s d.occupied).1 open_line)))

attacks_seen : (squares : List (Option Piece)) (enemy : Color) (enemy_sets : EnemySets) (a s : ℕ) → Describes squares enemy enemy_sets → a < 64
    → (occupant : Option Piece) → piece_at squares a ≡ occupant → IsOfColor enemy occupant → PieceAttacks squares occupant a s → LeapsTo enemy_sets enemy s ⊎ SlidesTo enemy_sets s
attacks_seen squares enemy enemy_sets a s d on None stands own attacks = absurd own
attacks_seen squares enemy enemy_sets a s d on (Some piece) stands own attacks =
    let Stands : Option Piece → Type 0 = λ o. IsPiece enemy piece.role o in
    let P : Color → Type 0 = λ c. RoleAttacks squares c piece.role a s in
    by_role squares enemy enemy_sets a s d on piece.role (subst Stands (sym stands) (own, refl)) (subst P own attacks)

pub attacked-says : (squares : List (Option Piece)) (enemy : Color) (enemy_sets : EnemySets) (s : ℕ) → Describes squares enemy enemy_sets
    → (LeapsTo enemy_sets enemy s ⊎ SlidesTo enemy_sets s) ↔ IsAttacked squares enemy s
attacked-says squares enemy enemy_sets s d = (
  λ h. seen_attacks squares enemy enemy_sets s d h,
  λ h. attacks_seen squares enemy enemy_sets h.0 s d h.1 (piece_at squares h.0) refl h.2 h.3,
)
