-- Two squares from which one looks past the same square to a third lie on one ray: one of them is between.
use Rattle.std.proofs.Common.{◌≡◌, ◌≢◌, ℕ, ◌<◌, ◌⊎◌, Bool, true, false, ◌==◌, ◌||◌, List, Option, Some, None, refl, sym, ◌∙◌, subst, inl, inr}
use Rattle.std.proofs.lemmas.Bool.Decides.{Decides-or, Decides-eqb}
use Rattle.step_tables.specs.Test.{all_below}
use Rattle.step_tables.proofs.Test.{all_below-at}
use Rattle.step_tables.proofs.Rule.{is_rook_line, is_bishop_line, Decides-is_rook_line, Decides-is_bishop_line}
use Rattle.explorer_model.specs.declared.chess.Color.{Color}
use Rattle.explorer_model.specs.declared.chess.Role.{Role}
use Rattle.explorer_model.specs.declared.chess.Role.TheVariants.{Pawn, Knight, Bishop, Rook, Queen, King}
use Rattle.explorer_model.specs.declared.chess.Piece.{Piece}
use Rattle.explorer_model.specs.Board.{piece_at, IsEmpty, IsOfColor, IsPiece, IsBetween, RoleAttacks, PieceAttacks, IsOpen}
use Rattle.legal_moves.specs.Pins.{IsAimed, Pins, Checks, Meets}
use Rattle.legal_moves.proofs.PinsDecide.{is_between, Decides-is_between, king_near, knight_near, pawn_near}

-- is a or b nearer, where s is before both?
abbrev one_ray : ℕ → ℕ → ℕ → ℕ → Bool
one_ray k s a b = elim (is_between b s k) [ true ↦ (a == b) || (is_between a b k || is_between b a k) | false ↦ true ]

abbrev rays_from : ℕ → ℕ → ℕ → Bool
rays_from k s a = elim (is_between a s k) [ true ↦ all_below (λ b. one_ray k s a b) 64 | false ↦ true ]

abbrev rays_past : ℕ → ℕ → Bool
rays_past k s = elim (is_rook_line s k || is_bishop_line s k) [ true ↦ all_below (λ a. rays_from k s a) 64 | false ↦ true ]

rays_right : all_below (λ k. all_below (λ s. rays_past k s) 64) 64 ≡ true
unfolding all_below
rays_right = refl

at_true : (test then_ : Bool) → elim test [ true ↦ then_ | false ↦ true ] ≡ true → test ≡ true → then_ ≡ true
at_true true then_ e f = e
at_true false then_ e f = cc

pub same_ray : (k s a b : ℕ) → k < 64 → s < 64 → a < 64 → b < 64 → IsBetween a s k → IsBetween b s k
    → (a ≡ b) ⊎ IsBetween a b k ⊎ IsBetween b a k
same_ray k s a b on_k on_s on_a on_b before_a before_b =
    let row = all_below-at (λ s. rays_past k s) 64 (all_below-at (λ k. all_below (λ s. rays_past k s) 64) 64 rays_right k on_k) s on_s in
    let line : is_rook_line s k || is_bishop_line s k ≡ true =
    (Decides-or _ _ (Decides-is_rook_line s k) (Decides-is_bishop_line s k)).1 (elim before_a.0 [ inl lines ↦ inl lines.2 | inr lines ↦ inr lines.2 ]) in
    let past = at_true (is_rook_line s k || is_bishop_line s k) (all_below (λ a. rays_from k s a) 64) row line in
    let from = all_below-at (λ a. rays_from k s a) 64 past a on_a in
    let to = at_true (is_between a s k) (all_below (λ b. one_ray k s a b) 64) from ((Decides-is_between a s k).1 before_a) in
    let here = all_below-at (λ b. one_ray k s a b) 64 to b on_b in
    let found = at_true (is_between b s k) ((a == b) || (is_between a b k || is_between b a k)) here ((Decides-is_between b s k).1 before_b) in
    elim ((Decides-or _ _ (Decides-eqb a b) (Decides-or _ _ (Decides-is_between a b k) (Decides-is_between b a k))).0 found) [
      | inl e ↦ inl e
      | inr (inl h) ↦ inr (inl h)
      | inr (inr h) ↦ inr (inr h)
    ]

-- One square is pinned by one piece alone.

aimed_stands : (squares : List (Option Piece)) (color : Color) (a k : ℕ) → IsAimed squares color a k → IsEmpty (piece_at squares a) → ⊥
aimed_stands squares color a k aimed empty =
    elim aimed [
      | inl h ↦ elim h.0 [ inl piece ↦ gone Rook piece | inr piece ↦ gone Queen piece ]
      | inr h ↦ elim h.0 [ inl piece ↦ gone Bishop piece | inr piece ↦ gone Queen piece ]
    ]
  where
    gone : (role : Role) → IsPiece color role (piece_at squares a) → ⊥
    gone role piece = let P : Option Piece → Type 0 = λ o. IsPiece color role o in subst P empty piece

not_at : (a s k : ℕ) → IsBetween a s k → a ≢ s
not_at a s k h = elim h.0 [ inl lines ↦ lines.1.1 | inr lines ↦ lines.1.1 ]

pub one_pin : (squares : List (Option Piece)) (color : Color) (a b s k : ℕ) → a < 64 → b < 64 → s < 64 → k < 64
    → Pins squares color a s k → Pins squares color b s k → a ≡ b
one_pin squares color a b s k on_a on_b on_s on_k first second = elim (same_ray k s a b on_k on_s on_a on_b first.1 second.1) [
  | inl e ↦ e
  | inr (inl between) ↦ absurd (aimed_stands squares color b k second.0 (first.2 b on_b between (not_at b s k second.1)))
  | inr (inr between) ↦ absurd (aimed_stands squares color a k first.0 (second.2 a on_a between (not_at a s k first.1)))
]

-- Two checks are met by no square.

check_open : (squares : List (Option Piece)) (color : Color) (o : Option Piece) (a s k : ℕ) → IsOfColor color o → PieceAttacks squares o a k → IsBetween a s k
    → IsOpen squares a k
check_open squares color None a s k foe attacks between = absurd attacks
check_open squares color (Some piece) a s k foe attacks between = by piece.role attacks
  where
    by : (role : Role) → RoleAttacks squares piece.color role a k → IsOpen squares a k
    by Pawn h = absurd (pawn_near piece.color a s k h between)
    by Knight h = absurd (knight_near a s k h between)
    by King h = absurd (king_near a s k h.0 h.1 between)
    by Bishop h = h.1
    by Rook h = h.1
    by Queen h = h.1

piece_there : (squares : List (Option Piece)) (color : Color) (a : ℕ) → IsOfColor color (piece_at squares a) → IsEmpty (piece_at squares a) → ⊥
piece_there squares color a foe empty = let P : Option Piece → Type 0 = λ o. IsOfColor color o in subst P empty foe

pub no_two : (squares : List (Option Piece)) (color : Color) (a b s k : ℕ) → a < 64 → b < 64 → s < 64 → k < 64
    → Checks squares color a k → Checks squares color b k → a ≢ b → Meets a s k → Meets b s k → ⊥
no_two squares color a b s k on_a on_b on_s on_k first second apart (inl at_a) (inl at_b) = apart (sym at_a ∙ at_b)
no_two squares color a b s k on_a on_b on_s on_k first second apart (inl at_a) (inr between) =
    let P : ℕ → Type 0 = λ s. IsBetween b s k in
    piece_there squares color a first.0 (check_open squares color (piece_at squares b) b s k second.0 second.1 between a on_a (subst P at_a between))
no_two squares color a b s k on_a on_b on_s on_k first second apart (inr between) (inl at_b) =
    let P : ℕ → Type 0 = λ s. IsBetween a s k in
    piece_there squares color b second.0 (check_open squares color (piece_at squares a) a s k first.0 first.1 between b on_b (subst P at_b between))
no_two squares color a b s k on_a on_b on_s on_k first second apart (inr near_a) (inr near_b) =
    elim (same_ray k s a b on_k on_s on_a on_b near_a near_b) [
      | inl e ↦ apart e
      | inr (inl between) ↦ piece_there squares color b second.0 (check_open squares color (piece_at squares a) a s k first.0 first.1 near_a b on_b between)
      | inr (inr between) ↦ piece_there squares color a first.0 (check_open squares color (piece_at squares b) b s k second.0 second.1 near_b a on_a between)
    ]
