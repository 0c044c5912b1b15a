-- The table of the squares between two squares, checked on all pairs.
use Rattle.std.proofs.Common.{◌≡◌, ◌↔◌, ℕ, ◌+◌, ◌-◌, ◌*◌, ◌/◌, ◌%◌, ◌^◌, ◌<◌, ◌≤◌, Bool, true, false, ◌&&◌, ◌||◌, ◌==◌, ◌⊎◌, inl, inr, ⊎_elim, [], slice_index, slice_index_or, refl, sym, ap, ◌∙◌, arith}
use Rattle.std.specs.Bool.{Decides}
use Rattle.std.specs.Int.{bit_at}
use Rattle.std.proofs.lemmas.Bool.Decides.{Decides-and, Decides-or, Decides-eqb, Decides-like, not_from_Decides}
use Rattle.step_tables.specs.Squares.{file_of, rank_of, gap, files_apart, ranks_apart, RookLine, BishopLine, QueenLine, IsBetween}
use Rattle.step_tables.specs.Bitboard.{Holds}
use Rattle.step_tables.specs.Test.{all_below, is_set_of}
use Rattle.step_tables.proofs.Test.{all_below-at, Holds-is_set_of}
use Rattle.step_tables.proofs.Rule.{is_rook_line, is_bishop_line, Decides-is_rook_line, Decides-is_bishop_line}
use Rattle.step_tables.proofs.BitboardLemmas.{Holds-zero}
use Rattle.step_tables.specs.declared.in_between.TheConstants.{BETWEEN}

abbrev is_between : ℕ → ℕ → ℕ → Bool
is_between a s b =
    ((is_rook_line a b && (is_rook_line a s && is_rook_line s b)) || (is_bishop_line a b && (is_bishop_line a s && is_bishop_line s b)))
    && (files_apart a s + files_apart s b == files_apart a b && ranks_apart a s + ranks_apart s b == ranks_apart a b)

Decides-is_between : (a s b : ℕ) → Decides (is_between a s b) (IsBetween a s b)
Decides-is_between a s b =
    let rook = Decides-and _ _ (Decides-is_rook_line a b) (Decides-and _ _ (Decides-is_rook_line a s) (Decides-is_rook_line s b)) in
    let bishop = Decides-and _ _ (Decides-is_bishop_line a b) (Decides-and _ _ (Decides-is_bishop_line a s) (Decides-is_bishop_line s b)) in
    let apart = Decides-and _ _ (Decides-eqb (files_apart a s + files_apart s b) (files_apart a b))
    (Decides-eqb (ranks_apart a s + ranks_apart s b) (ranks_apart a b)) in
    Decides-like _
    (λ h. (⊎_elim (λ r. inl (r.0, r.1.0, r.1.1)) (λ d. inr (d.0, d.1.0, d.1.1)) h.0, h.1.0, h.1.1))
    (λ h. (⊎_elim (λ r. inl (r.0, (r.1, r.2))) (λ d. inr (d.0, (d.1, d.2))) h.0, (h.1, h.2)))
    (Decides-and _ _ (Decides-or _ _ rook bishop) apart)

-- what the table gives for two squares, the lower one first
abbrev pub entry : ℕ → ℕ → ℕ
entry low high =
    slice_index (slice_index_or BETWEEN (high / 8 - low / 8) []) (7 + high % 8 - low % 8) * 2 ^ low % 2 ^ 64

-- the entry is right; it is zero where the squares share no line, so that only few have to be looked at bit by bit
abbrev is_right : ℕ → ℕ → Bool
is_right low high =
    elim (is_rook_line low high || is_bishop_line low high)
    [ true ↦ is_set_of (λ s. is_between low s high) (entry low high) | false ↦ entry low high == 0 ]

all_right : all_below (λ high. all_below (λ low. is_right low high) (high + 1)) 64 ≡ true
unfolding all_below
all_right = refl

either : (on set none : Bool) → elim on [ true ↦ set | false ↦ none ] ≡ true
    → ((on ≡ true) × (set ≡ true)) ⊎ ((on ≡ false) × (none ≡ true))
either true set none e = inl (refl, e)
either false set none e = inr (refl, e)

-- squares between two squares lie on a line of both
QueenLine-IsBetween : (a s b : ℕ) → IsBetween a s b → QueenLine a b
QueenLine-IsBetween a s b h = ⊎_elim (λ r. inl r.0) (λ d. inr d.0) h.0

pub Holds-entry : (low high s : ℕ) → low ≤ high → high < 64 → s < 64 → Holds (entry low high) s ↔ IsBetween low s high
Holds-entry low high s order on_board hs =
    let rows = all_below-at (λ h. all_below (λ l. is_right l h) (h + 1)) 64 all_right high on_board in
    let right : is_right low high ≡ true = all_below-at (λ l. is_right l high) (high + 1) rows low (omega arith) in
    let line = Decides-or _ _ (Decides-is_rook_line low high) (Decides-is_bishop_line low high) in
    ⊎_elim
    (λ yes. Holds-is_set_of (λ k. is_between low k high) (λ k. IsBetween low k high) _ (λ k. Decides-is_between low k high)
    yes.1 s hs)
    (λ no.
    let none : entry low high ≡ 0 = (Decides-eqb _ _).0 no.1 in (
      λ h. absurd (Holds-zero s (sym (ap (λ m. bit_at m s) none) ∙ h)),
      λ h. absurd (not_from_Decides _ line no.0 (QueenLine-IsBetween low s high h)),
    ))
    (either (is_rook_line low high || is_bishop_line low high) _ _ right)

-- either of the two squares may come first

gap-swap : (x y : ℕ) → gap x y ≡ gap y x
gap-swap x y = omega arith

RookLine-swap : (a b : ℕ) → RookLine a b → RookLine b a
RookLine-swap a b h = (
  ⊎_elim (λ e. inl (gap-swap (file_of b) (file_of a) ∙ e)) (λ e. inr (gap-swap (rank_of b) (rank_of a) ∙ e)) h.0,
  λ e. h.1 (sym e),
)

BishopLine-swap : (a b : ℕ) → BishopLine a b → BishopLine b a
BishopLine-swap a b h = (gap-swap (file_of b) (file_of a) ∙ h.0 ∙ gap-swap (rank_of a) (rank_of b), λ e. h.1 (sym e))

sum-swap : (x y z : ℕ) → gap x y + gap y z ≡ gap x z → gap z y + gap y x ≡ gap z x
sum-swap x y z h = omega (arith, h)

pub IsBetween-swap : (a s b : ℕ) → IsBetween a s b → IsBetween b s a
IsBetween-swap a s b h = (
  ⊎_elim (λ r. inl (RookLine-swap a b r.0, RookLine-swap s b r.2, RookLine-swap a s r.1))
      (λ d. inr (BishopLine-swap a b d.0, BishopLine-swap s b d.2, BishopLine-swap a s d.1)) h.0,
  sum-swap (file_of a) (file_of s) (file_of b) h.1,
  sum-swap (rank_of a) (rank_of s) (rank_of b) h.2,
)
