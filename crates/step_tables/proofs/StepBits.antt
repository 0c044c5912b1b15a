-- The squares that steps lead to, as bitboards that are made of one bit for each step. The tables are compared with these entry by
-- entry, as numbers, and not square by square.
use Rattle.std.proofs.Common.{◌≡◌, ◌↔◌, ℕ, zero, suc, ◌+◌, ◌*◌, ◌^◌, ◌<◌, ◌≤◌, Bool, true, false, ◌&&◌, ◌==◌, cond, nat_lt, inl, inr, ⊎_elim, List, [], ◌∷◌, length, slice_index, slice_index_or, bit_or, ℤ, pos, negsuc, ◌+ℤ◌, refl, sym, ap, subst, arith, true≢false}
use Rattle.std.specs.Bool.{Decides}
use Rattle.std.specs.List.{Any}
use Rattle.std.proofs.lemmas.Int.{ints}
use Rattle.std.proofs.lemmas.Bool.{cases_lt}
use Rattle.std.proofs.lemmas.Bool.Decides.{Decides-and, Decides-eqb, Decides-ltb}
use Rattle.step_tables.specs.Bitboard.{Holds}
use Rattle.step_tables.specs.Squares.{file_of, rank_of}
use Rattle.step_tables.specs.Step.{IsStep, IsReached, IsAhead, IsInSight, times, direction_at}
use Rattle.step_tables.specs.Test.{all_below, is_set_of, is_reached, is_ahead, is_in_sight, has_reached, has_sights, has_lines}
use Rattle.step_tables.specs.declared.step.Step.{Step}
use Rattle.step_tables.proofs.BitboardLemmas.{Holds-zero, Holds-or, Holds-power}
use Rattle.step_tables.proofs.Test.{all_below-at, all_below-from, is_set_of-from, Decides-is_reached, Decides-is_ahead, Decides-is_in_sight}

-- the set of the square of this file and rank, or of none where they are not on the board
abbrev bit_of : ℤ → ℤ → ℕ
bit_of (pos file) (pos rank) = cond (nat_lt file 8 && nat_lt rank 8) (2 ^ (8 * rank + file)) 0
bit_of (pos file) (negsuc rank) = 0
bit_of (negsuc file) rank = 0

-- the set of the square to which a step leads
abbrev bit_after : Step → ℕ → ℕ
bit_after step a = bit_of (pos (file_of a) +ℤ step.files) (pos (rank_of a) +ℤ step.ranks)

unfoldable pub union : {X : Type 0} → (X → ℕ) → List X → ℕ
union f [] = 0
union f (x ∷ xs) = bit_or (f x) (union f xs)

-- the first squares of a line
unfoldable pub ahead : Step → ℕ → ℕ → ℕ
ahead direction a zero = 0
ahead direction a (suc n) = bit_or (bit_after (times (n + 1) direction) a) (ahead direction a n)

abbrev pub reached : List Step → ℕ → ℕ
reached steps a = union (λ step. bit_after step a) steps

abbrev pub in_sight : List Step → ℕ → ℕ
in_sight directions a = union (λ direction. ahead direction a 7) directions

-- the set of the squares below the bound that pass
unfoldable pub set_below : (ℕ → Bool) → ℕ → ℕ
set_below test zero = 0
set_below test (suc n) = bit_or (cond (test n) (2 ^ n) 0) (set_below test n)

Holds-bit_of : (file rank : ℤ) (b : ℕ) → b < 64
    → Holds (bit_of file rank) b ↔ ((file ≡ pos (file_of b)) × (rank ≡ pos (rank_of b)))
Holds-bit_of (pos file) (pos rank) b h =
    by (nat_lt file 8 && nat_lt rank 8) (Decides-and _ _ (Decides-ltb file 8) (Decides-ltb rank 8))
  where
    by : (t : Bool) → Decides t ((file < 8) × (rank < 8))
        → Holds (cond t (2 ^ (8 * rank + file)) 0) b ↔ ((pos file ≡ pos (file_of b)) × (pos rank ≡ pos (rank_of b)))
    by true d =
        let low = d.0 refl in
        let power = Holds-power (8 * rank + file) b in (
          λ x. let same = power.0 x in (ap pos (omega (arith, same, low.0, low.1)), ap pos (omega (arith, same, low.0, low.1))),
          λ y. power.1 (omega (arith, ints, y.0, y.1)),
        )
    by false d = (
      λ x. absurd (Holds-zero b x),
      λ y. absurd (true≢false (sym (d.1 (omega (arith, ints, y.0), omega (arith, ints, y.1, h))))),
    )
Holds-bit_of (pos file) (negsuc rank) b h = (λ x. absurd (Holds-zero b x), λ y. absurd (omega (arith, ints, y.1)))
Holds-bit_of (negsuc file) rank b h = (λ x. absurd (Holds-zero b x), λ y. absurd (omega (arith, ints, y.0)))

Holds-bit_after : (step : Step) (a b : ℕ) → b < 64 → Holds (bit_after step a) b ↔ IsStep step a b
Holds-bit_after step a b h = Holds-bit_of (pos (file_of a) +ℤ step.files) (pos (rank_of a) +ℤ step.ranks) b h

module _ {X : Type 0} (f : X → ℕ) (P : X → Type 0) (b : ℕ) (each : (x : X) → Holds (f x) b ↔ P x) where
  union-to : (xs : List X) → Holds (union f xs) b → Any P xs
  unfolding union
  union-to [] h = absurd (Holds-zero b h)
  union-to (x ∷ xs) h =
      ⊎_elim (λ first. (0, x, omega arith, refl, (each x).0 first))
      (λ later. let m = union-to xs later in (suc m.0, m.1, omega (arith, m.2), m.3, m.4))
      ((Holds-or (f x) (union f xs) b).0 h)

  union-from : (xs : List X) (k : ℕ) (y : X) → k < length xs → slice_index_or xs k y ≡ y → P y → Holds (union f xs) b
  unfolding union
  union-from [] k y low same p = absurd (omega (arith, low))
  union-from (x ∷ xs) zero y low same p = (Holds-or (f x) (union f xs) b).1 (inl ((each x).1 (subst P (sym same) p)))
  union-from (x ∷ xs) (suc k) y low same p =
      (Holds-or (f x) (union f xs) b).1 (inr (union-from xs k y (omega (arith, low)) same p))

  Holds-union : (xs : List X) → Holds (union f xs) b ↔ Any P xs
  Holds-union xs = (union-to xs, λ h. union-from xs h.0 h.1 h.2 h.3 h.4)

pub Holds-reached : (steps : List Step) (a b : ℕ) → b < 64 → Holds (reached steps a) b ↔ IsReached steps a b
Holds-reached steps a b h =
    Holds-union (λ step. bit_after step a) (λ step. IsStep step a b) b (λ step. Holds-bit_after step a b h) steps

module _ (direction : Step) (a b : ℕ) (on_board : b < 64) where
  ahead-to : (n : ℕ) → Holds (ahead direction a n) b → (passed : ℕ) × (passed < n) × IsStep (times (passed + 1) direction) a b
  unfolding ahead
  ahead-to zero h = absurd (Holds-zero b h)
  ahead-to (suc n) h =
      ⊎_elim (λ last. (n, omega arith, (Holds-bit_after (times (n + 1) direction) a b on_board).0 last))
      (λ before. let m = ahead-to n before in (m.0, omega (arith, m.1), m.2))
      ((Holds-or (bit_after (times (n + 1) direction) a) (ahead direction a n) b).0 h)

  ahead-from : (n passed : ℕ) → passed < n → IsStep (times (passed + 1) direction) a b → Holds (ahead direction a n) b
  unfolding ahead
  ahead-from zero passed low step = absurd (omega (arith, low))
  ahead-from (suc n) passed low step =
      (Holds-or (bit_after (times (n + 1) direction) a) (ahead direction a n) b).1
      (⊎_elim (λ (h : passed < n). inr (ahead-from n passed h step))
      (λ (h : n ≤ passed).
      let last : passed ≡ n = omega (arith, h, low) in
      inl ((Holds-bit_after (times (n + 1) direction) a b on_board).1 (subst (λ k. IsStep (times (k + 1) direction) a b) last step)))
      (cases_lt passed n))

  Holds-ahead : Holds (ahead direction a 7) b ↔ IsAhead direction a b
  Holds-ahead = (ahead-to 7, λ h. ahead-from 7 h.0 h.1 h.2)

pub Holds-in_sight : (directions : List Step) (a b : ℕ) → b < 64 → Holds (in_sight directions a) b ↔ IsInSight directions a b
Holds-in_sight directions a b h =
    Holds-union (λ direction. ahead direction a 7) (λ direction. IsAhead direction a b) b
    (λ direction. Holds-ahead direction a b h) directions

set_below-to : (test : ℕ → Bool) (b n : ℕ) → Holds (set_below test n) b → test b ≡ true
unfolding set_below
set_below-to test b zero h = absurd (Holds-zero b h)
set_below-to test b (suc n) h =
    ⊎_elim (by (test n) refl) (set_below-to test b n) ((Holds-or (cond (test n) (2 ^ n) 0) (set_below test n) b).0 h)
  where
    by : (t : Bool) → test n ≡ t → Holds (cond t (2 ^ n) 0) b → test b ≡ true
    by true e x = subst (λ k. test k ≡ true) (sym ((Holds-power n b).0 x)) e
    by false e x = absurd (Holds-zero b x)

set_below-from : (test : ℕ → Bool) (b n : ℕ) → b < n → test b ≡ true → Holds (set_below test n) b
unfolding set_below
set_below-from test b zero low e = absurd (omega (arith, low))
set_below-from test b (suc n) low e =
    (Holds-or (cond (test n) (2 ^ n) 0) (set_below test n) b).1
    (⊎_elim (λ (h : b < n). inr (set_below-from test b n h e))
    (λ (h : n ≤ b).
    let last : b ≡ n = omega (arith, h, low) in
    let here : test n ≡ true = subst (λ k. test k ≡ true) last e in
    inl (rw here ((Holds-power n b).1 last)))
    (cases_lt b n))

pub Holds-set_below : (test : ℕ → Bool) (b : ℕ) → b < 64 → Holds (set_below test 64) b ↔ (test b ≡ true)
Holds-set_below test b h = (set_below-to test b 64, set_below-from test b 64 h)

-- a table whose entries are such bitboards passes its test

pub has_reached-from : (steps : List Step) (bitboards : List ℕ)
    → all_below (λ a. slice_index bitboards a == reached steps a) 64 ≡ true → has_reached steps bitboards ≡ true
unfolding has_reached
has_reached-from steps bitboards e =
    all_below-from (λ a. is_set_of (is_reached steps a) (slice_index bitboards a)) 64 (λ a ha.
    let same : slice_index bitboards a ≡ reached steps a =
    (Decides-eqb _ _).0 (all_below-at (λ k. slice_index bitboards k == reached steps k) 64 e a ha) in
    is_set_of-from (is_reached steps a) (IsReached steps a) (slice_index bitboards a) (Decides-is_reached steps a)
    (λ b hb. subst (λ m. Holds m b ↔ IsReached steps a b) (sym same) (Holds-reached steps a b hb)))

pub has_sights-from : (directions : List Step) (bitboards : List ℕ)
    → all_below (λ a. slice_index bitboards a == in_sight directions a) 64 ≡ true → has_sights directions bitboards ≡ true
unfolding has_sights
has_sights-from directions bitboards e =
    all_below-from (λ a. is_set_of (is_in_sight directions a) (slice_index bitboards a)) 64 (λ a ha.
    let same : slice_index bitboards a ≡ in_sight directions a =
    (Decides-eqb _ _).0 (all_below-at (λ k. slice_index bitboards k == in_sight directions k) 64 e a ha) in
    is_set_of-from (is_in_sight directions a) (IsInSight directions a) (slice_index bitboards a) (Decides-is_in_sight directions a)
    (λ b hb. subst (λ m. Holds m b ↔ IsInSight directions a b) (sym same) (Holds-in_sight directions a b hb)))

-- the entry for a square and a direction is that line
abbrev is_line : List Step → List (List ℕ) → ℕ → ℕ → Bool
is_line directions lines a direction =
    slice_index (slice_index_or lines a []) direction == ahead (direction_at directions direction) a 7

pub has_lines-from : (count : ℕ) (directions : List Step) (lines : List (List ℕ))
    → all_below (λ a. all_below (is_line directions lines a) count) 64 ≡ true → has_lines count directions lines ≡ true
unfolding has_lines
has_lines-from count directions lines e =
    let row = λ (a d : ℕ). is_set_of (is_ahead (direction_at directions d) a) (slice_index (slice_index_or lines a []) d) in
    all_below-from (λ a. all_below (row a) count) 64 (λ a ha. all_below-from (row a) count (λ d hd.
    let same : slice_index (slice_index_or lines a []) d ≡ ahead (direction_at directions d) a 7 =
    (Decides-eqb _ _).0 (all_below-at (is_line directions lines a) count
    (all_below-at (λ k. all_below (is_line directions lines k) count) 64 e a ha) d hd) in
    is_set_of-from (is_ahead (direction_at directions d) a) (IsAhead (direction_at directions d) a)
    (slice_index (slice_index_or lines a []) d) (Decides-is_ahead (direction_at directions d) a)
    (λ b hb. subst (λ m. Holds m b ↔ IsAhead (direction_at directions d) a b) (sym same)
    (Holds-ahead (direction_at directions d) a b hb))))
