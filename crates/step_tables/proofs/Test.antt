-- What the computed tests tell of each square.
use Rattle.std.proofs.Common.{◌≡◌, ◌↔◌, ℕ, ◌+◌, ◌<◌, Bool, true, false, ◌==◌, cond, List, [], slice_index, slice_index_or, refl, sym, ◌∙◌, arith, true≢false}
use Rattle.std.specs.Bool.{Decides}
use Rattle.std.specs.List.{Any, list_any}
use Rattle.std.specs.Int.{bit_at}
use Rattle.std.proofs.lemmas.Bool.Decides.{Decides-below_and, Decides-below_or, Decides-and, Decides-int_eq, Decides-eqb}
use Rattle.std.proofs.lemmas.Nat.Bits.{bit_at-lt}
use Rattle.std.proofs.lemmas.List.Folds.{Any-from_list_any, list_any-from_Any}
use Rattle.step_tables.specs.Bitboard.{Holds}
use Rattle.step_tables.specs.Step.{IsStep, IsReached, IsAhead, IsInSight, times, direction_at}
use Rattle.step_tables.specs.Test.{all_below, any_below, is_set_of, is_step, is_reached, is_ahead, is_in_sight, has_reached, has_sights, has_lines}
use Rattle.step_tables.specs.declared.step.Step.{Step}

-- a test that each number below the bound passes
pub all_below-at : (test : ℕ → Bool) (n : ℕ) → all_below test n ≡ true → (k : ℕ) → k < n → test k ≡ true
unfolding all_below
all_below-at test n e =
    (Decides-below_and test (λ k. test k ≡ true) (all_below test) (λ k. (λ x. x, λ x. x)) refl (λ _. refl) n).0 e

pub all_below-from : (test : ℕ → Bool) (n : ℕ) → ((k : ℕ) → k < n → test k ≡ true) → all_below test n ≡ true
unfolding all_below
all_below-from test n each =
    (Decides-below_and test (λ k. test k ≡ true) (all_below test) (λ k. (λ x. x, λ x. x)) refl (λ _. refl) n).1 each

-- a bit that the test decides
bit_of : (bit : ℕ) (t : Bool) (P : Type 0) → Decides t P → bit ≡ cond t 1 0 → (bit ≡ 1) ↔ P
bit_of bit true P d e = (λ _. d.0 refl, λ _. e)
bit_of bit false P d e =
    (λ h. absurd (omega (arith, sym e ∙ h)), λ x. absurd (true≢false (sym (d.1 x))))

pub Holds-is_set_of : (test : ℕ → Bool) (P : ℕ → Type 0) (bitboard : ℕ) → ((b : ℕ) → Decides (test b) (P b))
    → is_set_of test bitboard ≡ true → (b : ℕ) → b < 64 → Holds bitboard b ↔ P b
Holds-is_set_of test P bitboard decides e b h =
    bit_of _ (test b) (P b) (decides b) ((Decides-eqb _ _).0 (all_below-at (λ k. bit_at bitboard k == cond (test k) 1 0) 64 e b h))

bit_from : (bit : ℕ) (t : Bool) (P : Type 0) → bit < 2 → Decides t P → (bit ≡ 1) ↔ P → bit ≡ cond t 1 0
bit_from bit true P low d same = same.1 (d.0 refl)
bit_from bit false P low d same =
    let none : ¬ (bit ≡ 1) = λ h. true≢false (sym (d.1 (same.0 h))) in omega (arith, low, none)

pub is_set_of-from : (test : ℕ → Bool) (P : ℕ → Type 0) (bitboard : ℕ) → ((b : ℕ) → Decides (test b) (P b))
    → ((b : ℕ) → b < 64 → Holds bitboard b ↔ P b) → is_set_of test bitboard ≡ true
is_set_of-from test P bitboard decides same =
    all_below-from (λ k. bit_at bitboard k == cond (test k) 1 0) 64
    (λ b h. (Decides-eqb _ _).1 (bit_from _ (test b) (P b) (bit_at-lt bitboard b) (decides b) (same b h)))

-- a test of a list's elements
pub Decides-list_any : {X : Type 0} (test : X → Bool) (P : X → Type 0) → ((x : X) → Decides (test x) (P x)) → (xs : List X)
    → Decides (list_any test xs) (Any P xs)
Decides-list_any test P each xs = (
  λ e. let h = Any-from_list_any test xs e in (h.0, h.1, h.2, h.3, (each h.1).0 h.4),
  λ h. list_any-from_Any test xs (h.0, h.1, h.2, h.3, (each h.1).1 h.4),
)

pub Decides-is_step : (step : Step) (a b : ℕ) → Decides (is_step step a b) (IsStep step a b)
Decides-is_step step a b = Decides-and _ _ (Decides-int_eq _ _) (Decides-int_eq _ _)

pub Decides-is_reached : (steps : List Step) (a b : ℕ) → Decides (is_reached steps a b) (IsReached steps a b)
Decides-is_reached steps a b = Decides-list_any _ _ (λ step. Decides-is_step step a b) steps

pub Decides-is_ahead : (direction : Step) (a b : ℕ) → Decides (is_ahead direction a b) (IsAhead direction a b)
unfolding any_below
Decides-is_ahead direction a b =
    Decides-below_or (λ passed. is_step (times (passed + 1) direction) a b) (λ passed. IsStep (times (passed + 1) direction) a b)
    (any_below (λ passed. is_step (times (passed + 1) direction) a b))
    (λ passed. Decides-is_step (times (passed + 1) direction) a b) refl (λ _. refl) 7

pub Decides-is_in_sight : (directions : List Step) (a b : ℕ) → Decides (is_in_sight directions a b) (IsInSight directions a b)
Decides-is_in_sight directions a b = Decides-list_any _ _ (λ direction. Decides-is_ahead direction a b) directions

-- the bitboards of a table that passed
pub Holds-has_reached : (steps : List Step) (bitboards : List ℕ) → has_reached steps bitboards ≡ true
    → (a b : ℕ) → a < 64 → b < 64 → Holds (slice_index bitboards a) b ↔ IsReached steps a b
unfolding has_reached
Holds-has_reached steps bitboards e a b ha hb =
    Holds-is_set_of (is_reached steps a) (IsReached steps a) _ (Decides-is_reached steps a)
    (all_below-at (λ k. is_set_of (is_reached steps k) (slice_index bitboards k)) 64 e a ha) b hb

pub Holds-has_sights : (directions : List Step) (bitboards : List ℕ) → has_sights directions bitboards ≡ true
    → (a b : ℕ) → a < 64 → b < 64 → Holds (slice_index bitboards a) b ↔ IsInSight directions a b
unfolding has_sights
Holds-has_sights directions bitboards e a b ha hb =
    Holds-is_set_of (is_in_sight directions a) (IsInSight directions a) _ (Decides-is_in_sight directions a)
    (all_below-at (λ k. is_set_of (is_in_sight directions k) (slice_index bitboards k)) 64 e a ha) b hb

pub Holds-has_lines : (count : ℕ) (directions : List Step) (lines : List (List ℕ)) → has_lines count directions lines ≡ true
    → (a d b : ℕ) → a < 64 → d < count → b < 64
    → Holds (slice_index (slice_index_or lines a []) d) b ↔ IsAhead (direction_at directions d) a b
unfolding has_lines
Holds-has_lines count directions lines e a d b ha hd hb =
    let row = λ (k i : ℕ). is_set_of (is_ahead (direction_at directions i) k) (slice_index (slice_index_or lines k []) i) in
    Holds-is_set_of (is_ahead (direction_at directions d) a) (IsAhead (direction_at directions d) a) _
    (Decides-is_ahead (direction_at directions d) a)
    (all_below-at (row a) count (all_below-at (λ k. all_below (row k) count) 64 e a ha) d hd) b hb
