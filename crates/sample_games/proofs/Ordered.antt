-- Legal moves that are sorted: in another order they still stand once each.
use Rattle.std.proofs.Common.{◌≡◌, ◌≢◌, ◌↔◌, ℕ, zero, suc, ◌<◌, List, [], ◌∷◌, length, take, ◌++◌, inl, inr, ◌⊎◌, Some, slice_get, Contains, AllPairs, IsPermutation, IsSortedByKey, refl, sym, ap, ◌∙◌, subst, arith, swap, slice_index_or}
use Rattle.std.specs.Cmp.Lexicographic.{slice_cmp}
use Rattle.std.specs.Ordering.{nat_cmp}
use Rattle.std.proofs.lemmas.Bool.{cases_lt}
use Rattle.std.proofs.lemmas.List.Edits.{length-swap, swapped_from_swap}
use Rattle.std.specs.List.{refill}
use Rattle.std.proofs.lemmas.List.{append-nil, drop_all, take_all}
use Rattle.std.proofs.lemmas.List.Sorted.{Contains-permutation, IsPermutation-keeps, IsPermutation-sym, length_permutation}
use Rattle.explorer_model.specs.declared.chess.Move.{Move}
use Rattle.explorer_model.specs.declared.chess.Position.{Position}
use Rattle.explorer_model.specs.Chess.{Legal}
use Rattle.explorer_model.specs.Uci.{uci_text}
use Rattle.sample_games.specs.Samples.{InUciOrder}

-- no two places have one element
abbrev Apart : {X : Type 0} → List X → Type 0
Apart {X} xs = (i j : ℕ) (d : X) → i < length xs → j < length xs → i ≢ j → slice_index_or xs i d ≢ slice_index_or xs j d

apart-from : {X : Type 0} (xs : List X) → AllPairs (λ a b. a ≢ b) xs → Apart xs
apart-from xs once i j d low high other = elim (cases_lt i j) [
  | inl lt ↦ once i j d lt high
  | inr ge ↦ elim (cases_lt j i) [
    | inl lt ↦ λ e. once j i d lt low (sym e)
    | inr le ↦ absurd (other (omega (arith, ge, le)))
  ]
]

once-from : {X : Type 0} (xs : List X) → Apart xs → AllPairs (λ a b. a ≢ b) xs
once-from xs apart i j d lt high = apart i j d (omega (arith, lt, high)) high (λ e. absurd (omega (arith, e, lt)))

-- where the element of a place stood before two were exchanged
record Came {X : Type 0} (xs ys : List X) (a b k : ℕ) (d : X) : Type 0 where
  from : ℕ
  below : from < length xs
  same : slice_index_or ys k d ≡ slice_index_or xs from d
  way : ((k ≡ a) × (from ≡ b)) ⊎ (((k ≡ b) × (from ≡ a)) ⊎ ((k ≢ a) × (k ≢ b) × (from ≡ k)))

same_or_not : (m n : ℕ) → (m ≡ n) ⊎ (m ≢ n)
same_or_not m n = elim (cases_lt m n) [
  | inl lt ↦ inr (λ e. absurd (omega (arith, e, lt)))
  | inr ge ↦ elim (cases_lt n m) [
    | inl lt ↦ inr (λ e. absurd (omega (arith, e, lt)))
    | inr le ↦ inl (omega (arith, ge, le))
  ]
]

came : {X : Type 0} (xs : List X) (a b k : ℕ) (d : X) → a < length xs → b < length xs → k < length xs → Came xs (swap xs a b) a b k d
came xs a b k d a_in b_in k_in =
    let moved = swapped_from_swap xs (swap xs a b) a b d a_in b_in refl in
    elim (same_or_not k a) [
      | inl is_a ↦ record { from = b; below = b_in; same = ap (λ n. slice_index_or (swap xs a b) n d) is_a ∙ moved.0; way = inl (is_a, refl) }
      | inr not_a ↦ elim (same_or_not k b) [
        | inl is_b ↦ record { from = a; below = a_in; same = ap (λ n. slice_index_or (swap xs a b) n d) is_b ∙ moved.1; way = inr (inl (is_b, refl)) }
        | inr not_b ↦ record { from = k; below = k_in; same = moved.2 k not_a not_b; way = inr (inr (not_a, not_b, refl)) }
      ]
    ]

-- two places came from two
ways-apart : (a b i j from from' : ℕ) → i ≢ j
    → ((i ≡ a) × (from ≡ b)) ⊎ (((i ≡ b) × (from ≡ a)) ⊎ ((i ≢ a) × (i ≢ b) × (from ≡ i)))
    → ((j ≡ a) × (from' ≡ b)) ⊎ (((j ≡ b) × (from' ≡ a)) ⊎ ((j ≢ a) × (j ≢ b) × (from' ≡ j)))
    → from ≢ from'
ways-apart a b i j from from' other (inl w) (inl v) e = other (w.0 ∙ sym v.0)
ways-apart a b i j from from' other (inl w) (inr (inl v)) e = other (w.0 ∙ sym v.1 ∙ sym e ∙ w.1 ∙ sym v.0)
ways-apart a b i j from from' other (inl w) (inr (inr v)) e = v.1 (sym v.2 ∙ sym e ∙ w.1)
ways-apart a b i j from from' other (inr (inl w)) (inl v) e = other (w.0 ∙ sym v.1 ∙ sym e ∙ w.1 ∙ sym v.0)
ways-apart a b i j from from' other (inr (inl w)) (inr (inl v)) e = other (w.0 ∙ sym v.0)
ways-apart a b i j from from' other (inr (inl w)) (inr (inr v)) e = v.0 (sym v.2 ∙ sym e ∙ w.1)
ways-apart a b i j from from' other (inr (inr w)) (inl v) e = w.1 (sym w.2 ∙ e ∙ v.1)
ways-apart a b i j from from' other (inr (inr w)) (inr (inl v)) e = w.0 (sym w.2 ∙ e ∙ v.1)
ways-apart a b i j from from' other (inr (inr w)) (inr (inr v)) e = other (sym w.2 ∙ e ∙ v.2)

swap-apart : {X : Type 0} (xs : List X) (a b : ℕ) → a < length xs → b < length xs → Apart xs → Apart (swap xs a b)
swap-apart {X} xs a b a_in b_in apart i j d i_in j_in other same =
    let len : length (swap xs a b) ≡ length xs = length-swap xs a b in
    let at_i : Came xs (swap xs a b) a b i d = came xs a b i d a_in b_in (omega (arith, i_in, len)) in
    let at_j : Came xs (swap xs a b) a b j d = came xs a b j d a_in b_in (omega (arith, j_in, len)) in
    apart at_i.from at_j.from d at_i.below at_j.below (ways-apart a b i j at_i.from at_j.from other at_i.way at_j.way)
    (sym at_i.same ∙ same ∙ at_j.same)

once-permuted : {X : Type 0} (xs ys : List X) → IsPermutation xs ys → AllPairs (λ a b. a ≢ b) xs → AllPairs (λ a b. a ≢ b) ys
once-permuted xs ys permuted once =
    once-from ys (IsPermutation-keeps xs Apart (apart-from xs once) (λ l i j low high apart. swap-apart l i j low high apart) ys permuted)

pub ordered : (p : Position) (legal moves : List Move) → ((m : Move) → Contains legal m ↔ Legal p m) → AllPairs (λ a b. a ≢ b) legal
    → IsPermutation legal moves → IsSortedByKey uci_text (slice_cmp nat_cmp) moves → InUciOrder p moves
ordered p legal moves each once permuted sorted = record {
  each = λ m. (λ here. (each m).0 (Contains-permutation moves legal m (IsPermutation-sym legal moves permuted) here), λ legal_move. Contains-permutation legal moves m permuted ((each m).1 legal_move));
  once = once-permuted legal moves permuted once;
  ascending = sorted;
}

-- what is written back after a sort is what the sort left
pub put-back : (items sorted : List Move) → IsPermutation items sorted → refill (length items) items sorted ≡ sorted
put-back items sorted permuted =
    let len : length sorted ≡ length items = length_permutation items sorted permuted in
    ap (λ (rest : List Move). take (length items) (sorted ++ rest)) (drop_all (length sorted) items (omega (arith, len)))
    ∙ (ap (λ (all : List Move). take (length items) all) (append-nil sorted) ∙ take_all (length items) sorted (omega (arith, len)))

-- ---- the drawn one of them

pub contained : (moves : List Move) (k : ℕ) (m : Move) → k < length moves → m ≡ slice_index_or moves k m → Contains moves m
contained moves k m lt is = (k, lt, sym is)

pub picked-from : (moves : List Move) (k : ℕ) (m : Move) → k < length moves → m ≡ slice_index_or moves k m → slice_get moves k ≡ Some m
picked-from [] k m lt is = absurd (omega (arith, lt))
picked-from (o ∷ moves) zero m lt is = ap Some (sym is)
picked-from (o ∷ moves) (suc k) m lt is = picked-from moves k m (omega (arith, lt)) is

pub each-same : (p q : Position) (moves same : List Move) → q ≡ p → same ≡ moves → InUciOrder p moves → (m : Move) → Contains same m ↔ Legal q m
each-same p q moves same at_board listed order m =
    subst (λ (ms : List Move). Contains ms m ↔ Legal q m) (sym listed) (subst (λ (r : Position). Contains moves m ↔ Legal r m) (sym at_board) (order.each m))

pub once-same : (p : Position) (moves same : List Move) → same ≡ moves → InUciOrder p moves → AllPairs (λ a b. a ≢ b) same
once-same p moves same listed order = subst (λ (ms : List Move). AllPairs (λ a b. a ≢ b) ms) (sym listed) order.once

pub none-legal : (p : Position) (moves : List Move) → InUciOrder p moves → length moves ≡ 0 → (m : Move) → ¬ Legal p m
none-legal p moves order none m legal = let at = (order.each m).1 legal in absurd (omega (arith, at.1, none))
