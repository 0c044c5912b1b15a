-- Keys that rise, and where a key stands among them.
use Rattle.std.proofs.Common.{◌≡◌, ℕ, zero, suc, ◌<◌, ◌≤◌, Bool, true, false, List, [], ◌∷◌, length, get_or, refl, arith}
use Rattle.std.specs.List.{AllByRecursion}
use Rattle.std.specs.Ordering.{is_gt}
use Rattle.segment_blocks.proofs.KeyLemmas.{key_order, below-chain}
use Rattle.spill_blobs.specs.Index.{AreRising}
use Rattle.spill_blobs.specs.Marks.{is_less}

module _ (key : List ℕ) where
  each : (P : List ℕ → Type 0) (keys : List (List ℕ)) (j : ℕ) → j < length keys → AllByRecursion P keys → P (get_or keys j [])
  each P [] j inside all = absurd (omega arith)
  each P (k ∷ keys) zero inside all = all.0
  each P (k ∷ keys) (suc j) inside all = each P keys j (omega arith) all.1

  -- a key that stands before one that is less is less
  pub less-chain : (keys : List (List ℕ)) (i j : ℕ) → AreRising keys → i ≤ j → j < length keys
      → is_less key (get_or keys j []) ≡ true → is_less key (get_or keys i []) ≡ true
  less-chain [] i j rise le inside e = absurd (omega arith)
  less-chain (k ∷ keys) zero zero rise le inside e = e
  less-chain (k ∷ keys) zero (suc j) rise le inside e =
      below-chain k (get_or keys j []) key (each (λ other. is_gt (key_order k other) ≡ false) keys j (omega arith) rise.0) e
  less-chain (k ∷ keys) (suc i) zero rise le inside e = absurd (omega arith)
  less-chain (k ∷ keys) (suc i) (suc j) rise le inside e = less-chain keys i j rise.1 (omega arith) (omega arith) e

  pub not_true : (b : Bool) → (b ≡ true → ⊥) → b ≡ false
  not_true true h = absurd (h refl)
  not_true false h = refl
