-- Where a key stands among blocks.
use Rattle.std.proofs.Common.{◌≡◌, ℕ, zero, suc, ◌<◌, ◌≤◌, true, false, List, [], ◌∷◌, ◌++◌, length, get_or, drop, ◌∙◌, arith}
use Rattle.std.specs.List.{AllByRecursion}
use Rattle.std.specs.Ordering.{is_gt}
use Rattle.tally_rows.specs.declared.row.Row.{Row}
use Rattle.segment_blocks.specs.Walk.{is_below, from_key, rows_in}
use Rattle.segment_blocks.specs.PackedRows.{AreSome, is_first_below}
use Rattle.segment_blocks.proofs.KeyLemmas.{key_order, below-chain, Rise, Rise-right, All-right, AreBelow, AreNotBelow, below-before, not_below-behind, from_key-early, from_key-late, from_key-all, from_key-nil}

-- what holds of all rows of blocks holds of the first row of each
at-first : (P : Row → Type 0) (blocks : List (List Row)) (j : ℕ) → AreSome blocks → j < length blocks → AllByRecursion P (rows_in blocks)
    → (Q : List Row → Type 0) → ((row : Row) (rows : List Row) → P row → Q (row ∷ rows)) → Q (get_or blocks j [])
at-first P [] j some below all Q q = absurd (omega arith)
at-first P ([] ∷ blocks) j some below all Q q = absurd some
at-first P ((row ∷ rows) ∷ blocks) zero some below all Q q = q row rows all.0
at-first P ((row ∷ rows) ∷ blocks) (suc j) some below all Q q =
    at-first P blocks j some (omega arith) (All-right P rows (rows_in blocks) all.1) Q q

module _ (key : List ℕ) where
  -- a block that stands before one that begins below the key begins below it
  pub first-chain : (blocks : List (List Row)) (i j : ℕ) → AreSome blocks → Rise (rows_in blocks) → i ≤ j → j < length blocks
      → is_first_below key (get_or blocks j []) ≡ true → is_first_below key (get_or blocks i []) ≡ true
  first-chain [] i j some h le below e = absurd (omega arith)
  first-chain ([] ∷ blocks) i j some h le below e = absurd some
  first-chain ((row ∷ rows) ∷ blocks) zero zero some h le below e = e
  first-chain ((row ∷ rows) ∷ blocks) zero (suc j) some h le below e =
      at-first (λ r. is_gt (key_order row.key r.key) ≡ false) blocks j some (omega arith) (All-right (λ r. is_gt (key_order row.key r.key) ≡ false) rows (rows_in blocks) h.0)
      (λ block. is_first_below key block ≡ true → is_below key row ≡ true) (λ r rs gt d. below-chain row.key r.key key gt d) e
  first-chain ((row ∷ rows) ∷ blocks) (suc i) zero some h le below e = absurd (omega arith)
  first-chain ((row ∷ rows) ∷ blocks) (suc i) (suc j) some h le below e =
      first-chain blocks i j some (Rise-right rows (rows_in blocks) h.1) (omega arith) (omega arith) e

  -- where the first block does not begin below the key, no row is below it
  pub from_key-first : (blocks : List (List Row)) → AreSome blocks → Rise (rows_in blocks)
      → (0 < length blocks → is_first_below key (get_or blocks 0 []) ≡ false) → from_key key (rows_in blocks) ≡ rows_in blocks
  from_key-first [] some h e = from_key-nil key
  from_key-first ([] ∷ blocks) some h e = absurd some
  from_key-first ((row ∷ rows) ∷ blocks) some h e =
      from_key-all key (row ∷ (rows ++ rows_in blocks)) (not_below-behind key row (rows ++ rows_in blocks) h (e (omega arith)))

  not_below-blocks : (blocks : List (List Row)) → AreSome blocks → Rise (rows_in blocks)
      → (0 < length blocks → is_first_below key (get_or blocks 0 []) ≡ false) → AreNotBelow key (rows_in blocks)
  not_below-blocks [] some h e = tt
  not_below-blocks ([] ∷ blocks) some h e = absurd some
  not_below-blocks ((row ∷ rows) ∷ blocks) some h e = not_below-behind key row (rows ++ rows_in blocks) h (e (omega arith))

  -- where the block at a place begins below the key and the next one does not, the rows from the key on are those of that block and all behind it
  pub from_key-blocks : (blocks : List (List Row)) (n : ℕ) → AreSome blocks → Rise (rows_in blocks) → n < length blocks
      → is_first_below key (get_or blocks n []) ≡ true
      → (suc n < length blocks → is_first_below key (get_or blocks (suc n) []) ≡ false)
      → from_key key (rows_in blocks) ≡ from_key key (get_or blocks n []) ++ rows_in (drop (suc n) blocks)
  from_key-blocks [] n some h below e f = absurd (omega arith)
  from_key-blocks ([] ∷ blocks) n some h below e f = absurd some
  from_key-blocks ((row ∷ rows) ∷ blocks) zero some h below e f =
      from_key-late key (row ∷ rows) (rows_in blocks) (not_below-blocks blocks some (Rise-right (row ∷ rows) (rows_in blocks) h) (λ m. f (omega arith)))
  from_key-blocks ((row ∷ rows) ∷ blocks) (suc n) some h below e f =
      from_key-early key (row ∷ rows) (rows_in blocks) (earlier blocks n some (omega arith) e (row ∷ rows) h)
      ∙ from_key-blocks blocks n some (Rise-right (row ∷ rows) (rows_in blocks) h) (omega arith) e (λ m. f (omega arith))
    where
      -- rows before blocks of which one begins below the key
      earlier : (bs : List (List Row)) (k : ℕ) → AreSome bs → k < length bs → is_first_below key (get_or bs k []) ≡ true
          → (xs : List Row) → Rise (xs ++ rows_in bs) → AreBelow key xs
      earlier [] k some below e xs h = absurd (omega arith)
      earlier ([] ∷ bs) k some below e xs h = absurd some
      earlier ((r ∷ rs) ∷ bs) zero some below e xs h = below-before key xs r (rs ++ rows_in bs) h e
      earlier ((r ∷ rs) ∷ bs) (suc k) some below e xs h =
          below-before key xs r (rs ++ rows_in bs) h (first-chain ((r ∷ rs) ∷ bs) zero (suc k) some (Rise-right xs ((r ∷ rs) ++ rows_in bs) h) (omega arith) below e)
