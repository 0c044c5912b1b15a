-- A walk over the blocks of rows in their order finds the rows of its key.
use Rattle.std.proofs.Common.{◌≡◌, inl, inr, ℕ, zero, suc, ◌≤◌, Bool, true, false, cond, List, [], ◌∷◌, ◌++◌, map, filter, bytes_eq, Option, Some, refl, sym, ap, ◌∙◌, subst, arith, true≢false}
use Rattle.std.specs.List.{AllByRecursion}
use Rattle.std.specs.declared.cmp.Ordering.{Ordering}
use Rattle.std.specs.declared.cmp.Ordering.TheVariants.{Less, Equal, Greater}
use Rattle.std.specs.Ordering.{is_lt, is_gt}
use Rattle.std.specs.Cmp.{tied_itself}
use Rattle.std.specs.Cmp.Lexicographic.{nat_list_cmp_total, bytes_decides}
use Rattle.std.specs.FinMap.{nat_cmp-IsAntisymmetric, slice_cmp-IsAntisymmetric}
use Rattle.tally_rows.specs.declared.row.Row.{Row}
use Rattle.segment_blocks.specs.Walk.{has_key}
use Rattle.segment_blocks.proofs.KeyLemmas.{key_order, Rise, AreBelow, AreNotBelow}
use Rattle.spill_blobs.specs.Index.{lesser}
use Rattle.spill_blobs.specs.Parts.{AreWritten}
use Rattle.spill_blobs.specs.RowBlocks.{row_bytes}
use Rattle.spill_blobs.specs.Walks.{WalksTo, GoesOn, behind_rows}
use Rattle.spill_blobs.proofs.RowLemmas.{one_row}

module _ (key : List ℕ) where
  pub same_key : (a : List ℕ) → key_order a key ≡ Equal → a ≡ key
  same_key a = slice_cmp-IsAntisymmetric nat_cmp-IsAntisymmetric a key

  pub keyed-more : (rows : List Row) (row : Row) → AllByRecursion (λ r. r.key ≡ key) rows → row.key ≡ key → AllByRecursion (λ r. r.key ≡ key) (rows ++ row ∷ [])
  keyed-more [] row all one = (one, tt)
  keyed-more (r ∷ rows) row all one = (all.0, keyed-more rows row all.1 one)

  has_not : (row : Row) → (row.key ≡ key → ⊥) → has_key key row ≡ false
  has_not row differ = by (bytes_eq row.key key) refl
    where
      by : (b : Bool) → bytes_eq row.key key ≡ b → b ≡ false
      by true e = absurd (differ ((bytes_decides row.key key).0 e))
      by false e = refl

  tied : (row : Row) → row.key ≡ key → key_order row.key key ≡ Equal
  tied row e = ap (λ k. key_order row.key k) (sym e) ∙ tied_itself nat_list_cmp_total row.key

  pub less-has_not : (row : Row) → key_order row.key key ≡ Less → has_key key row ≡ false
  less-has_not row e = has_not row (λ d. differ (sym e ∙ tied row d))
    where
      differ : Less ≡ Equal → ⊥
      differ d = cc

  greater-has_not : (row : Row) → key_order row.key key ≡ Greater → has_key key row ≡ false
  greater-has_not row e = has_not row (λ d. differ (sym e ∙ tied row d))
    where
      differ : Greater ≡ Equal → ⊥
      differ d = cc

  abbrev kept : Row → List Row → Bool → List Row
  kept row rows b = cond b (row ∷ filter (has_key key) rows) (filter (has_key key) rows)

  pub below-none : (rows : List Row) → AreBelow key rows → filter (has_key key) rows ≡ []
  below-none [] h = refl
  below-none (row ∷ rows) h = ap (kept row rows) (has_not row (λ d. true≢false (sym h.0 ∙ ap is_lt (tied row d)))) ∙ below-none rows h.1

  greater-chain : (a b : List ℕ) → is_gt (key_order a b) ≡ false → key_order a key ≡ Greater → b ≡ key → ⊥
  greater-chain a b h g e = true≢false (sym (ap is_gt (ap (key_order a) e ∙ g)) ∙ h)

  none-behind : (row : Row) (rows : List Row) → AllByRecursion (λ r. is_gt (key_order row.key r.key) ≡ false) rows → key_order row.key key ≡ Greater
      → filter (has_key key) rows ≡ []
  none-behind row [] h g = refl
  none-behind row (r ∷ rows) h g = ap (kept r rows) (has_not r (greater-chain row.key r.key h.0 g)) ∙ none-behind row rows h.1 g

  pub lesser-none : (rows : List Row) → AreNotBelow key rows → lesser key rows ≡ 0
  lesser-none [] h = refl
  lesser-none (row ∷ rows) h = ap (λ b. cond b (suc (lesser key rows)) (lesser key rows)) h.0 ∙ lesser-none rows h.1

  lesser-less : (row : Row) (rows : List Row) → key_order row.key key ≡ Less → lesser key (row ∷ rows) ≡ suc (lesser key rows)
  lesser-less row rows e = ap (λ b. cond b (suc (lesser key rows)) (lesser key rows)) (ap is_lt e)

  lesser-not : (row : Row) (rows : List Row) (o : Ordering) → key_order row.key key ≡ o → is_lt o ≡ false → lesser key (row ∷ rows) ≡ lesser key rows
  lesser-not row rows o e h = ap (λ b. cond b (suc (lesser key rows)) (lesser key rows)) (ap is_lt e ∙ h)

  -- what walks over the blocks of rows come to
  abbrev Finds : List Row → Type 0
  Finds rows = (more : ℕ) → lesser key rows ≤ more → (found : Option (List Row)) → WalksTo key (map row_bytes rows) more found
      → found ≡ Some (filter (has_key key) rows)

  finds-by : (row : Row) (rows : List Row) → Rise (row ∷ rows) → Finds rows → (found : Option (List Row)) (o : Ordering) → key_order row.key key ≡ o
      → (more : ℕ) → lesser key (row ∷ rows) ≤ more → GoesOn o more row (WalksTo key (map row_bytes rows)) found
      → found ≡ Some (filter (has_key key) (row ∷ rows))
  finds-by row rows rise next found Less e zero le g = absurd (omega (arith, lesser-less row rows e))
  finds-by row rows rise next found Less e (suc more) le g =
      next more (omega (arith, lesser-less row rows e)) found g ∙ ap Some (sym (ap (kept row rows) (less-has_not row e)))
  finds-by row rows rise next found Equal e more le g =
      g.2 ∙ ap (behind_rows (row ∷ [])) (next more (omega (arith, lesser-not row rows Equal e refl)) g.0 g.1)
      ∙ ap Some (sym (ap (kept row rows) ((bytes_decides row.key key).1 (same_key row.key e))))
  finds-by row rows rise next found Greater e more le g =
      g ∙ ap Some (sym (ap (kept row rows) (greater-has_not row e) ∙ none-behind row rows rise.0 e))

  -- no walk over rows in order stops at what is damaged, where few enough are below the key
  pub walks-rows : (rows : List Row) → AreWritten rows → Rise rows → (more : ℕ) → lesser key rows ≤ more
      → (found : Option (List Row)) → WalksTo key (map row_bytes rows) more found → found ≡ Some (filter (has_key key) rows)
  walks-rows [] filed rise more few found h = h
  walks-rows (row ∷ rows) filed rise more few found (inl h) = absurd (h.0 row filed.0)
  walks-rows (row ∷ rows) filed rise more few found (inr h) =
      finds-by row rows rise (λ m le other g. walks-rows rows filed.1 rise.1 m le other g) found (key_order row.key key) refl more few
      (subst (λ (r : Row). GoesOn (key_order r.key key) more r (WalksTo key (map row_bytes rows)) found) (one_row (row_bytes row) h.0 row h.1 filed.0) h.2)

  -- ---- a walk comes to one thing

  one-by : (row : Row) (blocks : List (List ℕ)) → ((m : ℕ) (f g : Option (List Row)) → WalksTo key blocks m f → WalksTo key blocks m g → f ≡ g)
      → (found other : Option (List Row)) (o : Ordering) (more : ℕ) → GoesOn o more row (WalksTo key blocks) found → GoesOn o more row (WalksTo key blocks) other
      → found ≡ other
  one-by row blocks next found other Less zero f g = f ∙ sym g
  one-by row blocks next found other Less (suc more) f g = next more found other f g
  one-by row blocks next found other Equal more f g = f.2 ∙ ap (behind_rows (row ∷ [])) (next more f.0 g.0 f.1 g.1) ∙ sym g.2
  one-by row blocks next found other Greater more f g = f ∙ sym g

  pub walks-one : (blocks : List (List ℕ)) (more : ℕ) (found other : Option (List Row))
      → WalksTo key blocks more found → WalksTo key blocks more other → found ≡ other
  walks-one [] more found other h k = h ∙ sym k
  walks-one (block ∷ blocks) more found other (inl h) (inl k) = h.1 ∙ sym k.1
  walks-one (block ∷ blocks) more found other (inl h) (inr k) = absurd (h.0 k.0 k.1)
  walks-one (block ∷ blocks) more found other (inr h) (inl k) = absurd (k.0 h.0 h.1)
  walks-one (block ∷ blocks) more found other (inr h) (inr k) =
      one-by h.0 blocks (λ m f g x y. walks-one blocks m f g x y) found other (key_order h.0.key key) more h.2
      (subst (λ (r : Row). GoesOn (key_order r.key key) more r (WalksTo key blocks) other) (one_row block k.0 h.0 k.1 h.1) k.2)
