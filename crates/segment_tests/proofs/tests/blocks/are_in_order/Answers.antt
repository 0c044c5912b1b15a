use Rattle.std.proofs.Common.{◌≡◌, ℕ, zero, suc, ◌+◌, ◌-◌, ◌<◌, false, List, [], ◌∷◌, map, take, length, get_or, refl, sym, ap, subst, ◌∙◌, true≢false, arith}
use Rattle.std.proofs.lemmas.List.{get_or_default}
use Rattle.std.specs.List.{AllByRecursion}
use Rattle.std.specs.List.Sorted.{IsStrictlySortedBy}
use Rattle.std.specs.declared.cmp.Ordering.{Ordering}
use Rattle.std.specs.declared.cmp.Ordering.TheVariants.{Less, Equal, Greater}
use Rattle.std.specs.Ordering.{is_ge}
use Rattle.tally_rows.specs.declared.row.Row.{Row}
use Rattle.tally_rows.specs.declared.row_key.RowKey.{RowKey}
use Rattle.tally_rows.specs.RowKey.{row_order, row_order-total}
use Rattle.tally_rows.specs.Row.{row_key_of}
use Rattle.segment_blocks.specs.PackedRows.{AreInOrder}
use Rattle.segment_tests.proofs.tests.blocks.are_in_order.Goals as goal

-- rows in order up to a place, and the next one behind them
module _ (k : RowKey) where
  all-next : (rows : List Row) (n : ℕ) (d : Row) → suc n < length rows
      → AllByRecursion (λ p. row_order k p ≡ Less) (map row_key_of (take (suc n) rows))
      → row_order (row_key_of (get_or rows n d)) (row_key_of (get_or rows (suc n) d)) ≡ Less
      → AllByRecursion (λ p. row_order k p ≡ Less) (map row_key_of (take (suc (suc n)) rows))
  all-next [] n d inside h less = absurd (omega arith)
  all-next (r ∷ []) n d inside h less = absurd (omega arith)
  all-next (r ∷ s ∷ rows) zero d inside h less =
      (h.0, (row_order-total.trans k (row_key_of r) (row_key_of s) h.0 less, tt))
  all-next (r ∷ s ∷ rows) (suc n) d inside h less = (h.0, all-next (s ∷ rows) n d (omega arith) h.1 less)

in_order-next : (rows : List Row) (n : ℕ) (d : Row) → suc n < length rows → AreInOrder (take (suc n) rows)
    → row_order (row_key_of (get_or rows n d)) (row_key_of (get_or rows (suc n) d)) ≡ Less
    → AreInOrder (take (suc (suc n)) rows)
unfolding IsStrictlySortedBy
in_order-next [] n d inside h less = absurd (omega arith)
in_order-next (r ∷ []) n d inside h less = absurd (omega arith)
in_order-next (r ∷ s ∷ rows) zero d inside h less = ((less, tt), (tt, tt))
in_order-next (r ∷ s ∷ rows) (suc n) d inside h less =
    (all-next (row_key_of r) (s ∷ rows) n d (omega arith) h.0 less, in_order-next (s ∷ rows) n d (omega arith) h.1 less)

in_order-one : (rows : List Row) → AreInOrder (take 1 rows)
unfolding IsStrictlySortedBy
in_order-one [] = tt
in_order-one (r ∷ rows) = (tt, tt)

less-is : (o : Ordering) → is_ge o ≡ false → o ≡ Less
less-is Less e = refl
less-is Equal e = absurd (true≢false e)
less-is Greater e = absurd (true≢false e)

pub loop-at-init : goal.loop-at-init
loop-at-init c = in_order-one c.args.rows.now

pub loop-at-preserved : goal.loop-at-preserved
unfolding row_order
loop-at-preserved c =
    let rows = c.args.rows.now in
    let at = c.loop-at.at in
    let n = at - 1 in
    let next : suc n ≡ at = omega (arith, c.loop-at.auto.at) in
    let first = c.index-rows-at.result in
    let second = c.index-rows-at-in-loop-at.result in
    let inside : suc n < length rows = omega (arith, next, c.loop-at-test.true) in
    let order = c.cmp.ensures in
    let less : c.cmp.result ≡ Less = less-is c.cmp.result (sym c.is_ge.ensures ∙ c.if-is_ge.false) in
    let keys : row_order (row_key_of first) (row_key_of second) ≡ Less =
    (λ i. row_order (sym c.row_key.ensures i) (sym c.row_key-in-loop-at.ensures i)) ∙ sym order ∙ less in
    let here : first ≡ get_or rows n first = c.index-rows-at.is in
    let there : second ≡ get_or rows (suc n) first =
    c.index-rows-at-in-loop-at.is ∙ ap (λ k. get_or rows k second) (sym next) ∙ sym (get_or_default rows (suc n) first second inside) in
    let moved : row_order (row_key_of (get_or rows n first)) (row_key_of (get_or rows (suc n) first)) ≡ Less =
    (λ i. row_order (row_key_of (sym here i)) (row_key_of (sym there i))) ∙ keys in
    let last : suc (suc n) ≡ at + 1 = omega (arith, next) in
    subst (λ k. AreInOrder (take k rows)) last
    (in_order-next rows n first inside (subst (λ k. AreInOrder (take k rows)) (sym next) c.loop-at.invariant) moved)
