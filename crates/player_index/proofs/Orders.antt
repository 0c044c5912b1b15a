-- The orders of seats, places and entries.
use Rattle.std.proofs.Common.{◌≡◌, ℕ, true, false, List, refl, sym, ap, ◌∙◌, true≢false, arith}
use Rattle.std.specs.declared.cmp.Ordering.{Ordering}
use Rattle.std.specs.declared.cmp.Ordering.TheVariants.{Less, Equal, Greater}
use Rattle.std.specs.Cmp.{IsStrictWeakOrder, IsTotalOrder, then_total, on_total, nat_cmp_total, tied_itself}
use Rattle.std.specs.Cmp.Lexicographic.{nat_list_cmp_total}
use Rattle.std.specs.FinMap.{nat_cmp-IsAntisymmetric}
use Rattle.std.specs.Ordering.{nat_cmp, ordering_then, ordering_reverse, is_lt, is_eq}
use Rattle.plain_laws.specs.Orderings.{less-is}
use Rattle.best_lists.proofs.Ranked.{before-asym, not_before-trans}
use Rattle.explorer_model.specs.Best.{IsStrictTotalOrder}
use Rattle.explorer_model.specs.declared.archive.Classes.{Classes}
use Rattle.explorer_model.specs.declared.chess.Color.{Color}
use Rattle.explorer_model.specs.declared.chess.Color.TheVariants.{White, Black}
use Rattle.player_index.specs.Entries.{seat_order, place_order, place_of, seat_of, before, color_index}

pub seat-total : IsTotalOrder seat_order
seat-total = then_total (on_total (λ (s : List ℕ × ℕ). s.0) nat_list_cmp_total) (on_total (λ (s : List ℕ × ℕ). s.1) nat_cmp_total)

pub place-total : IsTotalOrder place_order
place-total = then_total (on_total (λ (p : (List ℕ × ℕ) × ℕ). p.0) seat-total) (on_total (λ (p : (List ℕ × ℕ) × ℕ). p.1) nat_cmp_total)

-- ---- answers of orders

-- neither is before the other
pub is-tie : {K : Type 0} {R : K → K → Ordering} → IsTotalOrder R → (x y : K) → is_lt (R x y) ≡ false → is_lt (R y x) ≡ false → R x y ≡ Equal
is-tie {K} {R} total x y h k = by (R x y) (R y x) h k (total.antisymm x y)
  where
    by : (o p : Ordering) → is_lt o ≡ false → is_lt p ≡ false → o ≡ ordering_reverse p → o ≡ Equal
    by Less p h k e = absurd (true≢false h)
    by Equal p h k e = refl
    by Greater Less h k e = absurd (true≢false k)
    by Greater Equal h k e = e
    by Greater Greater h k e = absurd (true≢false (ap is_lt (sym e)))

pub both-equal : (o p : Ordering) → ordering_then o p ≡ Equal → (o ≡ Equal) × (p ≡ Equal)
both-equal Less p e = absurd (true≢false (ap is_lt e))
both-equal Equal p e = (refl, e)
both-equal Greater p e = absurd (true≢false (sym (ap is_eq e)))

-- what isn't after the first of two stands before what the second stands before
module _ {K : Type 0} {R : K → K → Ordering} (total : IsTotalOrder R) where
  pub below-chain : (x y z : K) → is_lt (R y x) ≡ false → is_lt (R y z) ≡ true → is_lt (R x z) ≡ true
  below-chain x y z h k = by (R x y) refl
    where
      by : (o : Ordering) → R x y ≡ o → is_lt (R x z) ≡ true
      by Less e = ap is_lt (total.trans x y z e (less-is (R y z) k))
      by Equal e = ap is_lt (total.congr x y z e) ∙ k
      by Greater e = absurd (true≢false (sym (ap is_lt (total.antisymm y x ∙ ap ordering_reverse e)) ∙ h))

-- ---- entries

pub color-one : (a b : Color) → color_index a ≡ color_index b → a ≡ b
color-one White White e = refl
color-one Black Black e = refl
color-one White Black e = absurd (let h : 0 ≡ 1 = e in omega arith)
color-one Black White e = absurd (let h : 1 ≡ 0 = e in omega arith)

pub entry-order : (classes : List Classes) → IsStrictTotalOrder (before classes)
entry-order classes = record {
  irreflexive = λ e. ap is_lt (tied_itself place-total (place_of classes e));
  transitive = λ a b c h k. ap is_lt (place-total.trans (place_of classes a) (place_of classes b) (place_of classes c) (less-is _ h) (less-is _ k));
  total = λ a b h k.
      let tie : place_order (place_of classes a) (place_of classes b) ≡ Equal = is-tie place-total (place_of classes a) (place_of classes b) h k in
      let parts = both-equal (seat_order (seat_of classes a) (seat_of classes b)) (nat_cmp a.number b.number) tie in
      let colors = both-equal _ (nat_cmp (color_index a.color) (color_index b.color)) parts.0 in
      let number : a.number ≡ b.number = nat_cmp-IsAntisymmetric a.number b.number parts.1 in
      let color : a.color ≡ b.color = color-one a.color b.color (nat_cmp-IsAntisymmetric (color_index a.color) (color_index b.color) colors.1) in
      λ i. record { number = number i; color = color i };
}

pub entry-weak : (classes : List Classes) → IsStrictWeakOrder (before classes)
entry-weak classes = record {
  one_way = λ a b p. before-asym (entry-order classes) a b p;
  chain = λ a b c p q. not_before-trans (entry-order classes) c b a q p;
}
