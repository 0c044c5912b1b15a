-- The order of moves in an answer, and whether two moves are one.
use Rattle.std.proofs.Common.{◌≡◌, ℕ, Bool, true, false, not, ◌&&◌, ◌||◌, ◌==◌, nat_lt, Option, None, Some, refl, ap, subst, ◌∙◌, arith}
use Rattle.std.specs.Cmp.{both_ways, tied_itself}
use Rattle.std.specs.Cmp.Lexicographic.{slice_cmp, nat_list_cmp_total}
use Rattle.std.specs.FinMap.{nat_cmp-IsAntisymmetric, slice_cmp-IsAntisymmetric}
use Rattle.std.specs.Ordering.{nat_cmp, is_lt, ordering_reverse}
use Rattle.std.specs.declared.cmp.Ordering.{Ordering}
use Rattle.std.specs.declared.cmp.Ordering.TheVariants.{Less, Equal, Greater}
use Rattle.std.proofs.lemmas.Bool.Decides.{nat_tests}
use Rattle.plain_laws.specs.Orderings.{less-is}
use Rattle.explorer_model.specs.Best.{IsStrictTotalOrder}
use Rattle.best_lists.proofs.Same.{ties, ties-same}
use Rattle.explorer_model.specs.declared.chess.Move.{Move}
use Rattle.explorer_model.specs.declared.chess.Role.{Role}
use Rattle.explorer_model.specs.Counting.{promotion_number, is_same_move}
use Rattle.explorer_model.specs.Uci.{uci_text}
use Rattle.explorer_model.proofs.Squares.{square_eq}
use Rattle.explorer_model.proofs.UciText.{uci_text-names}
use Rattle.tally_rows.proofs.RowOrder.{role_index-same}

-- ---- whether two moves are one

promotion-same : (p q : Option Role) → promotion_number p ≡ promotion_number q → p ≡ q
promotion-same None None e = refl
promotion-same None (Some r) e = absurd (omega arith)
promotion-same (Some r) None e = absurd (omega arith)
promotion-same (Some r) (Some s) e = ap Some (role_index-same r s (omega arith))

pub is_same_move-is : (m n : Move) → is_same_move m n ≡ true → m ≡ n
is_same_move-is m n e =
    let from_index : m.from.index ≡ n.from.index = grind (arith, nat_tests) in
    let to_index : m.to.index ≡ n.to.index = grind (arith, nat_tests) in
    let number : promotion_number m.promotion ≡ promotion_number n.promotion = grind (arith, nat_tests) in
    let from = square_eq m.from n.from from_index in
    let to = square_eq m.to n.to to_index in
    let promotion = promotion-same m.promotion n.promotion number in
    λ i. record { from = from i; to = to i; promotion = promotion i }

pub is_same_move-self : (m : Move) → is_same_move m m ≡ true
is_same_move-self m = grind (arith, nat_tests)

-- ---- an order by a number first

pub number_first : {X : Type 0} {then : X → X → Bool} → IsStrictTotalOrder then → (f : X → ℕ)
    → IsStrictTotalOrder (λ a b. nat_lt (f b) (f a) || ((f a == f b) && then a b))
number_first {X} {then} order f = record {
  irreflexive = λ a. let h = order.irreflexive a in grind (arith, nat_tests);
  transitive = λ a b c p q. let h = order.transitive a b c in grind (arith, nat_tests);
  total = λ a b p q. let h = order.total a b in grind (arith, nat_tests);
}

-- the lesser text of UCI
abbrev pub text_before : Move → Move → Bool
text_before a b = is_lt (slice_cmp nat_cmp (uci_text a) (uci_text b))

pub text_before-order : IsStrictTotalOrder text_before
text_before-order = record {
  irreflexive = λ a. ap is_lt (tied_itself nat_list_cmp_total (uci_text a));
  transitive = λ a b c p q.
      ap is_lt (nat_list_cmp_total.trans (uci_text a) (uci_text b) (uci_text c) (less-is _ p) (less-is _ q));
  total = λ a b p q. same a b (slice_cmp nat_cmp (uci_text a) (uci_text b)) refl p q;
}
  where
    same : (a b : Move) (r : Ordering) → slice_cmp nat_cmp (uci_text a) (uci_text b) ≡ r → is_lt (slice_cmp nat_cmp (uci_text a) (uci_text b)) ≡ false
        → is_lt (slice_cmp nat_cmp (uci_text b) (uci_text a)) ≡ false → a ≡ b
    same a b Less e p q = let less : is_lt (slice_cmp nat_cmp (uci_text a) (uci_text b)) ≡ true = ap is_lt e in cc
    same a b Equal e p q = uci_text-names a b (slice_cmp-IsAntisymmetric nat_cmp-IsAntisymmetric (uci_text a) (uci_text b) e)
    same a b Greater e p q =
        let back : is_lt (slice_cmp nat_cmp (uci_text b) (uci_text a)) ≡ true =
        ap is_lt (nat_list_cmp_total.antisymm (uci_text b) (uci_text a) ∙ ap ordering_reverse e) in
        cc

-- neither of two is before the other just where they are one
pub ties-is : {X : Type 0} {before : X → X → Bool} → IsStrictTotalOrder before → (same : X → X → Bool)
    → ((x y : X) → same x y ≡ true → x ≡ y) → ((x : X) → same x x ≡ true) → (x y : X) → ties before x y ≡ same x y
ties-is {X} {before} order same is self x y =
    both_ways (ties before x y) (same x y)
    (λ e. subst (λ z. same x z ≡ true) (ties-same order x y e) (self x))
    (λ e. subst (λ z. ties before x z ≡ true) (is x y e) (tied x))
  where
    tied : (z : X) → ties before z z ≡ true
    tied z = ap (λ b. not b && not b) (order.irreflexive z)
