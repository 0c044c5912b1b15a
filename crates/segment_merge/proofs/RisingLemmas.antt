-- Keys of which none is less than the one before it.
use Rattle.std.proofs.Common.{◌≡◌, ℕ, true, false, List, [], ◌∷◌, ◌++◌, refl, sym, ap, ◌∙◌, true≢false}
use Rattle.std.specs.declared.cmp.Ordering.{Ordering}
use Rattle.std.specs.declared.cmp.Ordering.TheVariants.{Less, Equal, Greater}
use Rattle.std.specs.Ordering.{ordering_reverse, is_gt}
use Rattle.std.specs.Cmp.{tied_itself, upto}
use Rattle.std.specs.Cmp.Lexicographic.{nat_list_cmp_total}
use Rattle.segment_blocks.proofs.KeyLemmas.{key_order}
use Rattle.segment_merge.specs.Ranges.{AreRising}

NotLess : List ℕ → List ℕ → Type 0
NotLess a b = is_gt (key_order a b) ≡ false

le-le : (a b c : List ℕ) → is_gt (key_order a b) ≡ false → is_gt (key_order b c) ≡ false → is_gt (key_order a c) ≡ false
le-le a b c h k = upto nat_list_cmp_total a b c h k

pub not_less-self : (a : List ℕ) → is_gt (key_order a a) ≡ false
not_less-self a = ap is_gt (tied_itself nat_list_cmp_total a)

pub greater-not_less : (a b : List ℕ) → is_gt (key_order b a) ≡ true → is_gt (key_order a b) ≡ false
greater-not_less a b = by (key_order b a) refl
  where
    by : (o : Ordering) → key_order b a ≡ o → is_gt o ≡ true → is_gt (key_order a b) ≡ false
    by Less e h = absurd (true≢false (sym h))
    by Equal e h = absurd (true≢false (sym h))
    by Greater e h = ap is_gt (nat_list_cmp_total.antisymm a b ∙ ap ordering_reverse e)

-- the last key may be put behind itself, or behind a greater one
pub rising-more : (keys : List (List ℕ)) (a b : List ℕ) → AreRising (keys ++ a ∷ []) → is_gt (key_order a b) ≡ false
    → AreRising ((keys ++ b ∷ []) ++ b ∷ [])
rising-more [] a b h le = (not_less-self b, tt)
rising-more (k ∷ []) a b h le = (le-le k a b h.0 le, (not_less-self b, tt))
rising-more (k ∷ j ∷ keys) a b h le = (h.0, rising-more (j ∷ keys) a b h.1 le)

pub rising-front : (keys : List (List ℕ)) (a : List ℕ) → AreRising (keys ++ a ∷ []) → AreRising keys
rising-front [] a h = tt
rising-front (k ∷ []) a h = tt
rising-front (k ∷ j ∷ keys) a h = (h.0, rising-front (j ∷ keys) a h.1)
