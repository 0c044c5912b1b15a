-- How many bytes keys begin with alike, and which of two keys stands first.
use Rattle.std.proofs.Common.{◌≡◌, ◌==◌, ℕ, zero, suc, ◌<◌, ◌≤◌, Bool, true, false, cond, List, [], ◌∷◌, ◌++◌, length, take, drop, get_or, refl, sym, ap, subst, ◌∙◌, true≢false, arith}
use Rattle.std.specs.declared.cmp.Ordering.{Ordering}
use Rattle.std.specs.declared.cmp.Ordering.TheVariants.{Less, Equal, Greater}
use Rattle.std.specs.Ordering.{nat_cmp, is_gt}
use Rattle.std.specs.FinMap.{nat_cmp-IsAntisymmetric}
use Rattle.std.proofs.lemmas.Bool.{eqb-true, eq-eqb}
use Rattle.std.proofs.lemmas.List.{take_all, take-take}
use Rattle.tally_rows.specs.declared.row.Row.{Row}
use Rattle.segment_blocks.specs.declared.mark.Mark.{Mark}
use Rattle.segment_blocks.specs.Encoded.{key_after}
use Rattle.segment_blocks.specs.Prefix.{common_len, TellShared, TellSharedBehind}
use Rattle.segment_blocks.proofs.KeyLemmas.{key_order}
use Rattle.segment_blocks.proofs.KeyOrderLemmas.{first-decides, second-decides}

-- ---- one byte more

unequal : (x y : ℕ) → (x == y) ≡ false → x ≡ y → ⊥
unequal x y e h = true≢false (sym (eq-eqb x y h) ∙ e)

different : (x y : ℕ) → (x ≡ y → ⊥) → (b : Bool) → (x == y) ≡ b → (x == y) ≡ false
different x y h true e = absurd (h (eqb-true x y e))
different x y h false e = e

module _ (x : ℕ) (xs : List ℕ) (y : ℕ) (ys : List ℕ) where
  common-by : common_len (x ∷ xs) (y ∷ ys) ≡ cond (x == y) (suc (common_len xs ys)) 0
  unfolding common_len
  common-by = refl

  common-one : (x == y) ≡ true → common_len (x ∷ xs) (y ∷ ys) ≡ suc (common_len xs ys)
  common-one e = common-by ∙ ap (λ b. cond b (suc (common_len xs ys)) 0) e

  common-none : (x == y) ≡ false → common_len (x ∷ xs) (y ∷ ys) ≡ 0
  common-none e = common-by ∙ ap (λ b. cond b (suc (common_len xs ys)) 0) e

common-nil : (ys : List ℕ) → common_len [] ys ≡ 0
unfolding common_len
common-nil ys = refl

common-behind : (xs : List ℕ) → common_len xs [] ≡ 0
unfolding common_len
common-behind [] = refl
common-behind (x ∷ xs) = refl

-- ---- which bytes are alike

pub common-same : (xs ys : List ℕ) → take (common_len xs ys) xs ≡ take (common_len xs ys) ys
common-same [] ys = ap (λ n. take n []) (common-nil ys) ∙ sym (ap (λ n. take n ys) (common-nil ys))
common-same (x ∷ xs) [] = ap (λ n. take n (x ∷ xs)) (common-behind (x ∷ xs)) ∙ sym (ap (λ n. take n []) (common-behind (x ∷ xs)))
common-same (x ∷ xs) (y ∷ ys) = by (x == y) refl (common-same xs ys)
  where
    by : (b : Bool) → (x == y) ≡ b → take (common_len xs ys) xs ≡ take (common_len xs ys) ys
        → take (common_len (x ∷ xs) (y ∷ ys)) (x ∷ xs) ≡ take (common_len (x ∷ xs) (y ∷ ys)) (y ∷ ys)
    by true e more =
        ap (λ n. take n (x ∷ xs)) (common-one x xs y ys e) ∙ (λ i. eqb-true x y e i ∷ more i) ∙ sym (ap (λ n. take n (y ∷ ys)) (common-one x xs y ys e))
    by false e more = ap (λ n. take n (x ∷ xs)) (common-none x xs y ys e) ∙ sym (ap (λ n. take n (y ∷ ys)) (common-none x xs y ys e))

-- so many bytes are alike and the next one is not
pub common-is : (n : ℕ) (xs ys : List ℕ) → n < length xs → n < length ys → take n xs ≡ take n ys → (get_or xs n 0 ≡ get_or ys n 0 → ⊥)
    → common_len xs ys ≡ n
common-is n [] ys in_xs in_ys same other = absurd (omega (arith, in_xs))
common-is n (x ∷ xs) [] in_xs in_ys same other = absurd (omega (arith, in_ys))
common-is zero (x ∷ xs) (y ∷ ys) in_xs in_ys same other = common-none x xs y ys (different x y other (x == y) refl)
common-is (suc n) (x ∷ xs) (y ∷ ys) in_xs in_ys same other =
    common-one x xs y ys (eq-eqb x y (ap (λ l. get_or l 0 0) same))
    ∙ ap suc (common-is n xs ys (omega (arith, in_xs)) (omega (arith, in_ys)) (ap (drop 1) same) other)

pub common-itself : (xs : List ℕ) → common_len xs xs ≡ length xs
common-itself [] = common-nil []
common-itself (x ∷ xs) = common-one x xs x xs (eq-eqb x x refl) ∙ ap suc (common-itself xs)

-- all bytes are alike
pub common-all : (n : ℕ) (xs ys : List ℕ) → length xs ≡ n → length ys ≡ n → take n xs ≡ take n ys → common_len xs ys ≡ n
common-all n xs ys long wide same =
    let whole : xs ≡ ys = sym (take_all n xs (omega (arith, long))) ∙ same ∙ take_all n ys (omega (arith, wide)) in
    ap (λ l. common_len l ys) whole ∙ common-itself ys ∙ wide

-- fewer bytes are alike too
pub fewer-same : (m n : ℕ) (xs ys : List ℕ) → m ≤ n → take n xs ≡ take n ys → take m xs ≡ take m ys
fewer-same m n xs ys few same = sym (take-take m n xs few) ∙ ap (take m) same ∙ take-take m n ys few

pub common-within : (xs ys : List ℕ) → common_len xs ys ≤ length ys
common-within [] ys = omega (arith, common-nil ys)
common-within (x ∷ xs) [] = omega (arith, common-behind (x ∷ xs))
common-within (x ∷ xs) (y ∷ ys) = by (x == y) refl (common-within xs ys)
  where
    by : (b : Bool) → (x == y) ≡ b → common_len xs ys ≤ length ys → common_len (x ∷ xs) (y ∷ ys) ≤ length (y ∷ ys)
    by true e more = omega (arith, more, common-one x xs y ys e)
    by false e more = omega (arith, common-none x xs y ys e)

-- two keys that have as many bytes in common with a third one begin alike in these
pub common-both : (n : ℕ) (last xs ys : List ℕ) → n ≡ common_len last xs → n ≡ common_len last ys → take n xs ≡ take n ys
common-both n last xs ys e f =
    sym (subst (λ m. take m last ≡ take m xs) (sym e) (common-same last xs)) ∙ subst (λ m. take m last ≡ take m ys) (sym f) (common-same last ys)

pub common-whole : (xs ys : List ℕ) → length xs ≡ 34 → length ys ≡ 34 → common_len xs ys ≡ 34 → xs ≡ ys
common-whole xs ys long wide e =
    sym (take_all 34 xs (omega (arith, long))) ∙ subst (λ n. take n xs ≡ take n ys) e (common-same xs ys) ∙ take_all 34 ys (omega (arith, wide))

-- the first bytes that are not alike tell the order
pub common-decides : (n : ℕ) (xs ys : List ℕ) → n < length xs → n < length ys → common_len xs ys ≡ n → key_order xs ys ≡ nat_cmp (get_or xs n 0) (get_or ys n 0)
common-decides n [] ys in_xs in_ys e = absurd (omega (arith, in_xs))
common-decides n (x ∷ xs) [] in_xs in_ys e = absurd (omega (arith, in_ys))
common-decides zero (x ∷ xs) (y ∷ ys) in_xs in_ys e = first-decides x y (key_order xs ys) (λ d. absurd (omega (arith, e, common-one x xs y ys (eq-eqb x y d))))
common-decides (suc n) (x ∷ xs) (y ∷ ys) in_xs in_ys e =
    by (x == y) refl (common-decides n xs ys (omega (arith, in_xs)) (omega (arith, in_ys)))
  where
    by : (b : Bool) → (x == y) ≡ b → (common_len xs ys ≡ n → key_order xs ys ≡ nat_cmp (get_or xs n 0) (get_or ys n 0))
        → key_order (x ∷ xs) (y ∷ ys) ≡ nat_cmp (get_or xs n 0) (get_or ys n 0)
    by true d next = second-decides x y (key_order xs ys) (eqb-true x y d) ∙ next (omega (arith, e, common-one x xs y ys d))
    by false d next = absurd (omega (arith, e, common-none x xs y ys d))

-- ---- two keys behind a third one

module _ (k : ℕ) (ks : List ℕ) (x : ℕ) (xs : List ℕ) where
  -- a key that has some bytes in common begins as the other does
  some-first : 0 < common_len (k ∷ ks) (x ∷ xs) → (b : Bool) → (k == x) ≡ b → (k == x) ≡ true
  some-first h true e = e
  some-first h false e = absurd (omega (arith, h, common-none k ks x xs e))

-- of keys that are not below another one, the one that has more bytes in common with it stands first
pub longer-first : (last a b : List ℕ) → common_len last b < common_len last a → is_gt (key_order last b) ≡ false → key_order a b ≡ Less
longer-first [] a b h low = absurd (omega (arith, h, common-nil a))
longer-first (k ∷ ks) [] b h low = absurd (omega (arith, h, common-behind (k ∷ ks)))
longer-first (k ∷ ks) (x ∷ xs) [] h low = absurd (true≢false low)
longer-first (k ∷ ks) (x ∷ xs) (y ∷ ys) h low = by (k == y) refl (longer-first ks xs ys)
  where
    first : k ≡ x
    first = eqb-true k x (some-first k ks x xs (omega (arith, h)) (k == x) refl)

    more : common_len (k ∷ ks) (x ∷ xs) ≡ suc (common_len ks xs)
    more = common-one k ks x xs (eq-eqb k x first)

    less : (o : Ordering) → nat_cmp k y ≡ o → (k ≡ y → ⊥) → is_gt (nat_cmp k y) ≡ false → nat_cmp k y ≡ Less
    less Less e other not_gt = e
    less Equal e other not_gt = absurd (other (nat_cmp-IsAntisymmetric k y e))
    less Greater e other not_gt = absurd (true≢false (sym (ap is_gt e) ∙ not_gt))

    by : (b : Bool) → (k == y) ≡ b → (common_len ks ys < common_len ks xs → is_gt (key_order ks ys) ≡ false → key_order xs ys ≡ Less)
        → key_order (x ∷ xs) (y ∷ ys) ≡ Less
    by true e next =
        let same : k ≡ y = eqb-true k y e in
        second-decides x y (key_order xs ys) (sym first ∙ same)
        ∙ next (omega (arith, h, more, common-one k ks y ys e)) (ap is_gt (sym (second-decides k y (key_order ks ys) same)) ∙ low)
    by false e next =
        let other = unequal k y e in
        let below : nat_cmp k y ≡ Less = less (nat_cmp k y) refl other (ap is_gt (sym (first-decides k y (key_order ks ys) other)) ∙ low) in
        first-decides x y (key_order xs ys) (λ d. other (first ∙ d)) ∙ ap (λ n. nat_cmp n y) (sym first) ∙ below

-- and the other one has as many in common with it as with that key
pub shorter-stays : (last a b : List ℕ) → common_len last b < common_len last a → common_len a b ≡ common_len last b
shorter-stays [] a b h = absurd (omega (arith, h, common-nil a))
shorter-stays (k ∷ ks) [] b h = absurd (omega (arith, h, common-behind (k ∷ ks)))
shorter-stays (k ∷ ks) (x ∷ xs) [] h = common-behind (x ∷ xs) ∙ sym (common-behind (k ∷ ks))
shorter-stays (k ∷ ks) (x ∷ xs) (y ∷ ys) h = by (k == y) refl (shorter-stays ks xs ys)
  where
    first : k ≡ x
    first = eqb-true k x (some-first k ks x xs (omega (arith, h)) (k == x) refl)

    more : common_len (k ∷ ks) (x ∷ xs) ≡ suc (common_len ks xs)
    more = common-one k ks x xs (eq-eqb k x first)

    by : (b : Bool) → (k == y) ≡ b → (common_len ks ys < common_len ks xs → common_len xs ys ≡ common_len ks ys)
        → common_len (x ∷ xs) (y ∷ ys) ≡ common_len (k ∷ ks) (y ∷ ys)
    by true e next =
        common-one x xs y ys (eq-eqb x y (sym first ∙ eqb-true k y e)) ∙ ap suc (next (omega (arith, h, more, common-one k ks y ys e)))
        ∙ sym (common-one k ks y ys e)
    by false e next = common-none x xs y ys (different x y (λ d. unequal k y e (first ∙ d)) (x == y) refl) ∙ sym (common-none k ks y ys e)

pub common-turned : (xs ys : List ℕ) → common_len xs ys ≡ common_len ys xs
common-turned [] ys = common-nil ys ∙ sym (common-behind ys)
common-turned (x ∷ xs) [] = common-behind (x ∷ xs) ∙ sym (common-nil (x ∷ xs))
common-turned (x ∷ xs) (y ∷ ys) = by (x == y) refl (common-turned xs ys)
  where
    by : (b : Bool) → (x == y) ≡ b → common_len xs ys ≡ common_len ys xs → common_len (x ∷ xs) (y ∷ ys) ≡ common_len (y ∷ ys) (x ∷ xs)
    by true e next = common-one x xs y ys e ∙ ap suc next ∙ sym (common-one y ys x xs (eq-eqb y x (sym (eqb-true x y e))))
    by false e next = common-none x xs y ys e ∙ sym (common-none y ys x xs (different y x (λ d. unequal x y e (sym d)) (y == x) refl))

-- ---- marks

pub TellShared-push : (before : List ℕ) (marks : List Mark) (rows : List Row) (mark : Mark) (row : Row) → TellShared before marks rows
    → mark.shared ≡ common_len (key_after before rows) row.key → TellShared before (marks ++ mark ∷ []) (rows ++ row ∷ [])
unfolding key_after
TellShared-push before [] [] mark row h e = (e, tt)
TellShared-push before [] (r ∷ rows) mark row h e = absurd h
TellShared-push before (m ∷ marks) [] mark row h e = absurd h
TellShared-push before (m ∷ marks) (r ∷ rows) mark row h e = (h.0, TellShared-push r.key marks rows mark row h.1 e)

-- what the marks behind the first one tell
pub TellShared-behind : (before : List ℕ) (marks : List Mark) (rows : List Row) → TellShared before marks rows → TellSharedBehind marks rows
TellShared-behind before [] rows h = tt
TellShared-behind before (m ∷ marks) [] h = h
TellShared-behind before (m ∷ marks) (r ∷ rows) h = h.1
