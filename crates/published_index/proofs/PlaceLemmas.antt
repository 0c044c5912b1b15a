-- Each step keeps the rule over places.
use Rattle.std.proofs.Common.{◌≡◌, ◌≢◌, ◌⊎◌, ℕ, zero, suc, ◌+◌, ◌-◌, ◌<◌, ◌≤◌, List, [], ◌∷◌, ◌++◌, set, true, false, refl, sym, ap, ◌∙◌, subst, ⊎_elim, arith}
use Rattle.std.proofs.lemmas.Bool.{both_ways}
use mathlib.Core.Option.{some, some-ne-none, some-injective}
use lib.ListN.{get_elem?}
use Rattle.crossbeam_utils.specs.Register.{Turns, Forks, Merges}
use Rattle.atomic_table.proofs.Lists.{at_set, at_snoc, set_again}
use Rattle.published_index.specs.declared.views.View.{View}
use Rattle.published_index.specs.Views.{all_of, Draws, drew, first_keeper, Given, handed_of, holder, Learns, less_one, nobody, parts_of, rest_of, total, where_some, with_all, with_draw}
use Rattle.published_index.specs.Places.{hit, once_below, times}

-- ---- sums

total-set : (f : View → ℕ) (views : List View) (i : ℕ) (v w : View) → get_elem? views i ≡ some v
    → total f (set views i w) + f v ≡ total f views + f w
total-set f [] i v w at = absurd (some-ne-none v (sym at))
total-set f (u ∷ us) zero v w at =
    let same : f u ≡ f v = ap f (some-injective u v at) in omega arith
total-set f (u ∷ us) (suc i) v w at = let rest = total-set f us i v w at in omega arith

total-snoc : (f : View → ℕ) (views : List View) (v : View) → total f (views ++ v ∷ []) ≡ total f views + f v
total-snoc f [] v = omega arith
total-snoc f (u ∷ us) v = let rest = total-snoc f us v in omega arith

total-least : (views : List View) (i : ℕ) (v : View) → get_elem? views i ≡ some v → v.parts ≤ total parts_of views
total-least [] i v at = absurd (some-ne-none v (sym at))
total-least (u ∷ us) zero v at =
    let same : u.parts ≡ v.parts = ap parts_of (some-injective u v at) in omega arith
total-least (u ∷ us) (suc i) v at = let rest = total-least us i v at in omega arith

where-none : (p n : ℕ) → p ≡ 0 → where_some p n ≡ 0
where-none zero n e = refl
where-none (suc p) n e = absurd (omega arith)

where-some : (p n : ℕ) → 0 < p → where_some p n ≡ n
where-some zero n e = absurd (omega arith)
where-some (suc p) n e = refl

total-none : (x : ℕ) (views : List View) → total parts_of views ≡ 0 → total (drew x) views ≡ 0
total-none x [] e = refl
total-none x (u ∷ us) e =
    let rest = total-none x us (omega arith) in
    let here = where-none u.parts (times x u.drawn) (omega arith) in
    omega arith

-- whoever has each part has drawn all
total-whole : (x : ℕ) (views : List View) (i : ℕ) (v : View) → get_elem? views i ≡ some v
    → total parts_of views ≡ v.parts → total (drew x) views ≡ drew x v
total-whole x [] i v at e = absurd (some-ne-none v (sym at))
total-whole x (u ∷ us) zero v at e =
    let parts : u.parts ≡ v.parts = ap parts_of (some-injective u v at) in
    let same : drew x u ≡ drew x v = ap (drew x) (some-injective u v at) in
    let rest = total-none x us (omega arith) in
    omega arith
total-whole x (u ∷ us) (suc i) v at e =
    let least = total-least us i v at in
    let rest = total-whole x us i v at (omega arith) in
    let here = where-none u.parts (times x u.drawn) (omega arith) in
    omega arith

-- ---- places

pub times-append : (x : ℕ) (ys zs : List ℕ) → times x (ys ++ zs) ≡ times x ys + times x zs
times-append x [] zs = omega arith
times-append x (y ∷ ys) zs = let rest = times-append x ys zs in omega arith

-- ---- steps

pub begins : (words : List ℕ) → Given words (first_keeper ∷ [])
begins words = record {
  seat = 0;
  count = 0;
  one_keeper = one;
  parts = refl;
  drawn = λ x. refl;
}
  where
    one : (by : ℕ) (v : View) → get_elem? (first_keeper ∷ []) by ≡ some v → v.keeps ≡ true → (by ≡ 0) × (v.count ≡ 0)
    one zero v e key = (refl, sym (ap (λ (q : View). q.count) (some-injective first_keeper v e)))
    one (suc by) v e key = absurd (some-ne-none v (sym e))

pub draws : (by : ℕ) (v : View) → v.keeps ≡ true → 0 < v.parts → Turns Given by v (λ x. x) Draws
draws by v keeps some_part words views h at =
    let mine = h.one_keeper by v at keeps in
    let w = with_draw v in (
      w,
      record {
        seat = h.seat;
        count = suc h.count;
        one_keeper = λ j u e key. ⊎_elim
            (λ (t : (j ≡ by) × (w ≡ u)). (t.0 ∙ mine.0, sym (ap (λ (q : View). q.count) t.1) ∙ ap suc mine.1))
            (λ (t : (j ≢ by) × (get_elem? views j ≡ some u)). absurd (t.0 ((h.one_keeper j u t.1 key).0 ∙ sym mine.0)))
            (at_set views by j w u e);
        parts = let s = total-set parts_of views by v w at in let p = h.parts in omega arith;
        drawn = λ x.
            let s = total-set (drew x) views by v w at in
            let p = h.drawn x in
            let one = where-some v.parts (times x v.drawn) some_part in
            let more = where-some v.parts (times x (v.drawn ++ v.count ∷ [])) some_part in
            let sum = times-append x v.drawn (v.count ∷ []) in
            let here : hit x v.count ≡ hit x h.count = ap (hit x) mine.1 in
            omega arith;
      },
      refl,
    )

pub learns : (by : ℕ) (v : View) → v.keeps ≡ true → 0 < v.parts → Turns Given by v (λ x. x) Learns
learns by v keeps some_part words views h at =
    let mine = h.one_keeper by v at keeps in (
      v,
      subst (Given words) (sym (set_again views by v at)) h,
      (
        refl,
        λ whole x.
            let all = total-whole x views by v at (h.parts ∙ sym whole) in
            let one = where-some v.parts (times x v.drawn) some_part in
            sym one ∙ sym all ∙ h.drawn x ∙ sym (ap (once_below x) mine.1),
      ),
    )

pub forks : (by : ℕ) (v l r : View) → r.keeps ≡ false → (l.keeps ≡ true → (v.keeps ≡ true) × (l.count ≡ v.count))
    → l.parts + r.parts ≡ v.parts → ((x : ℕ) → drew x l + drew x r ≡ drew x v) → Forks Given by v l r
forks by v l r no_key kept parts drawn words views h at = record {
  seat = h.seat;
  count = h.count;
  one_keeper = λ j u e key. ⊎_elim
      (λ was. ⊎_elim
      (λ (t : (j ≡ by) × (l ≡ u)).
      let is = kept (ap (λ (q : View). q.keeps) t.1 ∙ key) in
      let mine = h.one_keeper by v at is.0 in
      (t.0 ∙ mine.0, sym (ap (λ (q : View). q.count) t.1) ∙ is.1 ∙ mine.1))
      (λ (t : (j ≢ by) × (get_elem? views j ≡ some u)). h.one_keeper j u t.1 key)
      (at_set views by j l u was))
      (λ (same : r ≡ u). absurd (both_ways r.keeps no_key (ap (λ (q : View). q.keeps) same ∙ key)))
      (at_snoc (set views by l) r u j e);
  parts = let s = total-set parts_of views by v l at in let t = total-snoc parts_of (set views by l) r in
      let p = h.parts in omega arith;
  drawn = λ x. let s = total-set (drew x) views by v l at in let t = total-snoc (drew x) (set views by l) r in
      let p = h.drawn x in let d = drawn x in omega arith;
}

pub merges : (by : ℕ) (v : View) (other : ℕ) (u : View) → 0 < v.parts → 0 < u.parts
    → Merges Given by v other u (with_all v u) nobody
merges by v other u some_part some_other words views h at apart there =
    let w = with_all v u in record {
      seat = h.seat;
      count = h.count;
      one_keeper = λ j q e key. ⊎_elim
          (λ (t : (j ≡ other) × (nobody ≡ q)). absurd (both_ways nobody.keeps refl (ap (λ (y : View). y.keeps) t.1 ∙ key)))
          (λ (t : (j ≢ other) × (get_elem? (set views by w) j ≡ some q)). ⊎_elim
          (λ (z : (j ≡ by) × (w ≡ q)).
          let mine = h.one_keeper by v at (ap (λ (y : View). y.keeps) z.1 ∙ key) in
          (z.0 ∙ mine.0, sym (ap (λ (y : View). y.count) z.1) ∙ mine.1))
          (λ (z : (j ≢ by) × (get_elem? views j ≡ some q)). h.one_keeper j q z.1 key)
          (at_set views by j w q t.1))
          (at_set (set views by w) other j nobody q e);
      parts = let s = total-set parts_of views by v w at in
          let t = total-set parts_of (set views by w) other u nobody there in
          let p = h.parts in omega arith;
      drawn = λ x.
          let s = total-set (drew x) views by v w at in
          let t = total-set (drew x) (set views by w) other u nobody there in
          let p = h.drawn x in
          let one = where-some v.parts (times x v.drawn) some_part in
          let two = where-some u.parts (times x u.drawn) some_other in
          let both = where-some (v.parts + u.parts) (times x (v.drawn ++ u.drawn)) (omega arith) in
          let sum = times-append x v.drawn u.drawn in
          omega arith;
    }

-- ---- the steps of hands

-- all but one part of the keeper's
pub backs : (by : ℕ) (v : View) → 1 < v.parts → Forks Given by v (rest_of v) (handed_of v)
backs by v some_parts = forks by v (rest_of v) (handed_of v) refl (λ key. (key, refl)) (omega arith) (λ x.
    let one = where-some v.parts (times x v.drawn) (omega arith) in
    let left = where-some (v.parts - 1) (times x v.drawn) (omega arith) in
    omega arith)

-- all that a hand has
pub wholes : (by : ℕ) (v : View) → v.keeps ≡ false → Forks Given by v nobody (all_of v)
wholes by v no_key = forks by v nobody (all_of v) refl (λ key. absurd (both_ways nobody.keeps refl key)) (omega arith) (λ x. omega arith)

-- one part of a hand
pub ones : (by : ℕ) (v : View) → v.keeps ≡ false → 1 < v.parts → Forks Given by v (less_one v) (holder 1 [])
ones by v no_key some_parts =
    forks by v (less_one v) (holder 1 []) refl (λ key. absurd (both_ways (less_one v).keeps refl key)) (omega arith) (λ x.
    let one = where-some v.parts (times x v.drawn) (omega arith) in
    let left = where-some (v.parts - 1) (times x v.drawn) (omega arith) in
    omega arith)

-- whoever has drawn the first n places once draws the next
pub draws-next : (x n : ℕ) (drawn : List ℕ) → times x drawn ≡ once_below x n → times x (drawn ++ n ∷ []) ≡ once_below x (suc n)
draws-next x n drawn so-far = let sum = times-append x drawn (n ∷ []) in omega arith
