-- Keys that are compared byte by byte.
use Rattle.std.proofs.Common.{◌≡◌, ◌∙◌, refl, sym, ap, arith, eq-eqb, ℕ, zero, suc, ◌+◌, ◌<◌, ◌&&◌, Bool, true, false, List, [], ◌∷◌, bytes_eq, length, take, get_or}
use Rattle.std.proofs.lemmas.Bool.Decides.{nat_tests}
use Rattle.std.specs.Prelude.{nat_eq}

and-true : (a : Bool) → a && true ≡ a
and-true true = refl
and-true false = refl

equal-suc : (one other : List ℕ) (i : ℕ) → i < length one → i < length other
    → bytes_eq (take (suc i) one) (take (suc i) other) ≡ bytes_eq (take i one) (take i other) && nat_eq (get_or one i 0) (get_or other i 0)
equal-suc [] other i within there = absurd (omega arith)
equal-suc (x ∷ one) [] i within there = absurd (omega arith)
equal-suc (x ∷ one) (y ∷ other) zero within there = and-true (nat_eq x y)
equal-suc (x ∷ one) (y ∷ other) (suc i) within there =
    ap (λ b. nat_eq x y && b) (equal-suc one other i (omega arith) (omega arith))
    ∙ sym-assoc (nat_eq x y) (bytes_eq (take i one) (take i other)) (nat_eq (get_or one i 0) (get_or other i 0))
  where
    sym-assoc : (a b c : Bool) → a && (b && c) ≡ (a && b) && c
    sym-assoc true b c = refl
    sym-assoc false b c = refl

pub equal-more : (one other : List ℕ) (i : ℕ) → i < length one → i < length other
    → bytes_eq (take (i + 1) one) (take (i + 1) other) ≡ bytes_eq (take i one) (take i other) && nat_eq (get_or one i 0) (get_or other i 0)
equal-more one other i within there =
    let next : i + 1 ≡ suc i = omega arith in
    ap (λ n. bytes_eq (take n one) (take n other)) next ∙ equal-suc one other i within there

pub others : (b : Bool) (x y : ℕ) → (x ≡ y → ⊥) → false ≡ b && nat_eq x y
others true x y differ = (let no : nat_eq x y ≡ false = grind (arith, nat_tests) in sym no)
others false x y differ = refl

pub equals : (b : Bool) (x y : ℕ) → x ≡ y → b ≡ b && nat_eq x y
equals b x y same =
    let yes : nat_eq x y ≡ true = eq-eqb x y same in
    rw (yes, and-true b) refl
