-- Laws: bytes that are compared.
use Rattle.std.proofs.Common.{◌≡◌, ◌⊎◌, inl, inr, ℕ, true, false, List, bytes_eq, refl, sym, ◌∙◌}
use Rattle.std.proofs.lemmas.Bool.{cases_Bool}
use Rattle.std.proofs.lemmas.Slice.Eq.{bytes_eq-Decides}

pub bytes_eq-is : (a b : List ℕ) → bytes_eq a b ≡ true → a ≡ b
bytes_eq-is a b same = (bytes_eq-Decides a b).0 same

pub bytes_eq-self : (a : List ℕ) → bytes_eq a a ≡ true
bytes_eq-self a = (bytes_eq-Decides a a).1 refl

pub bytes_eq-comm : (a b : List ℕ) → bytes_eq a b ≡ bytes_eq b a
bytes_eq-comm a b = by (cases_Bool (bytes_eq a b)) (cases_Bool (bytes_eq b a))
  where
    by : (bytes_eq a b ≡ true) ⊎ (bytes_eq a b ≡ false) → (bytes_eq b a ≡ true) ⊎ (bytes_eq b a ≡ false) → bytes_eq a b ≡ bytes_eq b a
    by (inl one) other = one ∙ sym ((bytes_eq-Decides b a).1 (sym (bytes_eq-is a b one)))
    by (inr one) (inl other) = (bytes_eq-Decides a b).1 (sym (bytes_eq-is b a other)) ∙ sym other
    by (inr one) (inr other) = one ∙ sym other
