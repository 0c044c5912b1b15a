-- The first and the last place of a byte, and what stands around them.
use Rattle.std.proofs.Common.{arith, ◌≡◌, ◌∙◌, sym, ap, subst, ℕ, ◌+◌, ◌-◌, ◌<◌, List, length, take, drop, true, false, not, ◌==◌}
use Rattle.std.specs.List.{list_any, position_or_len, before_first, after_first, after_last, suffix_len, slice_index}
use Rattle.std.proofs.lemmas.Bool.{false_from_ne_true, not_from_false}
use Rattle.std.proofs.lemmas.List.{take_rest, get_or_default}
use Rattle.std.proofs.lemmas.List.Sums.{position_or_len_is, suffix_len_is}
use Rattle.std.proofs.lemmas.List.Folds.{list_any_at, list_any_none}
use Rattle.std.proofs.Math.Seq.{take-length}
use Rattle.memchr.specs.Find.{Nowhere, NoneBefore, NoneAfter, Passes, is_byte}

module _ (byte : ℕ) (text : List ℕ) where
  pub nowhere_any : Nowhere (Passes (is_byte byte) text) 0 (length text) → list_any (λ b. b == byte) text ≡ false
  nowhere_any nowhere = list_any_none (λ b. b == byte) text (λ k d within. false_from_ne_true _ (λ is. nowhere k (omega arith) within (subst (λ b. (b == byte) ≡ true) (get_or_default text k d 0 within) is)))

  pub nowhere_before : Nowhere (Passes (is_byte byte) text) 0 (length text) → before_first (λ b. b == byte) text ≡ text
  nowhere_before nowhere =
      let place : position_or_len (λ b. b == byte) text ≡ length text =
      position_or_len_is (λ b. b == byte) text (length text) 0 (omega arith)
      (λ k below. false_from_ne_true _ (λ is. nowhere k (omega arith) below is))
      (λ below. absurd (omega (arith, below))) in
      ap (λ n. take n text) place ∙ take-length text

  place_is : (k : ℕ) → NoneBefore (Passes (is_byte byte) text) 0 (length text) k → Passes (is_byte byte) text k
      → position_or_len (λ b. b == byte) text ≡ k
  place_is k before is =
      position_or_len_is (λ b. b == byte) text k 0 (omega (arith, before.high))
      (λ j below. false_from_ne_true _ (λ passes. before.before j (omega arith) below passes))
      (λ below. is)

  pub first_any : (k : ℕ) → k < length text → Passes (is_byte byte) text k → list_any (λ b. b == byte) text ≡ true
  first_any k within is = list_any_at (λ b. b == byte) text k 0 within is

  pub first_before : (k : ℕ) → NoneBefore (Passes (is_byte byte) text) 0 (length text) k → Passes (is_byte byte) text k
      → take k text ≡ before_first (λ b. b == byte) text
  first_before k before is = ap (λ n. take n text) (sym (place_is k before is))

  pub first_after : (k : ℕ) → NoneBefore (Passes (is_byte byte) text) 0 (length text) k → Passes (is_byte byte) text k
      → take (length text - (k + 1)) (drop (k + 1) text) ≡ after_first (λ b. b == byte) text
  first_after k before is = take_rest text (k + 1) ∙ ap (λ n. drop (n + 1) text) (sym (place_is k before is))

  pub last_after : (k : ℕ) → NoneAfter (Passes (is_byte byte) text) 0 (length text) k → Passes (is_byte byte) text k
      → take (length text - (k + 1)) (drop (k + 1) text) ≡ after_last (λ b. b == byte) text
  last_after k after is =
      let rest : suffix_len (λ b. not (b == byte)) text ≡ length text - (k + 1) =
      suffix_len_is (λ b. not (b == byte)) text (k + 1) 0 (omega (arith, after.high))
      (λ j from below. not_from_false _ (false_from_ne_true _ (λ passes. after.after j from below passes)))
      (λ some. ap not (subst (λ j. (slice_index text j == byte) ≡ true) (omega arith) is)) in
      let place : k + 1 ≡ length text - (length text - (k + 1)) = omega (arith, after.high) in
      take_rest text (k + 1) ∙ (ap (λ n. drop n text) place ∙ ap (λ n. drop (length text - n) text) (sym rest))
