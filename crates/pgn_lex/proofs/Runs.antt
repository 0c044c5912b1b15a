-- Where a byte stands first.
use Rattle.std.proofs.Common.{◌≡◌, ℕ, ◌≤◌, Bool, true, false, List, length, Option, Some, None, position, cond, nat_lt, refl, arith, sym, ap, ◌∙◌}
use Rattle.std.specs.List.{position_or_len}
use Rattle.std.specs.Option.{unwrap_or}
use Rattle.std.proofs.lemmas.Bool.{false_from_ne_true, cond_below, cond_above, ltb-false}
use Rattle.std.proofs.lemmas.List.Sums.{position_or_len_is, prefix_len-le-length}
use Rattle.memchr.specs.Find.{IsFirstByte}

pub first_is_position : (test : ℕ → Bool) (bytes : List ℕ) (found : Option ℕ) → IsFirstByte test bytes found → found ≡ position test bytes
first_is_position test bytes None h =
    let e : position_or_len test bytes ≡ length bytes = position_or_len_is test bytes (length bytes) 0 (omega arith) (λ k lt. false_from_ne_true _ (h k (omega arith) lt)) (λ lt. absurd (omega (arith, lt))) in
    cond_above (position_or_len test bytes) (length bytes) (Some (position_or_len test bytes)) None None (omega (arith, e)) refl
first_is_position test bytes (Some k) h =
    let e : position_or_len test bytes ≡ k = position_or_len_is test bytes k 0 (omega (arith, h.0.high)) (λ j lt. false_from_ne_true _ (h.0.before j (omega arith) lt)) (λ lt. h.1) in
    ap Some (sym e) ∙ cond_below (position_or_len test bytes) (length bytes) (Some (position_or_len test bytes)) None (omega (arith, e, h.0.high))

choose : (most n : ℕ) (b : Bool) → n ≤ most → nat_lt n most ≡ b → unwrap_or (cond b (Some n) None) most ≡ n
choose most n true le h = refl
choose most n false le h = omega (arith, le, ltb-false n most h)

pub unwrap_or-position : (test : ℕ → Bool) (bytes : List ℕ) → unwrap_or (position test bytes) (length bytes) ≡ position_or_len test bytes
unwrap_or-position test bytes = choose (length bytes) (position_or_len test bytes) (nat_lt (position_or_len test bytes) (length bytes)) (prefix_len-le-length _ bytes) refl
