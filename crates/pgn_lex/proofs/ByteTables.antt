-- What a table of bytes tells of each of them.
use Rattle.std.proofs.Common.{◌≡◌, ℕ, zero, suc, ◌<◌, Bool, true, false, ◌==◌, ◌&&◌, cond, List, slice_index, sym, subst, inl, inr, arith}
use Rattle.std.proofs.lemmas.Bool.{cases_eq}
use Rattle.std.proofs.lemmas.Bool.Decides.{nat_tests}
use Rattle.pgn_lex.specs.Bytes.{is_of}
use Rattle.pgn_lex.specs.ByteTable.{tells_below}
use Rattle.pgn_lex.specs.declared.bytes.Class.{Class}

marked : (b : Bool) (mark : ℕ) → (mark == cond b 1 0) ≡ true → (mark == 1) ≡ b
marked true mark e = e
marked false mark e = grind (arith, nat_tests)

pub told : (class : Class) (marks : List ℕ) (b n : ℕ) → tells_below class marks n ≡ true → b < n → (slice_index marks b == 1) ≡ is_of class b
unfolding tells_below
told class marks b zero e lt = absurd (omega (arith, lt))
told class marks b (suc n) e lt = elim (cases_eq b n) [
  | inl same ↦ (
      let P : ℕ → Type 0 = λ k. (slice_index marks k == 1) ≡ is_of class k in
      subst P (sym same) (marked (is_of class n) (slice_index marks n) (first e))
      )
  | inr apart ↦ told class marks b n (second e) (omega (arith, lt, apart))
]
  where
    first : (slice_index marks n == cond (is_of class n) 1 0 && tells_below class marks n) ≡ true → (slice_index marks n == cond (is_of class n) 1 0) ≡ true
    first e = grind (arith, nat_tests)

    second : (slice_index marks n == cond (is_of class n) 1 0 && tells_below class marks n) ≡ true → tells_below class marks n ≡ true
    second e = grind (arith, nat_tests)
