-- Texts of which no byte is escaped, and openings that are lent.
use Rattle.std.proofs.Common.{◌≡◌, ◌∙◌, refl, ap, subst, sym, arith, ℕ, ◌+◌, ◌<◌, ◌≤◌, false, List, [], ◌∷◌, ◌++◌, map, take, length, get_or, Bor, Option}
use Rattle.std.specs.Prelude.{nat_eq, nat_lt}
use Rattle.std.specs.Option.{option_copied}
use Rattle.std.proofs.lemmas.Bool.Decides.{nat_tests}
use Rattle.std.proofs.lemmas.Grind.{flat_map-append}
use Rattle.std.proofs.lemmas.List.{map-append, take_all, take_more}
use Rattle.json.specs.Print.{escape, escape_byte}
use Rattle.serde_json.specs.Data.{string}
use Rattle.serde_json.specs.Written.{compact_text}
use Rattle.explorer_model.specs.declared.opening.Opening.{Opening}

-- ---- bytes as they are

differs : (b k : ℕ) → k < 32 → 32 ≤ b → nat_eq b k ≡ false
differs b k small high = grind (arith, nat_tests)

not-low : (b : ℕ) → 32 ≤ b → nat_lt b 32 ≡ false
not-low b high = grind (arith, nat_tests)

is-other : (b k : ℕ) → (b ≡ k → ⊥) → nat_eq b k ≡ false
is-other b k other = grind (arith, nat_tests)

pub plain-byte : (b : ℕ) → 32 ≤ b → (b ≡ 34 → ⊥) → nat_eq b 92 ≡ false → escape_byte b ≡ b ∷ []
unfolding escape_byte
plain-byte b high quote slash =
    rw (
      is-other b 34 quote,
      slash,
      differs b 8 (omega arith) high,
      differs b 12 (omega arith) high,
      differs b 10 (omega arith) high,
      differs b 13 (omega arith) high,
      differs b 9 (omega arith) high,
      not-low b high,
    ) refl

above : (b k : ℕ) → k < b → b ≡ k → ⊥
above b k more is = omega (arith, more, is)

pub letter-byte : (b : ℕ) → 92 < b → escape_byte b ≡ b ∷ []
letter-byte b high = plain-byte b (omega arith) (above b 34 (omega arith)) (is-other b 92 (above b 92 high))

pub byte-plain : (text : List ℕ) (i : ℕ) → i < length text → escape (take i text) ≡ take i text
    → escape_byte (get_or text i 0) ≡ get_or text i 0 ∷ [] → escape (take (i + 1) text) ≡ take (i + 1) text
byte-plain text i within before plain =
    let E : List ℕ → Type 0 = λ s. escape s ≡ s in
    subst E (sym (take_more text i 0 within)) (flat_map-append escape_byte (take i text) (get_or text i 0 ∷ []) ∙ rw (before, plain) refl)

pub text-plain : (text : List ℕ) (n : ℕ) → length text ≤ n → escape (take n text) ≡ take n text → compact_text (string text) ≡ 34 ∷ (text ++ 34 ∷ [])
text-plain text n all is =
    let E : List ℕ → Type 0 = λ s. escape s ≡ s in
    ap (λ s. 34 ∷ (s ++ 34 ∷ [])) (subst E (take_all n text all) is)

-- ---- openings that are lent

pub one-lent : (lent new : List (Option (Bor Opening))) (one : Option (Bor Opening)) (openings : List (Option Opening)) (i : ℕ) (d : Option Opening)
    → map option_copied lent ≡ take i openings → i < length openings → option_copied one ≡ get_or openings i d → new ≡ lent ++ one ∷ []
    → map option_copied new ≡ take (i + 1) openings
one-lent lent new one openings i d before within is pushed =
    rw (pushed, take_more openings i d within, map-append option_copied lent (one ∷ []), before, is) refl
