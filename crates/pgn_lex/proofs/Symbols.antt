-- A symbol by its bytes.
use Rattle.std.proofs.Common.{◌≡◌, ℕ, ◌+◌, ◌≤◌, true, false, ◌==◌, List, [], ◌∷◌, length, take, drop, refl, sym, ap, ◌∙◌, subst, inl, inr, add-one, arith}
use Rattle.std.specs.Char.{is_ascii_digit}
use Rattle.std.proofs.lemmas.Bool.{cases_eq}
use Rattle.std.proofs.lemmas.Bool.Decides.{nat_tests}
use Rattle.std.specs.List.{prefix_len}
use Rattle.explorer_model.specs.Items.{Kind, Word, Shape, ending_of, continues_symbol, kind_of_symbol, symbol_of}
use Rattle.pgn_lex.specs.Items.{symbol_at, begins_with_digit}

abbrev shape : Kind → ℕ → Shape
shape kind more = record { kind = kind; more = more }

pub symbol-shape : (bytes : List ℕ) (kind : Kind) (more : ℕ) → 1 ≤ length bytes → more ≡ prefix_len continues_symbol (drop 1 bytes) → kind ≡ kind_of_symbol (take (more + 1) bytes)
    → shape kind more ≡ symbol_at bytes
unfolding symbol_of
symbol-shape [] kind more some e k = absurd (omega (arith, some))
symbol-shape (b ∷ bytes) kind more some e k =
    let all : kind ≡ kind_of_symbol (b ∷ take more bytes) = k ∙ ap (λ (n : ℕ). kind_of_symbol (take n (b ∷ bytes))) (add-one more) in
    ap (λ (x : Kind). shape x more) all ∙ ap (λ (n : ℕ). shape (kind_of_symbol (b ∷ take n bytes)) n) e

-- a symbol that begins with no digit is a word
pub word_by_first : (bytes : List ℕ) → begins_with_digit bytes ≡ false → kind_of_symbol bytes ≡ Word
unfolding ending_of
word_by_first [] e = cc
word_by_first (b ∷ bytes) e =
    let one : (b == 49) ≡ false = no_digit 49 refl in
    let nought : (b == 48) ≡ false = no_digit 48 refl in
    rw (e, one, nought) refl
  where
    no_digit : (k : ℕ) → is_ascii_digit k ≡ true → (b == k) ≡ false
    no_digit k digit = elim (cases_eq b k) [
      | inl same ↦ (let P : ℕ → Type 0 = λ n. is_ascii_digit n ≡ false in let no_way : true ≡ false = sym digit ∙ subst P same e in cc)
      | inr apart ↦ grind (arith, nat_tests)
    ]
