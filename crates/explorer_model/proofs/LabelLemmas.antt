-- Which texts are labels.
use Rattle.std.proofs.Common.{◌≡◌, ◌<◌, ◌≤◌, ℕ, Bool, true, false, ◌&&◌, nat_le, List, [], ◌∷◌, length, refl, arith}
use lib.Utf8.{encode}
use Rattle.std.specs.List.{list_all}
use Rattle.std.specs.Str.{IsUtf8, is_utf8, chars}
use Rattle.std.proofs.lemmas.Bool.{false_from_ne_true}
use Rattle.std.proofs.lemmas.Bool.Decides.{nat_tests}
use Rattle.std.proofs.lemmas.Str.{IsUtf8-from_is_utf8, is_utf8-from_IsUtf8}
use Rattle.explorer_model.specs.Labels.{is_label, is_printing}

pub none-is-label : is_label [] ≡ true
unfolding is_label is_utf8 chars encode
none-is-label = refl

pub empty-is-label : (text : List ℕ) → text ≡ [] → is_label text ≡ true
empty-is-label [] none = none-is-label
empty-is-label (b ∷ text) none = cc

first-fails : (a b c : Bool) → a ≡ false → (a && b && c) ≡ false
first-fails false b c is = refl
first-fails true b c is = cc

middle-fails : (a b c : Bool) → b ≡ false → (a && b && c) ≡ false
middle-fails true false c is = refl
middle-fails false b c is = refl
middle-fails true true c is = cc

last-fails : (a b c : Bool) → c ≡ false → (a && b && c) ≡ false
last-fails true true false is = refl
last-fails true false c is = refl
last-fails false b c is = refl
last-fails true true true is = cc

pub too-long : (text : List ℕ) → 64 < length text → is_label text ≡ false
unfolding is_label
too-long text long =
    let fails : nat_le (length text) 64 ≡ false = grind (arith, nat_tests) in
    first-fails (nat_le (length text) 64) (list_all is_printing text) (is_utf8 text) fails

pub not-printing : (text : List ℕ) → list_all is_printing text ≡ false → is_label text ≡ false
unfolding is_label
not-printing text fails = middle-fails (nat_le (length text) 64) (list_all is_printing text) (is_utf8 text) fails

pub no-text : (text : List ℕ) → ¬ IsUtf8 text → is_label text ≡ false
unfolding is_label
no-text text other =
    last-fails (nat_le (length text) 64) (list_all is_printing text) (is_utf8 text)
    (false_from_ne_true (is_utf8 text) (λ utf8. other (IsUtf8-from_is_utf8 text utf8)))

pub label-is : (text : List ℕ) → length text ≤ 64 → list_all is_printing text ≡ true → IsUtf8 text → is_label text ≡ true
unfolding is_label
label-is text short printing utf8 =
    let passes : nat_le (length text) 64 ≡ true = grind (arith, nat_tests) in
    rw (passes, printing, is_utf8-from_IsUtf8 text utf8) refl

-- a label is short
pub label-short : (text : List ℕ) → is_label text ≡ true → length text ≤ 64
unfolding is_label
label-short text is = by (nat_le (length text) 64) refl is
  where
    by : (short : Bool) → nat_le (length text) 64 ≡ short → (short && list_all is_printing text && is_utf8 text) ≡ true → length text ≤ 64
    by true short is = grind (arith, nat_tests)
    by false short is = cc
