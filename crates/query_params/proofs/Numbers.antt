-- Numbers of a few decimal digits.
use Rattle.std.proofs.Common.{arith, ◌≡◌, ◌≢◌, ◌∙◌, sym, ap, refl, ℕ, ◌<◌, ◌≤◌, ◌^◌, List, length, get_or, Bool, true, false, ◌&&◌, nat_le, Option, Some, None, Result, Ok, Err, IfSome, if◌then◌else◌}
use Rattle.std.proofs.lemmas.Bool.{false_from_ne_true}
use Rattle.std.proofs.lemmas.Bool.Decides.{nat_tests}
use Rattle.std.proofs.lemmas.Str.Parse.{IsNumeralModel, numerals_by_value, tells_all_ascii_digits, parse_plain, digits_value_short}
use Rattle.std.specs.Result.{result_ok}
use Rattle.std.specs.Str.{all_ascii_digits}
use Rattle.std.specs.Str.Parse.{digits_value, ParsesUnsigned}
use Rattle.explorer_model.specs.Classes.{number_of}

own : IsNumeralModel (λ ds. all_ascii_digits ds ≡ true) (digits_value 10)
own = numerals_by_value _ tells_all_ascii_digits

-- the test of a number's text
abbrev is_number : ℕ → List ℕ → Bool
is_number most text = nat_le 1 (length text) && nat_le (length text) most && all_ascii_digits text

is_number-true : (most : ℕ) (text : List ℕ) → 0 < length text → length text ≤ most → all_ascii_digits text ≡ true → is_number most text ≡ true
is_number-true most text some few digits = grind (arith, nat_tests)

is_number-digits : (most : ℕ) (text : List ℕ) → is_number most text ≡ true → all_ascii_digits text ≡ true
is_number-digits most text is = grind (arith, nat_tests)

is_number-some : (most : ℕ) (text : List ℕ) → is_number most text ≡ true → 0 < length text
is_number-some most text is = grind (arith, nat_tests)

is_number-few : (most : ℕ) (text : List ℕ) → is_number most text ≡ true → length text ≤ most
is_number-few most text is = grind (arith, nat_tests)

short-if : (most : ℕ) (text : List ℕ) (test : Bool) (n : ℕ) → is_number most text ≡ test → Some n ≡ (if test then Some (digits_value 10 text) else None) → n < 10 ^ most
short-if most text true n is gives =
    let same : n ≡ digits_value 10 text = cc in
    let less : digits_value 10 text < 10 ^ most = digits_value_short own text most (is_number-digits most text is) (is_number-few most text is) in
    omega (arith, same, less)
short-if most text false n is gives = cc

-- the number of a few digits is below the power of ten
pub short : (most : ℕ) (text : List ℕ) (number : Option ℕ) → number ≡ number_of most text → IfSome number (λ n. n < 10 ^ most)
short most text None is = tt
short most text (Some n) is = short-if most text (is_number most text) n refl is

-- what is parsed without a sign is the number of a few digits
pub parsed : {E : Type 0} (most : ℕ) (text : List ℕ) (r : Result ℕ E) → most ≤ 9 → length text ≤ most → get_or text 0 0 ≢ 43 → ParsesUnsigned 32 10 text r
    → result_ok r ≡ number_of most text
parsed {E} most text (Ok n) few fits unsigned parses =
    let is = parse_plain own {E = E} 32 text (Ok n) parses unsigned in
    ap (λ m. Some m) is.1 ∙ sym (ap (λ (b : Bool). if b then Some (digits_value 10 text) else None) (is_number-true most text is.0.1 fits is.0.0))
parsed {E} most text (Err e) few fits unsigned parses =
    let none = parse_plain own {E = E} 32 text (Err e) parses unsigned in
    sym (ap (λ (b : Bool). if b then Some (digits_value 10 text) else None)
    (false_from_ne_true (is_number most text) (λ is.
    let less : digits_value 10 text < 10 ^ 9 = digits_value_short own text 9 (is_number-digits most text is) (omega (arith, few, fits)) in
    let power : 10 ^ 9 ≡ 1000000000 = refl in
    let wide : 2 ^ 32 ≡ 4294967296 = refl in
    none (is_number-digits most text is, is_number-some most text is, omega (arith, less, power, wide)))))
