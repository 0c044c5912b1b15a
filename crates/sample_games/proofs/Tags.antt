-- What the tags of a sample say.
use Rattle.std.proofs.Common.{◌≡◌, ℕ, zero, suc, ◌+◌, ◌/◌, ◌%◌, ◌^◌, ◌<◌, ◌≤◌, ◌==◌, true, false, nat_le, List, [], ◌∷◌, ◌++◌, length, get_or, slice_index_or, Some, Ok, codes, decimal, refl, arith, inl, inr}
use Rattle.std.specs.List.{list_all}
use Rattle.std.specs.Char.{is_ascii_digit, is_ascii_alphanumeric}
use Rattle.std.specs.Str.{IsAscii, all_ascii_digits}
use Rattle.std.proofs.lemmas.Bool.{cases_lt, and_from, and_parts}
use Rattle.std.proofs.lemmas.Bool.Decides.{nat_tests}
use Rattle.std.proofs.lemmas.List.{get_or_past}
use Rattle.std.proofs.lemmas.Fmt.{decimal_is_IsNumeral, length-decimal-le}
use Rattle.std.proofs.lemmas.Str.{is_utf8-from_IsUtf8, IsUtf8-from_ascii}
use Rattle.explorer_model.specs.declared.archive.Classes.{Classes}
use Rattle.explorer_model.specs.declared.archive.Ending.{Ending}
use Rattle.explorer_model.specs.declared.archive.Ending.TheVariants as endings
use Rattle.explorer_model.specs.declared.archive.Month.{Month}
use Rattle.explorer_model.specs.declared.archive.Outcome.{Outcome}
use Rattle.explorer_model.specs.declared.archive.Outcome.TheVariants as outcomes
use Rattle.explorer_model.specs.declared.archive.Speed.{Speed}
use Rattle.explorer_model.specs.declared.archive.Speed.TheVariants.{UltraBullet, Bullet, Blitz, Rapid, Classical, Correspondence}
use Rattle.explorer_model.specs.declared.archive.Tag.{Tag}
use Rattle.explorer_model.specs.Classes.{classes, mode_of, id_of, name_of, outcome_of, rating_of, control_of, clock_of, speed_of, month_of, group_of, is_standard, agrees_on_set_up}
use Rattle.explorer_model.specs.Games.{ends_with}
use Rattle.explorer_model.specs.Items.{Terminates, kind_of_symbol, ending_of}
use Rattle.rand_pcg.specs.Lcg.{Lcg}
use Rattle.sample_games.specs.Samples.{Header, results, time_controls, digit, id_text, player_text, date_text, header_drawn, drawn}
use Rattle.sample_games.proofs.Pairs.{is_plain}
use Rattle.sample_games.proofs.Symbols.{IsSymbol}
use Rattle.sample_games.proofs.Words.{all-digits}

-- ---- results

pub record IsResult (text : List ℕ) : Type 0 where
  pub outcome : Outcome
  pub outcome_is : outcome_of text ≡ Ok outcome
  pub ending : Ending
  pub agrees : ends_with outcome ending ≡ true
  pub first : ℕ
  pub more : List ℕ
  pub is : text ≡ first ∷ more
  pub symbol : IsSymbol first more
  pub kind : kind_of_symbol (first ∷ more) ≡ Terminates ending
  pub plain : list_all is_plain text ≡ true

pub result-is : (n : ℕ) → n < 3 → IsResult (slice_index_or results n [])
unfolding outcome_of ending_of
result-is zero lt = record {
  outcome = outcomes.White;
  outcome_is = refl;
  ending = endings.WhiteWins;
  agrees = refl;
  first = 49;
  more = codes "-0";
  is = refl;
  symbol = record { begins = refl; dark = refl; goes_on = refl };
  kind = refl;
  plain = refl;
}
result-is (suc zero) lt = record {
  outcome = outcomes.Black;
  outcome_is = refl;
  ending = endings.BlackWins;
  agrees = refl;
  first = 48;
  more = codes "-1";
  is = refl;
  symbol = record { begins = refl; dark = refl; goes_on = refl };
  kind = refl;
  plain = refl;
}
result-is (suc (suc zero)) lt = record {
  outcome = outcomes.Draw;
  outcome_is = refl;
  ending = endings.Drawn;
  agrees = refl;
  first = 49;
  more = codes "/2-1/2";
  is = refl;
  symbol = record { begins = refl; dark = refl; goes_on = refl };
  kind = refl;
  plain = refl;
}
result-is (suc (suc (suc n))) lt = absurd (omega (arith, lt))

-- ---- time controls

pub record IsControl (text : List ℕ) : Type 0 where
  pub speed : Speed
  pub is : control_of text ≡ Some speed
  pub plain : list_all is_plain text ≡ true

pub control-is : (n : ℕ) → n < 6 → IsControl (slice_index_or time_controls n [])
unfolding control_of clock_of speed_of
control-is zero lt = record { speed = UltraBullet; is = refl; plain = refl }
control-is (suc zero) lt = record { speed = Bullet; is = refl; plain = refl }
control-is (suc (suc zero)) lt = record { speed = Blitz; is = refl; plain = refl }
control-is (suc (suc (suc zero))) lt = record { speed = Rapid; is = refl; plain = refl }
control-is (suc (suc (suc (suc zero)))) lt = record { speed = Classical; is = refl; plain = refl }
control-is (suc (suc (suc (suc (suc zero))))) lt = record { speed = Correspondence; is = refl; plain = refl }
control-is (suc (suc (suc (suc (suc (suc n)))))) lt = absurd (omega (arith, lt))

-- ---- dates

pub record IsDate (text : List ℕ) : Type 0 where
  pub month : Month
  pub is : month_of text ≡ Some month
  pub plain : list_all is_plain text ≡ true

abbrev in_2020 : ℕ → Month
in_2020 m = record { year = 2020; month = m }

pub date-is : (m : ℕ) → m < 12 → IsDate (date_text (1 + m))
unfolding month_of
date-is zero lt = record { month = in_2020 1; is = refl; plain = refl }
date-is (suc zero) lt = record { month = in_2020 2; is = refl; plain = refl }
date-is (suc (suc zero)) lt = record { month = in_2020 3; is = refl; plain = refl }
date-is (suc (suc (suc zero))) lt = record { month = in_2020 4; is = refl; plain = refl }
date-is (suc (suc (suc (suc zero)))) lt = record { month = in_2020 5; is = refl; plain = refl }
date-is (suc (suc (suc (suc (suc zero))))) lt = record { month = in_2020 6; is = refl; plain = refl }
date-is (suc (suc (suc (suc (suc (suc zero)))))) lt = record { month = in_2020 7; is = refl; plain = refl }
date-is (suc (suc (suc (suc (suc (suc (suc zero))))))) lt = record { month = in_2020 8; is = refl; plain = refl }
date-is (suc (suc (suc (suc (suc (suc (suc (suc zero)))))))) lt = record { month = in_2020 9; is = refl; plain = refl }
date-is (suc (suc (suc (suc (suc (suc (suc (suc (suc zero))))))))) lt = record { month = in_2020 10; is = refl; plain = refl }
date-is (suc (suc (suc (suc (suc (suc (suc (suc (suc (suc zero)))))))))) lt = record { month = in_2020 11; is = refl; plain = refl }
date-is (suc (suc (suc (suc (suc (suc (suc (suc (suc (suc (suc zero))))))))))) lt = record { month = in_2020 12; is = refl; plain = refl }
date-is (suc (suc (suc (suc (suc (suc (suc (suc (suc (suc (suc (suc n)))))))))))) lt = absurd (omega (arith, lt))

-- ---- numbers

digit-plain : (b : ℕ) → is_ascii_digit b ≡ true → is_plain b ≡ true
digit-plain b h = grind (arith, nat_tests, h)

digits-plain : (ds : List ℕ) → all_ascii_digits ds ≡ true → list_all is_plain ds ≡ true
digits-plain [] h = refl
digits-plain (c ∷ cs) h =
    and_from (is_plain c) (list_all is_plain cs) (digit-plain c (and_parts (is_ascii_digit c) (all_ascii_digits cs) h).0)
    (digits-plain cs (and_parts (is_ascii_digit c) (all_ascii_digits cs) h).1)

decimal-digits : (n : ℕ) → n < 2 ^ 64 → all_ascii_digits (decimal n) ≡ true
decimal-digits n lt = all-digits (decimal n) (decimal_is_IsNumeral n lt).0.1

pub decimal-plain : (n : ℕ) → n < 2 ^ 64 → list_all is_plain (decimal n) ≡ true
decimal-plain n lt = digits-plain (decimal n) (decimal-digits n lt)

pub rating-is : (n : ℕ) → n ≤ 4000 → rating_of (decimal n) ≡ Some n
unfolding rating_of
rating-is n le =
    let small : n < 2 ^ 64 = omega (arith, le) in
    let numeral = decimal_is_IsNumeral n small in
    let some : nat_le 1 (length (decimal n)) ≡ true = grind (arith, nat_tests, numeral.0.0) in
    let short : nat_le (length (decimal n)) 4 ≡ true = (let few = length-decimal-le 4 n (omega arith) (omega (arith, le)) small in grind (arith, nat_tests, few)) in
    let within : nat_le n 4000 ≡ true = grind (arith, nat_tests, le) in
    rw (some, short, decimal-digits n small, numeral.1, within) refl

-- ---- players

player-ascii : (ds : List ℕ) → all_ascii_digits ds ≡ true → (k : ℕ) → k < length ds → get_or ds k 0 < 128
player-ascii [] h k lt = absurd (omega (arith, lt))
player-ascii (c ∷ cs) h zero lt = (let digit_here = (and_parts (is_ascii_digit c) (all_ascii_digits cs) h).0 in grind (arith, nat_tests, digit_here))
player-ascii (c ∷ cs) h (suc k) lt = player-ascii cs (and_parts (is_ascii_digit c) (all_ascii_digits cs) h).1 k (omega (arith, lt))

ascii-of : (bytes : List ℕ) → ((k : ℕ) → k < length bytes → get_or bytes k 0 < 128) → IsAscii bytes
ascii-of bytes h k = elim (cases_lt k (length bytes)) [
  | inl lt ↦ h k lt
  | inr ge ↦ omega (arith, get_or_past bytes k 0 ge)
]

pub name-is : (letter index : ℕ) → letter < 128 → name_of (player_text letter index) ≡ Some (player_text letter index)
unfolding name_of
name-is letter index lt =
    let digits : all_ascii_digits (decimal (index % 100)) ≡ true = decimal-digits (index % 100) (omega arith) in
    let ascii : (k : ℕ) → k < length (player_text letter index) → get_or (player_text letter index) k 0 < 128 = λ k in_text. each k in_text digits in
    rw (is_utf8-from_IsUtf8 (player_text letter index) (IsUtf8-from_ascii (player_text letter index) (ascii-of (player_text letter index) ascii))) refl
  where
    each : (k : ℕ) → k < length (player_text letter index) → all_ascii_digits (decimal (index % 100)) ≡ true → get_or (player_text letter index) k 0 < 128
    each zero in_text digits = lt
    each (suc k) in_text digits = player-ascii (decimal (index % 100)) digits k (omega (arith, in_text))

pub player-plain : (letter index : ℕ) → is_plain letter ≡ true → list_all is_plain (player_text letter index) ≡ true
player-plain letter index h = and_from (is_plain letter) (list_all is_plain (decimal (index % 100))) h (decimal-plain (index % 100) (omega arith))

-- ---- the id

record IsDigit (d : ℕ) : Type 0 where
  letter : is_ascii_alphanumeric d ≡ true
  slash : (d == 47) ≡ false
  plain : is_plain d ≡ true

digit-by : (n : ℕ) → n < 10 → IsDigit (48 + n)
digit-by n lt = record { letter = grind (arith, nat_tests, lt); slash = grind (arith, nat_tests, lt); plain = grind (arith, nat_tests, lt) }

digit-is : (number unit : ℕ) → IsDigit (digit number unit)
digit-is number unit = digit-by (number / unit % 10) (omega arith)

module _ (a b c d e f g : ℕ) (da : IsDigit a) (db : IsDigit b) (dc : IsDigit c) (dd : IsDigit d) (de : IsDigit e) (df : IsDigit f) (dg : IsDigit g) where
  abbrev id : List ℕ
  id = 115 ∷ a ∷ b ∷ c ∷ d ∷ e ∷ f ∷ g ∷ []

  id-of-digits : id_of (codes "https://lichess.org/" ++ id) ≡ Some (record { bytes = id })
  unfolding id_of
  id-of-digits =
      rw (da.slash, db.slash, dc.slash, dd.slash, de.slash, df.slash, dg.slash, da.letter, db.letter, dc.letter, dd.letter, de.letter, df.letter, dg.letter) refl

  plain-digits : list_all is_plain (codes "https://lichess.org/" ++ id) ≡ true
  plain-digits = rw (da.plain, db.plain, dc.plain, dd.plain, de.plain, df.plain, dg.plain) refl

abbrev site : ℕ → List ℕ
site index = codes "https://lichess.org/" ++ id_text index

pub id-is : (index : ℕ) → id_of (site index) ≡ Some (record { bytes = id_text index })
id-is i =
    id-of-digits (digit i 1000000) (digit i 100000) (digit i 10000) (digit i 1000) (digit i 100) (digit i 10) (digit i 1)
    (digit-is i 1000000) (digit-is i 100000) (digit-is i 10000) (digit-is i 1000) (digit-is i 100) (digit-is i 10) (digit-is i 1)

pub site-plain : (index : ℕ) → list_all is_plain (site index) ≡ true
site-plain i =
    plain-digits (digit i 1000000) (digit i 100000) (digit i 10000) (digit i 1000) (digit i 100) (digit i 10) (digit i 1)
    (digit-is i 1000000) (digit-is i 100000) (digit-is i 10000) (digit-is i 1000) (digit-is i 100) (digit-is i 10) (digit-is i 1)

-- ---- all tags

abbrev tag : List ℕ → List ℕ → Tag
tag name value = record { name = name; value = value }

abbrev pub tags_of : ℕ → Header → List Tag
tags_of index header =
    tag (codes "Event") (codes "Rated sample game")
    ∷ tag (codes "Site") (codes "https://lichess.org/" ++ id_text index)
    ∷ tag (codes "White") (player_text 119 index)
    ∷ tag (codes "Black") (player_text 98 index)
    ∷ tag (codes "Result") header.result
    ∷ tag (codes "UTCDate") (date_text header.month)
    ∷ tag (codes "WhiteElo") (decimal header.white_rating)
    ∷ tag (codes "BlackElo") (decimal header.black_rating)
    ∷ tag (codes "TimeControl") header.time_control ∷ []

-- what is drawn of a header keeps the rules
pub record IsSound (header : Header) : Type 0 where
  pub result : IsResult header.result
  pub date : IsDate (date_text header.month)
  pub white : header.white_rating ≤ 4000
  pub black : header.black_rating ≤ 4000
  pub control : IsControl header.time_control

pub sound : (draws : Lcg) → IsSound (header_drawn draws)
sound draws = record {
  result = result-is (drawn 3 draws) (omega arith);
  date = date-is _ (omega arith);
  white = omega arith;
  black = omega arith;
  control = control-is _ (omega arith);
}

pub record HasClasses (index : ℕ) (header : Header) (outcome : Outcome) : Type 0 where
  pub found : Classes
  pub is : classes (tags_of index header) ≡ Ok found
  pub id : found.id.bytes ≡ id_text index
  pub outcome_is : found.outcome ≡ outcome

pub classes-are : (index : ℕ) (header : Header) (s : IsSound header) → HasClasses index header s.result.outcome
unfolding classes is_standard agrees_on_set_up
classes-are index header s = record {
  found = record {
    id = record { bytes = id_text index };
    white = record { name = player_text 119 index; rating = header.white_rating };
    black = record { name = player_text 98 index; rating = header.black_rating };
    outcome = s.result.outcome;
    mode = mode_of (codes "Rated sample game");
    speed = s.control.speed;
    group = group_of header.white_rating header.black_rating;
    month = s.date.month;
  };
  is = rw (id-is index, name-is 119 index (omega arith), name-is 98 index (omega arith), s.result.outcome_is, rating-is header.white_rating s.white, rating-is header.black_rating s.black, s.control.is, s.date.is) refl;
  id = refl;
  outcome_is = refl;
}
