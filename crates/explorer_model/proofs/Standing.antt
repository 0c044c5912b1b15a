-- A whole request and a refusal in the bytes of a connection stay, whatever comes behind them.
use Rattle.std.proofs.Common.{◌≡◌, ℕ, suc, ◌+◌, ◌<◌, ◌≤◌, ◌==◌, Bool, true, false, ◌&&◌, ◌||◌, cond, nat_le, if◌then◌else◌, List, [], ◌∷◌, ◌++◌, length, take, drop, Option, Some, None, IfSome, option_map, Result, Ok, Err, refl, sym, ap, ◌∙◌, subst, bytes_eq, arith, le_refl, length-append}
use Rattle.std.specs.Cmp.Lexicographic.{bytes_decides}
use Rattle.std.specs.List.{prefix_len}
use Rattle.std.specs.Option.{option_or}
use Rattle.std.proofs.lemmas.Bool.Decides.{nat_tests}
use Rattle.std.proofs.lemmas.List.{take-append-le, drop-append-le}
use Rattle.std.proofs.lemmas.List.Sums.{prefix_len-le-length, sum_by-cons, sum_by-append}
use Rattle.explorer_model.specs.declared.wire.Request.{Request}
use Rattle.explorer_model.specs.declared.wire.RequestFault.{RequestFault}
use Rattle.explorer_model.specs.Items.{ends_line}
use Rattle.explorer_model.specs.Wire.{head_limit, line_limit, empty_line, head_len, lines_in, Opening, Head, TooLong, Begun, Blank, begun, opening_by, opening, Sized, Front, Whole, Refuses, Unfinished, front_of, request_of, IsFrontBy, IsFront}

-- ---- the length of a head

abbrev one_more : Option ℕ → Option ℕ
one_more count = option_map (λ n. n + 1) count

abbrev here_if : Bool → List ℕ → Option ℕ
here_if is_end bytes = if is_end then empty_line bytes else None

abbrev IsNone : Option ℕ → Type 0
IsNone None = Unit {0}
IsNone (Some n) = ⊥

not-some : (n : ℕ) → None ≡ Some n → ⊥
not-some n is = subst IsNone is tt

-- a head found later is found likewise where more follows
keeps : (here later more : Option ℕ) (n : ℕ) → ((m : ℕ) → later ≡ Some m → more ≡ Some m)
    → one_more (option_or here later) ≡ Some n → one_more (option_or here more) ≡ Some n
keeps (Some k) later more n stays is = is
keeps None None more n stays is = absurd (not-some n is)
keeps None (Some m) more n stays is = rw (stays m refl) is

-- where no head is found later
keeps-here : (here more later : Option ℕ) (n : ℕ) → ((k : ℕ) → here ≡ Some k → more ≡ Some k)
    → one_more (option_or here None) ≡ Some n → one_more (option_or more later) ≡ Some n
keeps-here (Some k) more later n stays is = rw (stays k refl) is
keeps-here None more later n stays is = absurd (not-some n is)

none-of-nothing : (is_end : Bool) → here_if is_end [] ≡ None
none-of-nothing true = refl
none-of-nothing false = refl

none-of-one : (b : ℕ) → head_len (b ∷ []) ≡ None
unfolding head_len
none-of-one b = rw (none-of-nothing (b == 10)) refl

-- a single byte: an empty line of one byte, or none yet
one-byte : (is_10 is_13 other : Bool) (k : ℕ)
    → (if is_10 && true then Some 1 else (if is_13 && false then Some 2 else None)) ≡ Some k
    → (if is_10 && true then Some 1 else (if other then Some 2 else None)) ≡ Some k
one-byte true is_13 other k is = is
one-byte false true other k is = absurd (not-some k is)
one-byte false false other k is = absurd (not-some k is)

here-stays : (is_end : Bool) (x : ℕ) (behind : List ℕ) (k : ℕ) → here_if is_end (x ∷ []) ≡ Some k → here_if is_end (x ∷ behind) ≡ Some k
here-stays true x behind k is = one-byte (x == 10) (x == 13) _ k is
here-stays false x behind k is = absurd (not-some k is)

head-stays : (text behind : List ℕ) (n : ℕ) → head_len text ≡ Some n → head_len (text ++ behind) ≡ Some n
unfolding head_len
head-stays [] behind n is = absurd (not-some n is)
head-stays (b ∷ []) behind n is = absurd (not-some n (sym (none-of-one b) ∙ is))
head-stays (b ∷ x ∷ []) behind n is =
    keeps-here (here_if (b == 10) (x ∷ [])) (here_if (b == 10) (x ∷ behind)) (head_len (x ∷ behind)) n
    (here-stays (b == 10) x behind)
    (ap (λ later. one_more (option_or (here_if (b == 10) (x ∷ [])) later)) (sym (none-of-one x)) ∙ is)
head-stays (b ∷ x ∷ y ∷ text) behind n is =
    keeps (here_if (b == 10) (x ∷ y ∷ text)) (head_len (x ∷ y ∷ text)) (head_len (x ∷ y ∷ (text ++ behind))) n
    (λ m found. head-stays (x ∷ y ∷ text) behind m found) is

AtMost : ℕ → Option ℕ → Type 0
AtMost size count = IfSome count (λ n. n ≤ size)

here-fits : (is_end : Bool) (bytes : List ℕ) → AtMost (length bytes) (here_if is_end bytes)
unfolding AtMost
here-fits false bytes = tt
here-fits true [] = tt
here-fits true (x ∷ []) = by (x == 10) (x == 13)
  where
    by : (is_10 is_13 : Bool) → IfSome (if is_10 && true then Some 1 else (if is_13 && false then Some 2 else None)) (λ n. n ≤ 1)
    by true is_13 = omega arith
    by false true = tt
    by false false = tt
here-fits true (x ∷ y ∷ bytes) = by (x == 10) (x == 13) (y == 10)
  where
    by : (is_10 is_13 ends : Bool)
        → IfSome (if is_10 && true then Some 1 else (if is_13 && (ends && true) then Some 2 else None)) (λ n. n ≤ suc (suc (length bytes)))
    by true is_13 ends = omega arith
    by false true true = omega arith
    by false true false = tt
    by false false ends = tt

one-fits : (here later : Option ℕ) (size : ℕ) → AtMost size here → AtMost size later → AtMost (suc size) (one_more (option_or here later))
unfolding AtMost
one-fits (Some k) later size here_fits later_fits = omega arith
one-fits None (Some m) size here_fits later_fits = omega arith
one-fits None None size here_fits later_fits = tt

head-fits : (text : List ℕ) → AtMost (length text) (head_len text)
unfolding AtMost head_len
head-fits [] = tt
head-fits (b ∷ text) = one-fits (here_if (b == 10) text) (head_len text) (length text) (here-fits (b == 10) text) (head-fits text)

head-within : (text : List ℕ) (n : ℕ) → head_len text ≡ Some n → n ≤ length text
unfolding AtMost
head-within text n is = subst (AtMost (length text)) is (head-fits text)

-- ---- a head that ends later

abbrev some_if : Bool → ℕ → Option ℕ → Option ℕ
some_if passes n other = if passes then Some n else other

-- greater than the size
Later : ℕ → Option ℕ → Type 0
Later size count = IfSome count (λ n. size < n)

none-of-both : (here later : Option ℕ) → one_more (option_or here later) ≡ None → (here ≡ None) × (later ≡ None)
none-of-both (Some k) later is = absurd (not-some (k + 1) (sym is))
none-of-both None (Some m) is = absurd (not-some (m + 1) (sym is))
none-of-both None None is = (refl, refl)

here-later : (is_end : Bool) (rest behind : List ℕ) → here_if is_end rest ≡ None → Later (length rest) (here_if is_end (rest ++ behind))
unfolding Later
here-later false rest behind none = tt
here-later true [] behind none = by (bytes_eq (take 1 behind) (10 ∷ [])) (bytes_eq (take 2 behind) (13 ∷ 10 ∷ []))
  where
    by : (one two : Bool) → IfSome (if one then Some 1 else (if two then Some 2 else None)) (λ n. 0 < n)
    by true two = omega arith
    by false true = omega arith
    by false false = tt
here-later true (x ∷ []) behind none = by (x == 10) (x == 13) (bytes_eq (take 2 (x ∷ behind)) (13 ∷ 10 ∷ [])) none
  where
    by : (one begins two : Bool) → some_if (one && true) 1 (some_if (begins && false) 2 None) ≡ None
        → IfSome (if one && true then Some 1 else (if two then Some 2 else None)) (λ n. 1 < n)
    by true begins two none = absurd (not-some 1 (sym none))
    by false begins true none = omega arith
    by false begins false none = tt
here-later true (x ∷ y ∷ rest) behind none =
    let P : Option ℕ → Type 0 = λ count. IfSome count (λ n. suc (suc (length rest)) < n) in subst P (sym none) tt

one-later : (here later : Option ℕ) (size : ℕ) → Later size here → Later size later → Later (suc size) (one_more (option_or here later))
unfolding Later
one-later (Some k) later size here_late later_late = omega arith
one-later None (Some m) size here_late later_late = omega arith
one-later None None size here_late later_late = tt

head-later : (text behind : List ℕ) → head_len text ≡ None → Later (length text) (head_len (text ++ behind))
unfolding Later head_len
head-later [] [] none = tt
head-later [] (b ∷ behind) none = by (option_or (here_if (b == 10) behind) (head_len behind))
  where
    by : (count : Option ℕ) → IfSome (one_more count) (λ n. 0 < n)
    by None = tt
    by (Some n) = omega arith
head-later (b ∷ rest) behind none =
    let both = none-of-both (here_if (b == 10) rest) (head_len rest) none in
    one-later (here_if (b == 10) (rest ++ behind)) (head_len (rest ++ behind)) (length rest)
    (here-later (b == 10) rest behind both.0) (head-later rest behind both.1)

-- ---- its lines

lines-cons : (b : ℕ) (bytes : List ℕ) → lines_in (b ∷ bytes) ≡ cond (b == 10) 1 0 + lines_in bytes
lines-cons b bytes = sum_by-cons (λ b. cond (b == 10) 1 0) b bytes

-- the first so many of the bytes have more lines
MoreLines : ℕ → List ℕ → Option ℕ → Type 0
MoreLines count bytes front = IfSome front (λ n. count < lines_in (take n bytes))

one-line : (b : ℕ) (count : ℕ) (bytes : List ℕ) (here later : Option ℕ) → MoreLines count bytes here → MoreLines count bytes later
    → MoreLines (cond (b == 10) 1 0 + count) (b ∷ bytes) (one_more (option_or here later))
unfolding MoreLines
one-line b count bytes here later here_more later_more = by here later here_more later_more
  where
    step : (n : ℕ) → count < lines_in (take n bytes) → cond (b == 10) 1 0 + count < lines_in (take (n + 1) (b ∷ bytes))
    step n more =
        let next : suc n ≡ n + 1 = omega arith in
        let P : ℕ → Type 0 = λ m. cond (b == 10) 1 0 + count < lines_in (take m (b ∷ bytes)) in
        subst P next (omega (arith, lines-cons b (take n bytes)))

    by : (here later : Option ℕ) → IfSome here (λ n. count < lines_in (take n bytes)) → IfSome later (λ n. count < lines_in (take n bytes))
        → IfSome (one_more (option_or here later)) (λ n. cond (b == 10) 1 0 + count < lines_in (take n (b ∷ bytes)))
    by (Some k) later here_more later_more = step k here_more
    by None (Some m) here_more later_more = step m later_more
    by None None here_more later_more = tt

lines-of : (bytes text : List ℕ) (count : ℕ) → bytes_eq bytes text ≡ true → count < lines_in text → count < lines_in bytes
lines-of bytes text count same more =
    let P : List ℕ → Type 0 = λ list. count < lines_in list in subst P (sym ((bytes_decides bytes text).0 same)) more

empty-line-more : (bytes : List ℕ) → MoreLines 0 bytes (empty_line bytes)
unfolding MoreLines
empty-line-more bytes = by (bytes_eq (take 1 bytes) (10 ∷ [])) (bytes_eq (take 2 bytes) (13 ∷ 10 ∷ [])) refl refl
  where
    by : (one two : Bool) → bytes_eq (take 1 bytes) (10 ∷ []) ≡ one → bytes_eq (take 2 bytes) (13 ∷ 10 ∷ []) ≡ two
        → IfSome (if one then Some 1 else (if two then Some 2 else None)) (λ n. 0 < lines_in (take n bytes))
    by true two is other = lines-of (take 1 bytes) (10 ∷ []) 0 is (omega arith)
    by false true is other = lines-of (take 2 bytes) (13 ∷ 10 ∷ []) 0 other (omega arith)
    by false false is other = tt

here-more : (is_end : Bool) (rest behind : List ℕ) → here_if is_end rest ≡ None
    → MoreLines (lines_in rest) (rest ++ behind) (here_if is_end (rest ++ behind))
unfolding MoreLines
here-more false rest behind none = tt
here-more true [] behind none = empty-line-more behind
here-more true (x ∷ []) behind none = by (x == 10) (x == 13) none (empty-line-more (x ∷ behind))
  where
    by : (one begins : Bool) → some_if (one && true) 1 (some_if (begins && false) 2 None) ≡ None
        → IfSome (empty_line (x ∷ behind)) (λ n. 0 < lines_in (take n (x ∷ behind)))
        → IfSome (empty_line (x ∷ behind)) (λ n. 0 + cond one 1 0 < lines_in (take n (x ∷ behind)))
    by true begins none more = absurd (not-some 1 (sym none))
    by false begins none more = more
here-more true (x ∷ y ∷ rest) behind none =
    let P : Option ℕ → Type 0 = λ count. IfSome count (λ n. lines_in (x ∷ y ∷ rest) < lines_in (take n (x ∷ y ∷ (rest ++ behind)))) in
    subst P (sym none) tt

-- a head has a line
some-line : (bytes : List ℕ) → MoreLines 0 bytes (head_len bytes)
unfolding MoreLines head_len
some-line [] = tt
some-line (b ∷ bytes) = by (b == 10) refl (head_len bytes) (some-line bytes)
  where
    next : (n : ℕ) → suc n ≡ n + 1
    next n = omega arith

    P : ℕ → Type 0
    P n = 0 < lines_in (take n (b ∷ bytes))

    by : (is_end : Bool) → (b == 10) ≡ is_end → (later : Option ℕ) → IfSome later (λ n. 0 < lines_in (take n bytes))
        → IfSome (one_more (option_or (here_if is_end bytes) later)) (λ n. 0 < lines_in (take n (b ∷ bytes)))
    by false is None more = tt
    by false is (Some m) more = subst (λ n. 0 < lines_in (take n (b ∷ bytes))) (next m) (omega (arith, more, lines-cons b (take m bytes)))
    by true is later more = of-end (option_or (empty_line bytes) later) is
      where
        more-of : (n : ℕ) → (b == 10) ≡ true → 0 < lines_in (b ∷ take n bytes)
        more-of n is =
            let one : cond {A = ℕ} (b == 10) 1 0 ≡ 1 = rw is refl in omega (arith, lines-cons b (take n bytes), one)

        of-end : (count : Option ℕ) → (b == 10) ≡ true → IfSome (one_more count) (λ n. 0 < lines_in (take n (b ∷ bytes)))
        of-end None is = tt
        of-end (Some n) is = subst (λ n. 0 < lines_in (take n (b ∷ bytes))) (next n) (more-of n is)

head-more : (text behind : List ℕ) → head_len text ≡ None → MoreLines (lines_in text) (text ++ behind) (head_len (text ++ behind))
unfolding head_len
head-more [] behind none = some-line behind
head-more (b ∷ rest) behind none =
    let both = none-of-both (here_if (b == 10) rest) (head_len rest) none in
    rw (lines-cons b rest)
    (one-line b (lines_in rest) (rest ++ behind) (here_if (b == 10) (rest ++ behind)) (head_len (rest ++ behind))
    (here-more (b == 10) rest behind both.0) (head-more rest behind both.1))

-- ---- the opening

-- a head that is whole stands before what follows it and these bytes, and what is too long stays so
abbrev pub Extends : List ℕ → Opening → Opening → Type 0
Extends behind (Head text rest) other = other ≡ Head text (rest ++ behind)
Extends behind TooLong other = other ≡ TooLong
Extends behind Begun other = Unit {0}
Extends behind Blank other = Unit {0}

extends-begun : (behind text : List ℕ) (is_long : Bool) (other : Opening) → (is_long ≡ true → other ≡ TooLong)
    → Extends behind (if is_long then TooLong else begun text) other
extends-begun behind text true other stays = stays refl
extends-begun behind [] false other stays = tt
extends-begun behind (b ∷ text) false other stays = tt

extends-head : (behind text rest : List ℕ) (fits : Bool) → Extends behind (if fits then Head text rest else TooLong) (if fits then Head text (rest ++ behind) else TooLong)
extends-head behind text rest true = refl
extends-head behind text rest false = refl

lines-append : (text behind : List ℕ) → lines_in (text ++ behind) ≡ lines_in text + lines_in behind
lines-append text behind = sum_by-append (λ b. cond (b == 10) 1 0) text behind

abbrev long_head : ℕ → ℕ → ℕ → Bool
long_head skipped size lines = nat_le head_limit (skipped + size) || nat_le line_limit lines

-- so many line ends, bytes and lines are too many, also where more follow
long-by : (skipped more size lines : ℕ) (text : List ℕ) (count : Option ℕ) → long_head skipped size lines ≡ true → skipped ≤ more
    → size ≤ length text → lines ≤ lines_in text → Later size count → MoreLines lines text count → opening_by more text count ≡ TooLong
unfolding Later MoreLines
long-by skipped more size lines text None long later fits some late much =
    let still : (nat_le head_limit (more + length text) || nat_le line_limit (lines_in text)) ≡ true = grind (arith, nat_tests) in
    rw still refl
long-by skipped more size lines text (Some n) long later fits some late much =
    let none : (nat_le (more + n) head_limit && nat_le (lines_in (take n text)) line_limit) ≡ false = grind (arith, nat_tests) in
    rw none refl

begun-stays : (skipped : ℕ) (text behind : List ℕ) (other : Opening) → head_len text ≡ None
    → other ≡ opening_by skipped (text ++ behind) (head_len (text ++ behind)) → Extends behind (opening_by skipped text None) other
begun-stays skipped text behind other none is =
    extends-begun behind text (long_head skipped (length text) (lines_in text)) other (λ long.
    is ∙ long-by skipped skipped (length text) (lines_in text) (text ++ behind) (head_len (text ++ behind)) long (le_refl skipped)
    (omega (arith, length-append text behind)) (omega (arith, lines-append text behind)) (head-later text behind none) (head-more text behind none))

opening-by-stays : (skipped : ℕ) (text behind : List ℕ) (count : Option ℕ) → head_len text ≡ count
    → Extends behind (opening_by skipped text count) (opening_by skipped (text ++ behind) (head_len (text ++ behind)))
opening-by-stays skipped text behind None found = begun-stays skipped text behind _ found refl
opening-by-stays skipped text behind (Some n) found =
    let within : n ≤ length text = head-within text n found in
    rw (head-stays text behind n found) (rw (take-append-le n text behind within) (rw (drop-append-le n text behind within)
    (extends-head behind (take n text) (drop n text) (nat_le (skipped + n) head_limit && nat_le (lines_in (take n text)) line_limit))))

no-item : (b : ℕ) (text : List ℕ) → [] ≡ b ∷ text → ⊥
no-item b text is = let P : List ℕ → ℕ = λ list. length list in let same : 0 ≡ suc (length text) = ap P is in omega arith

skipped-stays : (bytes behind : List ℕ) (b : ℕ) (text : List ℕ) → drop (prefix_len ends_line bytes) bytes ≡ b ∷ text
    → prefix_len ends_line (bytes ++ behind) ≡ prefix_len ends_line bytes
skipped-stays [] behind b text is = absurd (no-item b text is)
skipped-stays (x ∷ bytes) behind b text is =
    by (ends_line x) (λ later. skipped-stays bytes behind b text later) is
  where
    by : (skips : Bool)
        → (drop (prefix_len ends_line bytes) bytes ≡ b ∷ text → prefix_len ends_line (bytes ++ behind) ≡ prefix_len ends_line bytes)
        → drop (cond skips (1 + prefix_len ends_line bytes) 0) (x ∷ bytes) ≡ b ∷ text
        → cond skips (1 + prefix_len ends_line (bytes ++ behind)) 0 ≡ cond skips (1 + prefix_len ends_line bytes) 0
    by true stays is =
        let next : suc (prefix_len ends_line bytes) ≡ 1 + prefix_len ends_line bytes = omega arith in
        ap (λ count. 1 + count) (stays (ap (λ count. drop count (x ∷ bytes)) next ∙ is))
    by false stays is = refl

skipped-fit : (bytes : List ℕ) → prefix_len ends_line bytes ≤ length bytes
skipped-fit bytes = prefix_len-le-length ends_line bytes

skipped-grows : (bytes behind : List ℕ) → prefix_len ends_line bytes ≤ prefix_len ends_line (bytes ++ behind)
skipped-grows [] behind = omega arith
skipped-grows (x ∷ bytes) behind = by (ends_line x) (skipped-grows bytes behind)
  where
    by : (skips : Bool) → prefix_len ends_line bytes ≤ prefix_len ends_line (bytes ++ behind)
        → cond skips (1 + prefix_len ends_line bytes) 0 ≤ cond skips (1 + prefix_len ends_line (bytes ++ behind)) 0
    by true grows = omega arith
    by false grows = omega arith

-- line ends alone
blank-stays : (skipped more : ℕ) (behind text : List ℕ) → skipped ≤ more
    → Extends behind (opening_by skipped [] (head_len [])) (opening_by more text (head_len text))
unfolding head_len
blank-stays skipped more behind text grows =
    extends-begun behind [] (long_head skipped 0 0) (opening_by more text (head_len text)) (λ long.
    long-by skipped more 0 0 text (head_len text) long grows (omega arith) (omega arith) (head-later [] text refl) (some-line text))

opening-stays-by : (bytes behind text : List ℕ) → drop (prefix_len ends_line bytes) bytes ≡ text
    → Extends behind (opening bytes) (opening (bytes ++ behind))
unfolding opening
opening-stays-by bytes behind [] is =
    rw is (blank-stays (prefix_len ends_line bytes) (prefix_len ends_line (bytes ++ behind)) behind
    (drop (prefix_len ends_line (bytes ++ behind)) (bytes ++ behind)) (skipped-grows bytes behind))
opening-stays-by bytes behind (b ∷ text) is =
    rw (skipped-stays bytes behind b text is) (rw (drop-append-le (prefix_len ends_line bytes) bytes behind (skipped-fit bytes))
    (opening-by-stays (prefix_len ends_line bytes) (drop (prefix_len ends_line bytes) bytes) behind
    (head_len (drop (prefix_len ends_line bytes) bytes)) refl))

pub opening-stays : (bytes behind : List ℕ) → Extends behind (opening bytes) (opening (bytes ++ behind))
opening-stays bytes behind = opening-stays-by bytes behind (drop (prefix_len ends_line bytes) bytes) refl

-- ---- what stands first

abbrev onto : List ℕ → Front → Front
onto behind (Whole request rest) = Whole request (rest ++ behind)
onto behind other = other

abbrev IsWhole : Front → Type 0
IsWhole (Whole request rest) = Unit {0}
IsWhole _ = ⊥

front-stays : (more : ℕ) (reading : Result Sized RequestFault) (after behind : List ℕ) (request : Request) (rest : List ℕ)
    → Whole request rest ≡ front_of more reading after → Whole request (rest ++ behind) ≡ front_of more reading (after ++ behind)
front-stays more (Err fault) after behind request rest is = absurd (subst IsWhole is tt)
front-stays more (Ok sized) after behind request rest is = by (nat_le sized.body_len (length after)) refl is
  where
    by : (fits : Bool) → nat_le sized.body_len (length after) ≡ fits
        → Whole request rest ≡ (if fits then Whole (request_of more sized.head (take sized.body_len after)) (drop sized.body_len after) else Unfinished)
        → Whole request (rest ++ behind) ≡ front_of more (Ok sized) (after ++ behind)
    by true fits is =
        let within : sized.body_len ≤ length after = grind (arith, nat_tests) in
        let passes : nat_le sized.body_len (length (after ++ behind)) ≡ true = grind (arith, nat_tests, length-append after behind) in
        rw passes (rw (take-append-le sized.body_len after behind within) (rw (drop-append-le sized.body_len after behind within) (ap (onto behind) is)))
    by false fits is = absurd (subst IsWhole is tt)

whole-stays-by : (more : ℕ) (first other : Opening) (behind : List ℕ) (request : Request) (rest : List ℕ) → Extends behind first other
    → IsFrontBy more first (Whole request rest) → IsFrontBy more other (Whole request (rest ++ behind))
whole-stays-by more (Head text after) other behind request rest extends is =
    rw extends (is.0, is.1, front-stays more is.0 after behind request rest is.2)
whole-stays-by more TooLong other behind request rest extends is = absurd (subst IsWhole is tt)
whole-stays-by more Begun other behind request rest extends is = absurd (subst IsWhole is tt)
whole-stays-by more Blank other behind request rest extends is = absurd (subst IsWhole is tt)

pub whole-stays : (more : ℕ) (bytes behind : List ℕ) (request : Request) (rest : List ℕ)
    → IsFront more bytes (Whole request rest) → IsFront more (bytes ++ behind) (Whole request (rest ++ behind))
whole-stays more bytes behind request rest is =
    whole-stays-by more (opening bytes) (opening (bytes ++ behind)) behind request rest (opening-stays bytes behind) is

-- ---- refusals

abbrev IsRefusal : Front → Type 0
IsRefusal (Refuses fault) = Unit {0}
IsRefusal _ = ⊥

refusal-stays-by-reading : (more : ℕ) (reading : Result Sized RequestFault) (after later : List ℕ) (fault : RequestFault)
    → Refuses fault ≡ front_of more reading after → Refuses fault ≡ front_of more reading later
refusal-stays-by-reading more (Err other) after later fault is = is
refusal-stays-by-reading more (Ok sized) after later fault is = absurd (by (nat_le sized.body_len (length after)) (subst IsRefusal is tt))
  where
    by : (fits : Bool) → IsRefusal (if fits then Whole (request_of more sized.head (take sized.body_len after)) (drop sized.body_len after) else Unfinished) → ⊥
    by true refused = refused
    by false refused = refused

refusal-stays-by : (more : ℕ) (first other : Opening) (behind : List ℕ) (fault : RequestFault) → Extends behind first other
    → IsFrontBy more first (Refuses fault) → IsFrontBy more other (Refuses fault)
refusal-stays-by more (Head text after) other behind fault extends is =
    rw extends (is.0, is.1, refusal-stays-by-reading more is.0 after (after ++ behind) fault is.2)
refusal-stays-by more TooLong other behind fault extends is = rw extends is
refusal-stays-by more Begun other behind fault extends is = absurd (subst IsRefusal is tt)
refusal-stays-by more Blank other behind fault extends is = absurd (subst IsRefusal is tt)

pub refusal-stays : (more : ℕ) (bytes behind : List ℕ) (fault : RequestFault)
    → IsFront more bytes (Refuses fault) → IsFront more (bytes ++ behind) (Refuses fault)
refusal-stays more bytes behind fault is =
    refusal-stays-by more (opening bytes) (opening (bytes ++ behind)) behind fault (opening-stays bytes behind) is
