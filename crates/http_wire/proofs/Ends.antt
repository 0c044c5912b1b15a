-- The end of a head, found byte by byte.
use Rattle.std.proofs.Common.{◌≡◌, ◌⊎◌, inl, inr, ℕ, ◌+◌, ◌<◌, ◌≤◌, ◌==◌, Bool, true, false, ◌&&◌, ◌||◌, nat_le, if◌then◌else◌, List, [], ◌∷◌, ◌++◌, length, take, drop, get_or, bytes_eq, Option, Some, None, option_map, refl, sym, ap, ◌∙◌, subst, arith, append_assoc, length-append}
use Rattle.std.specs.Option.{option_or}
use Rattle.std.proofs.lemmas.List.{take_more, take_all, take-append-drop, length-take-le, append-nil}
use Rattle.std.proofs.lemmas.Bool.Decides.{nat_tests}
use Rattle.explorer_model.specs.Wire.{head_limit, line_limit, empty_line, head_len, lines_in, Opening, Head, TooLong, Begun, begun, opening_by}
use Rattle.http_wire.specs.declared.head.Stage.{Stage}
use Rattle.http_wire.specs.declared.head.Stage.TheVariants.{Inside, LineEnd, Return, Whole}
use Rattle.http_wire.specs.Scanning.{stage_after, is_whole, one_more, ends_from, IsScanned, IsSight}
use Rattle.http_wire.specs.declared.head.Sight.TheVariants as sights

abbrev ends_now : List ℕ → Bool
ends_now bytes = bytes_eq (take 1 bytes) (10 ∷ [])

-- where the head ends, at each stage
record Agrees (bytes : List ℕ) : Type 0 where
  inside : ends_from Inside bytes ≡ head_len bytes
  line_end : ends_from LineEnd bytes ≡ option_or (empty_line bytes) (head_len bytes)
  return : ends_from Return bytes ≡ (if ends_now bytes then Some 1 else head_len bytes)

inside-by : (is_10 : Bool) (bytes : List ℕ) → Agrees bytes
    → one_more (ends_from (if is_10 then LineEnd else Inside) bytes)
    ≡ one_more (option_or (if is_10 then empty_line bytes else None) (head_len bytes))
inside-by true bytes agrees = ap one_more agrees.line_end
inside-by false bytes agrees = ap one_more agrees.inside

return-two : (now : Bool) (bytes : List ℕ) → ends_from Return bytes ≡ (if now then Some 1 else head_len bytes)
    → one_more (ends_from Return bytes)
    ≡ option_or (if now then Some 2 else None) (one_more (head_len bytes))
return-two true bytes is = ap one_more is
return-two false bytes is = ap one_more is

line-end-by : (is_10 is_13 : Bool) (bytes : List ℕ) → Agrees bytes
    → one_more (ends_from (if is_10 then Whole else (if is_13 then Return else Inside)) bytes)
    ≡ option_or (if is_10 && true then Some 1 else (if is_13 && ends_now bytes then Some 2 else None))
    (one_more (option_or (if is_10 then empty_line bytes else None) (head_len bytes)))
unfolding ends_from
line-end-by true is_13 bytes agrees = refl
line-end-by false true bytes agrees = return-two (ends_now bytes) bytes agrees.return
line-end-by false false bytes agrees = ap one_more agrees.inside

return-by : (is_10 : Bool) (bytes : List ℕ) → Agrees bytes
    → one_more (ends_from (if is_10 then Whole else Inside) bytes)
    ≡ (if is_10 && true then Some 1 else one_more (option_or (if is_10 then empty_line bytes else None) (head_len bytes)))
unfolding ends_from
return-by true bytes agrees = refl
return-by false bytes agrees = ap one_more agrees.inside

agrees : (bytes : List ℕ) → Agrees bytes
unfolding ends_from head_len
agrees [] = record { inside = refl; line_end = refl; return = refl }
agrees (b ∷ bytes) =
    let behind = agrees bytes in
    record {
      inside = inside-by (b == 10) bytes behind;
      line_end = line-end-by (b == 10) (b == 13) bytes behind;
      return = return-by (b == 10) bytes behind;
    }

pub ends-inside : (bytes : List ℕ) → head_len bytes ≡ ends_from Inside bytes
ends-inside bytes = sym (agrees bytes).inside

plus-none : (found : Option ℕ) → found ≡ option_map (λ count. count + 0) found
plus-none None = refl
plus-none (Some n) = let same : n ≡ n + 0 = omega arith in ap Some same

pub scanned-none : (text : List ℕ) → IsScanned (take 0 text) 0 Inside
scanned-none text = record {
  counted = refl;
  ahead = λ rest. ends-inside rest ∙ plus-none (ends_from Inside rest);
}

-- one byte more
next-by : (stage : Stage) (b : ℕ) (rest : List ℕ) → is_whole stage ≡ false
    → ends_from stage (b ∷ rest) ≡ one_more (ends_from (stage_after stage b) rest)
unfolding ends_from
next-by Inside b rest goes_on = refl
next-by LineEnd b rest goes_on = refl
next-by Return b rest goes_on = refl
next-by Whole b rest goes_on = cc

plus-more : (found : Option ℕ) (size more : ℕ) → more ≡ size + 1
    → option_map (λ count. count + size) (one_more found) ≡ option_map (λ count. count + more) found
plus-more None size more is = refl
plus-more (Some n) size more is = let same : n + 1 + size ≡ n + more = omega arith in ap Some same

pub scanned-more : (bytes : List ℕ) (b lines more : ℕ) (stage : Stage)
    → is_whole stage ≡ false → more ≡ lines_in (bytes ++ b ∷ []) → IsScanned bytes lines stage
    → IsScanned (bytes ++ b ∷ []) more (stage_after stage b)
scanned-more bytes b lines more stage goes_on counted scanned = record {
  counted = counted;
  ahead = λ rest.
      ap head_len (append_assoc bytes (b ∷ []) rest)
      ∙ scanned.ahead (b ∷ rest)
      ∙ ap (option_map (λ count. count + length bytes)) (next-by stage b rest goes_on)
      ∙ plus-more (ends_from (stage_after stage b) rest) (length bytes) (length (bytes ++ b ∷ []))
      (length-append bytes (b ∷ []));
}

-- the same at a place of a text
pub scanned-next : (text : List ℕ) (at lines more : ℕ) (stage : Stage) → at < length text
    → is_whole stage ≡ false → more ≡ lines_in (take (at + 1) text)
    → IsScanned (take at text) lines stage
    → IsScanned (take (at + 1) text) more (stage_after stage (get_or text at 0))
scanned-next text at lines more stage inside goes_on counted scanned =
    let next : take (at + 1) text ≡ take at text ++ get_or text at 0 ∷ [] = take_more text at 0 inside in
    subst (λ bytes. IsScanned bytes more (stage_after stage (get_or text at 0))) (sym next)
    (scanned-more (take at text) (get_or text at 0) lines more stage goes_on (counted ∙ ap lines_in next) scanned)

-- ---- what a text opens with, once it is scanned

whole-now : (stage : Stage) (rest : List ℕ) → is_whole stage ≡ true → ends_from stage rest ≡ Some 0
unfolding ends_from
whole-now Whole rest is = refl
whole-now Inside rest is = cc
whole-now LineEnd rest is = cc
whole-now Return rest is = cc

none-yet : (stage : Stage) → is_whole stage ≡ false → ends_from stage [] ≡ None
unfolding ends_from
none-yet Whole is = cc
none-yet Inside is = refl
none-yet LineEnd is = refl
none-yet Return is = refl

head-whole : (text : List ℕ) (at lines : ℕ) (stage : Stage) → at ≤ length text → is_whole stage ≡ true
    → IsScanned (take at text) lines stage → head_len text ≡ Some at
head-whole text at lines stage within whole scanned =
    let size : 0 + length (take at text) ≡ at = omega (arith, length-take-le at text within) in
    ap head_len (sym (take-append-drop at text))
    ∙ scanned.ahead (drop at text)
    ∙ ap (option_map (λ count. count + length (take at text))) (whole-now stage (drop at text) whole)
    ∙ ap Some size

head-open : (text : List ℕ) (at lines : ℕ) (stage : Stage) → at ≡ length text → is_whole stage ≡ false
    → IsScanned (take at text) lines stage → head_len text ≡ None
head-open text at lines stage all goes_on scanned =
    let same : take at text ++ [] ≡ text = append-nil (take at text) ∙ take_all at text (omega arith) in
    ap head_len (sym same)
    ∙ scanned.ahead []
    ∙ ap (option_map (λ count. count + length (take at text))) (none-yet stage goes_on)

lines-open : (text : List ℕ) (at lines : ℕ) (stage : Stage) → at ≡ length text
    → IsScanned (take at text) lines stage → lines ≡ lines_in text
lines-open text at lines stage all scanned = scanned.counted ∙ ap lines_in (take_all at text (omega arith))

pub sight-whole : (skipped : ℕ) (text : List ℕ) (at lines : ℕ) (stage : Stage) → at ≤ length text
    → is_whole stage ≡ true → IsScanned (take at text) lines stage
    → skipped + at ≤ head_limit → lines ≤ line_limit
    → IsSight (sights.Whole at) skipped text
sight-whole skipped text at lines stage within whole scanned fits few =
    let short : nat_le (skipped + at) head_limit ≡ true = grind (arith, nat_tests) in
    let lines_fit : nat_le (lines_in (take at text)) line_limit ≡ true = grind (arith, nat_tests, scanned.counted) in
    (within, ap (opening_by skipped text) (head-whole text at lines stage within whole scanned) ∙ rw (short, lines_fit) refl)

pub sight-long : (skipped : ℕ) (text : List ℕ) (at lines : ℕ) (stage : Stage) → at ≤ length text
    → is_whole stage ≡ true → IsScanned (take at text) lines stage
    → (head_limit < skipped + at) ⊎ (line_limit < lines)
    → IsSight sights.TooLong skipped text
sight-long skipped text at lines stage within whole scanned (inl long) =
    let short : nat_le (skipped + at) head_limit ≡ false = grind (arith, nat_tests) in
    ap (opening_by skipped text) (head-whole text at lines stage within whole scanned) ∙ rw short refl
sight-long skipped text at lines stage within whole scanned (inr many) =
    let lines_fit : nat_le (lines_in (take at text)) line_limit ≡ false = grind (arith, nat_tests, scanned.counted) in
    ap (opening_by skipped text) (head-whole text at lines stage within whole scanned)
    ∙ both-false (nat_le (skipped + at) head_limit) _ (Head (take at text) (drop at text)) lines_fit
  where
    both-false : (a b : Bool) (head : Opening) → b ≡ false → (if a && b then head else TooLong) ≡ TooLong
    both-false true b head is = rw is refl
    both-false false b head is = refl

pub sight-full : (skipped : ℕ) (text : List ℕ) (at lines : ℕ) (stage : Stage) → at ≡ length text
    → is_whole stage ≡ false → IsScanned (take at text) lines stage
    → (head_limit ≤ skipped + length text) ⊎ (line_limit ≤ lines)
    → IsSight sights.TooLong skipped text
sight-full skipped text at lines stage all goes_on scanned (inl long) =
    let full : nat_le head_limit (skipped + length text) ≡ true = grind (arith, nat_tests) in
    ap (opening_by skipped text) (head-open text at lines stage all goes_on scanned) ∙ rw full refl
sight-full skipped text at lines stage all goes_on scanned (inr many) =
    let full : nat_le line_limit (lines_in text) ≡ true = grind (arith, nat_tests, lines-open text at lines stage all scanned) in
    ap (opening_by skipped text) (head-open text at lines stage all goes_on scanned)
    ∙ either-true (nat_le head_limit (skipped + length text)) _ (begun text) full
  where
    either-true : (a b : Bool) (other : Opening) → b ≡ true → (if a || b then TooLong else other) ≡ TooLong
    either-true true b other is = refl
    either-true false b other is = rw is refl

begun-some : (text : List ℕ) → 0 < length text → begun text ≡ Begun
begun-some [] some = absurd (omega arith)
begun-some (b ∷ text) some = refl

pub sight-begun : (skipped : ℕ) (text : List ℕ) (at lines : ℕ) (stage : Stage) → at ≡ length text
    → is_whole stage ≡ false → IsScanned (take at text) lines stage → 0 < length text
    → skipped + length text < head_limit → lines < line_limit
    → IsSight sights.Begun skipped text
sight-begun skipped text at lines stage all goes_on scanned some short few =
    let room : nat_le head_limit (skipped + length text) ≡ false = grind (arith, nat_tests) in
    let lines_fit : nat_le line_limit (lines_in text) ≡ false = grind (arith, nat_tests, lines-open text at lines stage all scanned) in (
      short,
      ap (opening_by skipped text) (head-open text at lines stage all goes_on scanned)
          ∙ rw (room, lines_fit) (begun-some text some),
    )
