-- What is written out plainly is read back.
use Rattle.std.proofs.Common.{◌≡◌, ℕ, suc, ◌+◌, ◌<◌, Bool, true, false, true≢false, not, ◌==◌, cond, if◌then◌else◌, IsTrue, List, [], ◌∷◌, ◌++◌, length, take, drop, get_or, codes, Option, Some, None, Result, Ok, refl, sym, ap, ◌∙◌, append_assoc, append-nil, arith}
use Rattle.std.specs.Prelude.{flat_map}
use Rattle.std.specs.List.{AllByRecursion, list_all, prefix_len}
use Rattle.std.specs.Str.{byte}
use Rattle.std.proofs.Math.Seq.{drop-append-add, drop-append_seam, take-append_seam}
use Rattle.std.proofs.lemmas.Bool.{and_parts}
use Rattle.std.proofs.lemmas.Bool.Decides.{nat_tests}
use Rattle.std.proofs.lemmas.List.{length-append}
use Rattle.explorer_model.specs.declared.archive.Ending.{Ending}
use Rattle.explorer_model.specs.declared.archive.Ending.TheVariants.{WhiteWins, BlackWins, Drawn, Unknown}
use Rattle.explorer_model.specs.declared.archive.Parts.{Parts}
use Rattle.explorer_model.specs.declared.archive.Tag.{Tag}
use Rattle.explorer_model.specs.declared.archive.Token.{Token}
use Rattle.explorer_model.specs.declared.fault.LexFault.{LexFault}
use Rattle.explorer_model.specs.Items.{Blank, Item, Kind, Lead, Pair, Shape, Symbol, Terminates, Word, after_white, begins_symbol, closes_string, continues_symbol, ending_of, ends_line, escapes, is_of_name, is_white, items, items_from, keep_unless, kind_of_symbol, lead_of, name_at, pair_item_of, pair_of, pair_within, shape_by, shape_of, string_len, symbol_of, unescaped}
use Rattle.explorer_model.specs.Parts.{Heading, Moves, Section, meaning, parts, with_item}
use Rattle.explorer_model.specs.Stop.{◌>>=◌}
use Rattle.pgn_lex.specs.Export.{IsPlainTag, IsPlainWord, ending_text, escaped, export_parts, export_text, heading, is_special, movetext, tag_text, tokens_at, word_text}
use Rattle.pgn_lex.proofs.Steps.{items_from-front}

-- ---- items at the front

abbrev item_of : Kind → ℕ → List ℕ → Item
item_of kind place text = record { kind = kind; place = place; text = text }

-- an item, and those behind it, whether a line begins there or not
record Front (fresh : Bool) (place b : ℕ) (bytes rest : List ℕ) (kind : Kind) : Type 0 where
  next_fresh : Bool
  items_are : items_from 0 fresh place (b ∷ (bytes ++ rest))
      ≡ item_of kind place (b ∷ bytes) ∷ items_from 0 next_fresh (place + suc (length bytes)) rest

front : (fresh : Bool) (place b : ℕ) (bytes rest : List ℕ) (kind : Kind) → shape_of fresh b (bytes ++ rest) ≡ record { kind = kind; more = length bytes }
    → Front fresh place b bytes rest kind
front fresh place b bytes rest kind is =
    let shape : Shape = record { kind = kind; more = length bytes } in
    let all : List ℕ = b ∷ (bytes ++ rest) in
    record {
      next_fresh = get_or all (length bytes) 0 == 10;
      items_are = items_from-front fresh place all shape (suc (length bytes)) (omega arith) (sym is) refl
          ∙ ap (λ (xs : List ℕ). item_of kind place (b ∷ xs) ∷ items_from 0 (get_or all (length bytes) 0 == 10) (place + suc (length bytes)) (drop (length bytes) (bytes ++ rest))) (take-append_seam bytes rest)
          ∙ ap (λ (xs : List ℕ). item_of kind place (b ∷ bytes) ∷ items_from 0 (get_or all (length bytes) 0 == 10) (place + suc (length bytes)) xs) (drop-append_seam bytes rest);
    }

-- how many bytes pass from the front on, where all do up to one that does not
runs-to : (test : ℕ → Bool) (xs : List ℕ) (y : ℕ) (ys : List ℕ) → IsTrue (list_all test xs) → test y ≡ false → prefix_len test (xs ++ y ∷ ys) ≡ length xs
runs-to test [] y ys all stops = ap (λ (t : Bool). cond t (1 + prefix_len test ys) 0) stops
runs-to test (x ∷ xs) y ys all stops =
    let (first, others) = and_parts (test x) (list_all test xs) all in
    ap (λ (t : Bool). cond t (1 + prefix_len test (xs ++ y ∷ ys)) 0) first ∙ omega (arith, runs-to test xs y ys others stops)

-- ---- terminations

-- the sections outside variations, before the termination
abbrev section_of : Bool → Section
section_of true = Heading
section_of false = Moves

abbrev plain_parts : List Tag → List Token → Option Ending → Parts
plain_parts tags tokens ending = record { tags = tags; tokens = tokens; termination = ending }

ends-by : (in_heading : Bool) (item : Item) (ending : Ending) → item.kind ≡ Terminates ending → meaning (section_of in_heading) (item ∷ []) ≡ Ok (plain_parts [] [] (Some ending))
unfolding meaning
ends-by true item ending is = rw is refl
ends-by false item ending is = rw is refl

ending-by : (in_heading fresh : Bool) (place b : ℕ) (bytes : List ℕ) (ending : Ending) → shape_of fresh b (bytes ++ []) ≡ record { kind = Terminates ending; more = length bytes }
    → meaning (section_of in_heading) (items_from 0 fresh place (b ∷ bytes)) ≡ Ok (plain_parts [] [] (Some ending))
unfolding items_from
ending-by in_heading fresh place b bytes ending is =
    let first : Front fresh place b bytes [] (Terminates ending) = front fresh place b bytes [] (Terminates ending) is in
    ap (λ (xs : List ℕ). meaning (section_of in_heading) (items_from 0 fresh place (b ∷ xs))) (sym (append-nil bytes))
    ∙ ap (λ (found : List Item). meaning (section_of in_heading) found) first.items_are
    ∙ ends-by in_heading (item_of (Terminates ending) place (b ∷ bytes)) ending refl

star : (fresh : Bool) → shape_of fresh 42 [] ≡ record { kind = Terminates Unknown; more = 0 }
unfolding lead_of
star true = refl
star false = refl

ending-read : (in_heading fresh : Bool) (place : ℕ) (ending : Option Ending) → meaning (section_of in_heading) (items_from 0 fresh place (ending_text ending)) ≡ Ok (plain_parts [] [] ending)
unfolding meaning items_from lead_of symbol_of ending_of
ending-read true fresh place None = refl
ending-read false fresh place None = refl
ending-read in_heading fresh place (Some WhiteWins) = ending-by in_heading fresh place 49 (45 ∷ 48 ∷ []) WhiteWins refl
ending-read in_heading fresh place (Some BlackWins) = ending-by in_heading fresh place 48 (45 ∷ 49 ∷ []) BlackWins refl
ending-read in_heading fresh place (Some Drawn) = ending-by in_heading fresh place 49 (47 ∷ 50 ∷ 45 ∷ 49 ∷ 47 ∷ 50 ∷ []) Drawn refl
ending-read in_heading fresh place (Some Unknown) = ending-by in_heading fresh place 42 [] Unknown (star fresh)

-- ---- words

symbol-is-not-white : (b : ℕ) → begins_symbol b ≡ true → is_white b ≡ false
symbol-is-not-white b is = grind (arith, nat_tests)

leads-symbol : (fresh : Bool) (b : ℕ) → begins_symbol b ≡ true → lead_of fresh b ≡ Symbol
unfolding lead_of
leads-symbol fresh b is = rw (symbol-is-not-white b is, is) refl

word-shape : (fresh : Bool) (b : ℕ) (bytes rest : List ℕ) → begins_symbol b ≡ true → IsTrue (list_all continues_symbol bytes) → kind_of_symbol (b ∷ bytes) ≡ Word
    → shape_of fresh b (bytes ++ 32 ∷ rest) ≡ record { kind = Word; more = length bytes }
unfolding symbol_of
word-shape fresh b bytes rest begins continues kind =
    let run : prefix_len continues_symbol (bytes ++ 32 ∷ rest) ≡ length bytes = runs-to continues_symbol bytes 32 rest continues refl in
    ap (λ (lead : Lead). shape_by lead b (bytes ++ 32 ∷ rest)) (leads-symbol fresh b begins)
    ∙ ap (λ (more : ℕ). let shape : Shape = record { kind = kind_of_symbol (b ∷ take more (bytes ++ 32 ∷ rest)); more = more } in shape) run
    ∙ ap (λ (xs : List ℕ). let shape : Shape = record { kind = kind_of_symbol (b ∷ xs); more = length bytes } in shape) (take-append_seam bytes (32 ∷ rest))
    ∙ ap (λ (kind : Kind). let shape : Shape = record { kind = kind; more = length bytes } in shape) kind

-- a word and a blank before what is read in the movetext
word-meaning : (in_heading : Bool) (place blank_place : ℕ) (word blank : List ℕ) (rest : List Item) (tokens : List Token) (ending : Option Ending)
    → meaning Moves rest ≡ Ok (plain_parts [] tokens ending)
    → meaning (section_of in_heading) (item_of Word place word ∷ item_of Blank blank_place blank ∷ rest) ≡ Ok (plain_parts [] (record { place = place; text = word } ∷ tokens) ending)
unfolding meaning
word-meaning true place blank_place word blank rest tokens ending is =
    ap (λ (found : Result Parts LexFault). (found >>= λ parts. Ok (with_item Moves (item_of Blank blank_place blank) parts)) >>= λ parts. Ok (with_item Heading (item_of Word place word) parts)) is
word-meaning false place blank_place word blank rest tokens ending is =
    ap (λ (found : Result Parts LexFault). (found >>= λ parts. Ok (with_item Moves (item_of Blank blank_place blank) parts)) >>= λ parts. Ok (with_item Moves (item_of Word place word) parts)) is

words-read : (in_heading fresh : Bool) (place : ℕ) (words : List (List ℕ)) (ending : Option Ending) → AllByRecursion IsPlainWord words
    → meaning (section_of in_heading) (items_from 0 fresh place (movetext words ending)) ≡ Ok (plain_parts [] (tokens_at place words) ending)
unfolding lead_of
words-read in_heading fresh place [] ending all = ending-read in_heading fresh place ending
words-read in_heading fresh place ([] ∷ words) ending all = absurd (true≢false (sym all.0.symbol))
words-read in_heading fresh place ((b ∷ bytes) ∷ words) ending all =
    let (begins, continues) = and_parts (begins_symbol b) (list_all continues_symbol bytes) all.0.symbol in
    let rest : List ℕ = movetext words ending in
    let word : Front fresh place b bytes (32 ∷ rest) Word = front fresh place b bytes (32 ∷ rest) Word (word-shape fresh b bytes rest begins continues all.0.kind) in
    let blank_place : ℕ = place + suc (length bytes) in
    let blank : Front word.next_fresh blank_place 32 [] rest Blank = front word.next_fresh blank_place 32 [] rest Blank refl in
    let next : ℕ = place + length (word_text (b ∷ bytes)) in
    let place_is : blank_place + 1 ≡ next = omega (arith, length-append bytes (codes " ")) in
    let split : movetext ((b ∷ bytes) ∷ words) ending ≡ b ∷ (bytes ++ 32 ∷ rest) =
    ap (λ (xs : List ℕ). b ∷ (xs ++ ending_text ending)) (append_assoc bytes (codes " ") (flat_map word_text words))
    ∙ ap (λ (xs : List ℕ). b ∷ xs) (append_assoc bytes (32 ∷ flat_map word_text words) (ending_text ending)) in
    ap (λ (text : List ℕ). meaning (section_of in_heading) (items_from 0 fresh place text)) split
    ∙ ap (λ (found : List Item). meaning (section_of in_heading) found) word.items_are
    ∙ ap (λ (found : List Item). meaning (section_of in_heading) (item_of Word place (b ∷ bytes) ∷ found)) blank.items_are
    ∙ word-meaning in_heading place blank_place (b ∷ bytes) (32 ∷ []) (items_from 0 blank.next_fresh (blank_place + 1) rest) (tokens_at next words) ending
    (ap (λ (n : ℕ). meaning Moves (items_from 0 blank.next_fresh n rest)) place_is ∙ words-read false blank.next_fresh next words ending all.1)

-- ---- tag pairs

name-is-not-white : (b : ℕ) → is_of_name b ≡ true → is_white b ≡ false
name-is-not-white b is = grind (arith, nat_tests)

not-escaped : (b : ℕ) → is_special b ≡ false → closes_string false b ≡ false
not-escaped b is = grind (arith, nat_tests)

no-backslash : (b : ℕ) → is_special b ≡ false → (b == byte "\\") ≡ false
no-backslash b is = grind (arith, nat_tests)

special-ends-no-line : (b : ℕ) → is_special b ≡ true → ends_line b ≡ false
special-ends-no-line b is = grind (arith, nat_tests)

escaped-closes-none : (b : ℕ) → closes_string true b ≡ false
escaped-closes-none b = grind (arith, nat_tests)

ends-no-line : (b : ℕ) → not (ends_line b) ≡ true → ends_line b ≡ false
ends-no-line b is = grind (arith, nat_tests)

-- ---- strings

string-goes-on : (state : Bool) (b : ℕ) (bytes : List ℕ) (next : Bool) (count : ℕ) → closes_string state b ≡ false → ends_line b ≡ false → escapes state b bytes ≡ next
    → string_len next bytes ≡ Some count → string_len state (b ∷ bytes) ≡ Some (count + 1)
unfolding string_len
string-goes-on state b bytes next count unclosed whole is found = rw (unclosed, whole, is, found) refl

escapes-special : (b : ℕ) (bytes : List ℕ) → is_special b ≡ true → escapes false 92 (b ∷ bytes) ≡ true
escapes-special b bytes is = is

escapes-none : (b : ℕ) (bytes : List ℕ) → is_special b ≡ false → escapes false b bytes ≡ false
escapes-none b bytes is = rw (no-backslash b is) refl

string-read-at : (b : ℕ) (value rest : List ℕ) → ends_line b ≡ false → string_len false (escaped value ++ 34 ∷ rest) ≡ Some (length (escaped value))
    → (special : Bool) → is_special b ≡ special → string_len false ((if special then 92 ∷ b ∷ escaped value else b ∷ escaped value) ++ 34 ∷ rest) ≡ Some (length (if special then 92 ∷ b ∷ escaped value else b ∷ escaped value))
unfolding string_len
string-read-at b value rest whole found true is =
    let back : List ℕ = escaped value ++ 34 ∷ rest in
    string-goes-on false 92 (b ∷ back) true (length (escaped value) + 1) refl refl (escapes-special b back is)
    (string-goes-on true b back false (length (escaped value)) (escaped-closes-none b) whole refl found)
    ∙ ap (λ (n : ℕ). Some n) (omega arith)
string-read-at b value rest whole found false is =
    let back : List ℕ = escaped value ++ 34 ∷ rest in
    string-goes-on false b back false (length (escaped value)) (not-escaped b is) whole (escapes-none b back is) found
    ∙ ap (λ (n : ℕ). Some n) (omega arith)

string-read : (value rest : List ℕ) → IsTrue (list_all (λ b. not (ends_line b)) value) → string_len false (escaped value ++ 34 ∷ rest) ≡ Some (length (escaped value))
unfolding string_len
string-read [] rest all = refl
string-read (b ∷ value) rest all =
    let (first, others) = and_parts (not (ends_line b)) (list_all (λ b. not (ends_line b)) value) all in
    string-read-at b value rest (ends-no-line b first) (string-read value rest others) (is_special b) refl

value-goes-on : (state : Bool) (b : ℕ) (bytes : List ℕ) → escapes state b bytes ≡ false → unescaped state (b ∷ bytes) ≡ b ∷ unescaped false bytes
unfolding unescaped
value-goes-on state b bytes is = ap (λ (next : Bool). keep_unless next b (unescaped next bytes)) is

value-skips : (state : Bool) (b : ℕ) (bytes : List ℕ) → escapes state b bytes ≡ true → unescaped state (b ∷ bytes) ≡ unescaped true bytes
unfolding unescaped
value-skips state b bytes is = ap (λ (next : Bool). keep_unless next b (unescaped next bytes)) is

value-read-at : (b : ℕ) (value : List ℕ) → unescaped false (escaped value) ≡ value → (special : Bool) → is_special b ≡ special
    → unescaped false (if special then 92 ∷ b ∷ escaped value else b ∷ escaped value) ≡ b ∷ value
value-read-at b value read true is =
    value-skips false 92 (b ∷ escaped value) (escapes-special b (escaped value) is)
    ∙ value-goes-on true b (escaped value) refl
    ∙ ap (λ (xs : List ℕ). b ∷ xs) read
value-read-at b value read false is =
    value-goes-on false b (escaped value) (escapes-none b (escaped value) is) ∙ ap (λ (xs : List ℕ). b ∷ xs) read

value-read : (value : List ℕ) → unescaped false (escaped value) ≡ value
unfolding unescaped
value-read [] = refl
value-read (b ∷ value) = value-read-at b value (value-read value) (is_special b) refl

-- ---- pairs

not-zero : (n : ℕ) → (suc n == 0) ≡ false
not-zero n = grind (arith, nat_tests)

abbrev named_up_to : Bool → List ℕ → List ℕ → Option (List ℕ × List ℕ)
named_up_to none name rest = if none then None else Some (name, rest)

name-read : (n : ℕ) (name rest : List ℕ) → IsTrue (list_all is_of_name (n ∷ name)) → name_at ((n ∷ name) ++ 32 ∷ rest) ≡ Some (n ∷ name, 32 ∷ rest)
unfolding name_at
name-read n name rest all =
    let text : List ℕ = (n ∷ name) ++ 32 ∷ rest in
    let run : prefix_len is_of_name text ≡ length (n ∷ name) = runs-to is_of_name (n ∷ name) 32 rest all refl in
    ap (λ (count : ℕ). named_up_to (count == 0) (take count text) (drop count text)) run
    ∙ ap (λ (none : Bool). named_up_to none (take (length (n ∷ name)) text) (drop (length (n ∷ name)) text)) (not-zero (length name))
    ∙ ap (λ (xs : List ℕ). named_up_to false xs (drop (length (n ∷ name)) text)) (take-append_seam (n ∷ name) (32 ∷ rest))
    ∙ ap (λ (xs : List ℕ). named_up_to false (n ∷ name) xs) (drop-append_seam (n ∷ name) (32 ∷ rest))

no-white : (b : ℕ) (bytes : List ℕ) → is_white b ≡ false → after_white (b ∷ bytes) ≡ b ∷ bytes
no-white b bytes is = ap (λ (white : Bool). drop (cond white (1 + prefix_len is_white bytes) 0) (b ∷ bytes)) is

-- behind the name, the quote, the string and its quote
pair-by : (n : ℕ) (name value rest : List ℕ) → is_white n ≡ false → name_at ((n ∷ name) ++ 32 ∷ 34 ∷ (escaped value ++ 34 ∷ 93 ∷ rest)) ≡ Some (n ∷ name, 32 ∷ 34 ∷ (escaped value ++ 34 ∷ 93 ∷ rest))
    → string_len false (escaped value ++ 34 ∷ 93 ∷ rest) ≡ Some (length (escaped value)) → take (length (escaped value)) (escaped value ++ 34 ∷ 93 ∷ rest) ≡ escaped value
    → drop (length (escaped value) + 1) (escaped value ++ 34 ∷ 93 ∷ rest) ≡ 93 ∷ rest → unescaped false (escaped value) ≡ value
    → pair_of ((n ∷ name) ++ 32 ∷ 34 ∷ (escaped value ++ 34 ∷ 93 ∷ rest)) ≡ Some (record { name = n ∷ name; value = value }, rest)
unfolding pair_of
pair-by n name value rest white named counted taken dropped read =
    rw (no-white n (name ++ 32 ∷ 34 ∷ (escaped value ++ 34 ∷ 93 ∷ rest)) white, named, counted, taken, dropped, read) refl

pair-read : (n : ℕ) (name value rest : List ℕ) → IsTrue (list_all is_of_name (n ∷ name)) → IsTrue (list_all (λ b. not (ends_line b)) value)
    → pair_of ((n ∷ name) ++ 32 ∷ 34 ∷ (escaped value ++ 34 ∷ 93 ∷ rest)) ≡ Some (record { name = n ∷ name; value = value }, rest)
pair-read n name value rest named whole =
    let (first, others) = and_parts (is_of_name n) (list_all is_of_name name) named in
    pair-by n name value rest (name-is-not-white n first) (name-read n name (34 ∷ (escaped value ++ 34 ∷ 93 ∷ rest)) named)
    (string-read value (93 ∷ rest) whole) (take-append_seam (escaped value) (34 ∷ 93 ∷ rest))
    (drop-append-add (escaped value) (34 ∷ 93 ∷ rest) 1) (value-read value)

-- a pair's bytes behind its bracket
abbrev within : Tag → List ℕ
within tag = tag.name ++ 32 ∷ 34 ∷ (escaped tag.value ++ 34 ∷ 93 ∷ [])

leads-bracket : (fresh : Bool) (bytes : List ℕ) → shape_of fresh 91 bytes ≡ pair_item_of bytes
unfolding lead_of
leads-bracket true bytes = refl
leads-bracket false bytes = refl

within-split : (name value rest : List ℕ) → (name ++ 32 ∷ 34 ∷ (value ++ 34 ∷ 93 ∷ [])) ++ rest ≡ name ++ 32 ∷ 34 ∷ (value ++ 34 ∷ 93 ∷ rest)
within-split name value rest =
    append_assoc name (32 ∷ 34 ∷ (value ++ 34 ∷ 93 ∷ [])) rest
    ∙ ap (λ (xs : List ℕ). name ++ 32 ∷ 34 ∷ xs) (append_assoc value (34 ∷ 93 ∷ []) rest)

pair-shape-by : (fresh : Bool) (tag : Tag) (rest : List ℕ) → pair_of (within tag ++ rest) ≡ Some (tag, rest)
    → shape_of fresh 91 (within tag ++ rest) ≡ record { kind = Pair tag; more = length (within tag) }
unfolding pair_item_of
pair-shape-by fresh tag rest is =
    leads-bracket fresh (within tag ++ rest)
    ∙ ap (λ (found : Option (Tag × List ℕ)). pair_within (within tag ++ rest) found) is
    ∙ ap (λ (more : ℕ). let shape : Shape = record { kind = Pair tag; more = more } in shape) (omega (arith, length-append (within tag) rest))

pair-at : (name value rest : List ℕ) → 0 < length name → IsTrue (list_all is_of_name name) → IsTrue (list_all (λ b. not (ends_line b)) value)
    → pair_of (name ++ 32 ∷ 34 ∷ (escaped value ++ 34 ∷ 93 ∷ rest)) ≡ Some (record { name = name; value = value }, rest)
pair-at [] value rest some named whole = absurd (omega (arith, some))
pair-at (n ∷ name) value rest some named whole = pair-read n name value rest named whole

pair-shape : (fresh : Bool) (tag : Tag) (rest : List ℕ) → IsPlainTag tag → shape_of fresh 91 (within tag ++ rest) ≡ record { kind = Pair tag; more = length (within tag) }
pair-shape fresh tag rest plain =
    pair-shape-by fresh tag rest
    (ap pair_of (within-split tag.name (escaped tag.value) rest) ∙ pair-at tag.name tag.value rest plain.some plain.name plain.value)

-- a pair and a blank before what is read in the heading
pair-meaning : (tag : Tag) (place blank_place : ℕ) (text blank : List ℕ) (rest : List Item) (tags : List Tag) (tokens : List Token) (ending : Option Ending)
    → meaning Heading rest ≡ Ok (plain_parts tags tokens ending)
    → meaning Heading (item_of (Pair tag) place text ∷ item_of Blank blank_place blank ∷ rest) ≡ Ok (plain_parts (tag ∷ tags) tokens ending)
unfolding meaning
pair-meaning tag place blank_place text blank rest tags tokens ending is =
    ap (λ (found : Result Parts LexFault). (found >>= λ parts. Ok (with_item Heading (item_of Blank blank_place blank) parts)) >>= λ parts. Ok (with_item Heading (item_of (Pair tag) place text) parts)) is

tag-split : (tag : Tag) (rest : List ℕ) → tag_text tag ++ rest ≡ 91 ∷ (within tag ++ 10 ∷ rest)
tag-split tag rest =
    ap (λ (xs : List ℕ). 91 ∷ xs) (append_assoc tag.name (codes " \"" ++ (escaped tag.value ++ codes "\"]\n")) rest
    ∙ ap (λ (xs : List ℕ). tag.name ++ 32 ∷ 34 ∷ xs) (append_assoc (escaped tag.value) (codes "\"]\n") rest)
    ∙ sym (within-split tag.name (escaped tag.value) (10 ∷ rest)))

tag-length : (tag : Tag) → length (tag_text tag) ≡ suc (length (within tag)) + 1
tag-length tag = omega (
  arith,
  length-append tag.name (codes " \"" ++ (escaped tag.value ++ codes "\"]\n")),
  length-append (escaped tag.value) (codes "\"]\n"),
  length-append tag.name (32 ∷ 34 ∷ (escaped tag.value ++ 34 ∷ 93 ∷ [])),
  length-append (escaped tag.value) (34 ∷ 93 ∷ []),
)

tags-read : (fresh : Bool) (place : ℕ) (tags : List Tag) (words : List (List ℕ)) (ending : Option Ending) → AllByRecursion IsPlainTag tags → AllByRecursion IsPlainWord words
    → meaning Heading (items_from 0 fresh place (heading tags ++ movetext words ending)) ≡ Ok (plain_parts tags (tokens_at (place + length (heading tags)) words) ending)
unfolding lead_of
tags-read fresh place [] words ending all each =
    words-read true fresh place words ending each
    ∙ ap (λ (n : ℕ). Ok (plain_parts [] (tokens_at n words) ending)) (omega arith)
tags-read fresh place (tag ∷ tags) words ending all each =
    let rest : List ℕ = heading tags ++ movetext words ending in
    let pair : Front fresh place 91 (within tag) (10 ∷ rest) (Pair tag) = front fresh place 91 (within tag) (10 ∷ rest) (Pair tag) (pair-shape fresh tag (10 ∷ rest) all.0) in
    let blank_place : ℕ = place + suc (length (within tag)) in
    let blank : Front pair.next_fresh blank_place 10 [] rest Blank = front pair.next_fresh blank_place 10 [] rest Blank refl in
    let behind : (blank_place + 1) + length (heading tags) ≡ place + length (heading (tag ∷ tags)) = omega (arith, tag-length tag, length-append (tag_text tag) (heading tags)) in
    let split : heading (tag ∷ tags) ++ movetext words ending ≡ 91 ∷ (within tag ++ 10 ∷ rest) =
    append_assoc (tag_text tag) (heading tags) (movetext words ending) ∙ tag-split tag rest in
    ap (λ (text : List ℕ). meaning Heading (items_from 0 fresh place text)) split
    ∙ ap (λ (found : List Item). meaning Heading found) pair.items_are
    ∙ ap (λ (found : List Item). meaning Heading (item_of (Pair tag) place (91 ∷ within tag) ∷ found)) blank.items_are
    ∙ pair-meaning tag place blank_place (91 ∷ within tag) (10 ∷ []) (items_from 0 blank.next_fresh (blank_place + 1) rest) tags (tokens_at ((blank_place + 1) + length (heading tags)) words) ending
    (tags-read blank.next_fresh (blank_place + 1) tags words ending all.1 each)
    ∙ ap (λ (n : ℕ). Ok (plain_parts (tag ∷ tags) (tokens_at n words) ending)) behind

pub exported : (tags : List Tag) (words : List (List ℕ)) (ending : Option Ending) → AllByRecursion IsPlainTag tags → AllByRecursion IsPlainWord words
    → parts (export_text tags words ending) ≡ Ok (export_parts tags words ending)
unfolding parts items
exported tags words ending all each =
    tags-read true 0 tags words ending all each ∙ ap (λ (n : ℕ). Ok (plain_parts tags (tokens_at n words) ending)) (omega arith)
