-- Tokens are the words of a text.
use Rattle.std.proofs.Common.{◌≡◌, ◌==◌, ℕ, zero, suc, ◌+◌, ◌-◌, ◌<◌, ◌≤◌, inl, inr, Bool, true, false, true≢false, not, ◌&&◌, ◌||◌, IsTrue, List, [], ◌∷◌, length, take, drop, position, Option, Some, None, Result, Ok, Err, ok_or, IfOk, IfSome, cond, refl, sym, ap, subst, ◌∙◌, add-one, arith}
use Rattle.std.specs.Char.{is_ascii_digit}
use Rattle.std.specs.List.{All, AllByRecursion, list_all, prefix_len}
use Rattle.std.proofs.lemmas.Bool.{cases_lt, eqb-true, eqb-false, false_from_ne_true}
use Rattle.std.proofs.lemmas.List.{at_drop_all, drop-drop, length-drop, length-take}
use Rattle.std.proofs.lemmas.List.Elements.{All-from_recursion, All-same}
use Rattle.explorer_model.specs.declared.archive.Parts.{Parts}
use Rattle.explorer_model.specs.declared.archive.Tag.{Tag}
use Rattle.explorer_model.specs.declared.archive.Token.{Token}
use Rattle.explorer_model.specs.declared.fault.LexFault.{LexFault}
use Rattle.explorer_model.specs.Items.{Kind, Blank, Pair, Terminates, Word, Dropped, Opens, Closes, Wrong, Lead, White, Comment, Remark, Bracket, Symbol, Star, Mark, Dollar, Opening, Closing, Other, Item, Shape, begins_symbol, comment_of, comment_up_to, continues_symbol, is_mark, is_white, items, items_from, kind_of_symbol, lead_of, lead_of_comment, nag_of, one_byte, pair_item_of, pair_of, pair_within, remark_of, shape_by, symbol_of}
use Rattle.explorer_model.specs.Parts.{Section, Heading, Moves, Variation, Ended, after, after_in_moves, after_in_variation, at_end, with_kind, with_item, meaning, parts}
use Rattle.explorer_model.specs.Stop.{◌>>=◌}
use Rattle.pgn_lex.specs.Export.{IsPlainWord, begins_well}
use Rattle.pgn_lex.specs.Items.{begins_line, shape_at, item_at}
use Rattle.pgn_lex.specs.Laws.{IsWordAt, ends_symbol, is_word, open_behind, words_outside}
use Rattle.pgn_lex.specs.Reading.{depth_of, token_of}
use Rattle.pgn_lex.proofs.Rows.{length-item_at, item_at-stands}
use Rattle.pgn_lex.proofs.Shapes.{shape_at-within}
use Rattle.pgn_lex.proofs.Steps.{items_from-step}

-- ---- a symbol has all bytes that continue it

one-passes : (test : ℕ → Bool) (b : ℕ) (bytes : List ℕ) (passes : Bool) → test b ≡ passes → list_all test (take (prefix_len test bytes) bytes) ≡ true
    → list_all test (take (cond passes (1 + prefix_len test bytes) 0) (b ∷ bytes)) ≡ true
one-passes test b bytes true e rest =
    let count : 1 + prefix_len test bytes ≡ suc (prefix_len test bytes) = omega arith in
    ap (λ (n : ℕ). list_all test (take n (b ∷ bytes))) count ∙ ap (λ (x : Bool). x && list_all test (take (prefix_len test bytes) bytes)) e ∙ rest
one-passes test b bytes false e rest = refl

run-passes : (test : ℕ → Bool) (bytes : List ℕ) → list_all test (take (prefix_len test bytes) bytes) ≡ true
run-passes test [] = refl
run-passes test (b ∷ bytes) = one-passes test b bytes (test b) refl (run-passes test bytes)

one-ends : (b : ℕ) (bytes : List ℕ) (passes : Bool) → continues_symbol b ≡ passes → ends_symbol (drop (prefix_len continues_symbol bytes) bytes) ≡ true
    → ends_symbol (drop (cond passes (1 + prefix_len continues_symbol bytes) 0) (b ∷ bytes)) ≡ true
one-ends b bytes true e rest =
    let count : 1 + prefix_len continues_symbol bytes ≡ suc (prefix_len continues_symbol bytes) = omega arith in
    ap (λ (n : ℕ). ends_symbol (drop n (b ∷ bytes))) count ∙ rest
one-ends b bytes false e rest = ap not e

run-ends : (bytes : List ℕ) → ends_symbol (drop (prefix_len continues_symbol bytes) bytes) ≡ true
run-ends [] = refl
run-ends (b ∷ bytes) = one-ends b bytes (continues_symbol b) refl (run-ends bytes)

-- ---- what is a word begins as a symbol

abbrev is_symbol : Lead → Bool
is_symbol Symbol = true
is_symbol _ = false

chosen : (test : Bool) (x y : Lead) → is_symbol x ≡ false → is_symbol y ≡ false → is_symbol (cond test x y) ≡ false
chosen true x y first second = first
chosen false x y first second = second

other-lead : (fresh : Bool) (b : ℕ) → is_symbol (lead_of_comment fresh b) ≡ false
other-lead fresh b =
    let signs = chosen (b == 42) Star _ refl (chosen (b == 36) Dollar Other refl refl) in
    let brackets = chosen (b == 91) Bracket _ refl (chosen (b == 40) Opening _ refl (chosen (b == 41) Closing _ refl signs)) in
    chosen (b == 123) Comment _ refl (chosen (b == 59 || fresh && b == 37) Remark _ refl brackets)

begins-by : (white begins mark : Bool) (lead : Lead) → is_symbol lead ≡ false → is_symbol (cond white White (cond begins Symbol (cond mark Mark lead))) ≡ true → begins ≡ true
begins-by true begins mark lead plain e = absurd (true≢false (sym e))
begins-by false true mark lead plain e = refl
begins-by false false true lead plain e = absurd (true≢false (sym e))
begins-by false false false lead plain e = absurd (true≢false (sym e ∙ plain))

begins-by-lead : (fresh : Bool) (b : ℕ) → is_symbol (lead_of fresh b) ≡ true → begins_symbol b ≡ true
unfolding lead_of
begins-by-lead fresh b e = begins-by (is_white b) (begins_symbol b) (is_mark b) (lead_of_comment fresh b) (other-lead fresh b) e

word_kind : (kind : Kind) → is_word kind ≡ true → kind ≡ Word
word_kind Word e = refl
word_kind Blank e = absurd (true≢false (sym e))
word_kind (Pair tag) e = absurd (true≢false (sym e))
word_kind (Terminates ending) e = absurd (true≢false (sym e))
word_kind Dropped e = absurd (true≢false (sym e))
word_kind Opens e = absurd (true≢false (sym e))
word_kind Closes e = absurd (true≢false (sym e))
word_kind Wrong e = absurd (true≢false (sym e))

-- the first byte and so many more are a word, and what stands behind them does not continue it
record IsWordOf (bytes : List ℕ) (more : ℕ) : Type 0 where
  plain : IsPlainWord (take (more + 1) bytes)
  ends : IsTrue (ends_symbol (drop (more + 1) bytes))

symbol-word : (b : ℕ) (bytes : List ℕ) → begins_symbol b ≡ true → is_word (symbol_of b bytes).kind ≡ true → IsWordOf (b ∷ bytes) (symbol_of b bytes).more
unfolding symbol_of
symbol-word b bytes begins word =
    let more : ℕ = prefix_len continues_symbol bytes in
    let front : take (more + 1) (b ∷ bytes) ≡ b ∷ take more bytes = ap (λ (n : ℕ). take n (b ∷ bytes)) (add-one more) in
    let behind : drop (more + 1) (b ∷ bytes) ≡ drop more bytes = ap (λ (n : ℕ). drop n (b ∷ bytes)) (add-one more) in
    let well : begins_well (b ∷ take more bytes) ≡ true = ap (λ (x : Bool). x && list_all continues_symbol (take more bytes)) begins ∙ run-passes continues_symbol bytes in
    record {
      plain = record { symbol = ap begins_well front ∙ well; kind = ap kind_of_symbol front ∙ word_kind (kind_of_symbol (b ∷ take more bytes)) word };
      ends = ap ends_symbol behind ∙ run-ends bytes;
    }

comment-no_word : (found : Option ℕ) → is_word (comment_up_to found).kind ≡ false
comment-no_word None = refl
comment-no_word (Some count) = refl

comment_of-no_word : (bytes : List ℕ) → is_word (comment_of bytes).kind ≡ false
unfolding comment_of
comment_of-no_word bytes = comment-no_word (position (λ b. b == 125) bytes)

remark_of-no_word : (bytes : List ℕ) → is_word (remark_of bytes).kind ≡ false
unfolding remark_of
remark_of-no_word bytes = refl

digits-no_word : (digits : ℕ) (b : Bool) → is_word (let nag : Shape = record { kind = Dropped; more = digits } in cond b (one_byte Wrong) nag).kind ≡ false
digits-no_word digits true = refl
digits-no_word digits false = refl

nag_of-no_word : (bytes : List ℕ) → is_word (nag_of bytes).kind ≡ false
unfolding nag_of
nag_of-no_word bytes = digits-no_word (prefix_len is_ascii_digit bytes) (prefix_len is_ascii_digit bytes == 0)

pair-no_word : (bytes : List ℕ) (found : Option (Tag × List ℕ)) → is_word (pair_within bytes found).kind ≡ false
pair-no_word bytes None = refl
pair-no_word bytes (Some found) = refl

pair_item_of-no_word : (bytes : List ℕ) → is_word (pair_item_of bytes).kind ≡ false
unfolding pair_item_of
pair_item_of-no_word bytes = pair-no_word bytes (pair_of bytes)

word-by : (lead : Lead) (b : ℕ) (bytes : List ℕ) → (is_symbol lead ≡ true → begins_symbol b ≡ true) → is_word (shape_by lead b bytes).kind ≡ true
    → IsWordOf (b ∷ bytes) (shape_by lead b bytes).more
word-by Symbol b bytes begins word = symbol-word b bytes (begins refl) word
word-by White b bytes begins word = absurd (true≢false (sym word))
word-by Comment b bytes begins word = absurd (true≢false (sym word ∙ comment_of-no_word bytes))
word-by Remark b bytes begins word = absurd (true≢false (sym word ∙ remark_of-no_word bytes))
word-by Bracket b bytes begins word = absurd (true≢false (sym word ∙ pair_item_of-no_word bytes))
word-by Star b bytes begins word = absurd (true≢false (sym word))
word-by Mark b bytes begins word = absurd (true≢false (sym word))
word-by Dollar b bytes begins word = absurd (true≢false (sym word ∙ nag_of-no_word bytes))
word-by Opening b bytes begins word = absurd (true≢false (sym word))
word-by Closing b bytes begins word = absurd (true≢false (sym word))
word-by Other b bytes begins word = absurd (true≢false (sym word))

shape_at-word : (fresh : Bool) (bytes : List ℕ) → is_word (shape_at fresh bytes).kind ≡ true → IsWordOf bytes (shape_at fresh bytes).more
shape_at-word fresh [] word = absurd (true≢false (sym word))
shape_at-word fresh (b ∷ bytes) word = word-by (lead_of fresh b) b bytes (begins-by-lead fresh b) word

-- ---- the words among a text's items

-- where its kind says so, an item is a word of the text
abbrev IsAsTold : List ℕ → Item → Type 0
IsAsTold text item = is_word item.kind ≡ true → IsWordAt text (token_of item)

item_at-told : (text : List ℕ) (at : ℕ) → at < length text → IsAsTold text (item_at at text)
unfolding item_at
item_at-told text at lt word =
    let bytes : List ℕ = drop at text in
    let shape : Shape = shape_at (begins_line at text) bytes in
    let found : IsWordOf bytes shape.more = shape_at-word (begins_line at text) bytes word in
    let some : 0 < length bytes = omega (arith, length-drop at text) in
    let count : length (take (shape.more + 1) bytes) ≡ shape.more + 1 = omega (arith, shape_at-within (begins_line at text) bytes some, length-take (shape.more + 1) bytes) in
    let behind : drop (at + length (take (shape.more + 1) bytes)) text ≡ drop (shape.more + 1) bytes = ap (λ (n : ℕ). drop (at + n) text) count ∙ sym (drop-drop (shape.more + 1) at text) in
    record { plain = found.plain; stands = (item_at-stands text at lt).1; ends = ap ends_symbol behind ∙ found.ends }

told_from : (text : List ℕ) (turns at : ℕ) → length text ≤ at + turns → AllByRecursion (IsAsTold text) (items_from 0 (begins_line at text) at (drop at text))
unfolding items_from
told_from text zero at end = subst (AllByRecursion (IsAsTold text)) (sym (at_drop_all (items_from 0 (begins_line at text) at) text at (omega (arith, end)))) tt
told_from text (suc turns) at end =
    elim (cases_lt at (length text)) [
      | inl lt ↦ let next : ℕ = at + length (item_at at text).text in
          let rest : AllByRecursion (IsAsTold text) (items_from 0 (begins_line next text) next (drop next text)) =
          told_from text turns next (omega (arith, end, (length-item_at text at lt).0)) in
          subst (AllByRecursion (IsAsTold text)) (sym (items_from-step text at next lt refl)) (item_at-told text at lt, rest)
      | inr ge ↦ subst (AllByRecursion (IsAsTold text)) (sym (at_drop_all (items_from 0 (begins_line at text) at) text at ge)) tt
    ]

items-told : (text : List ℕ) → AllByRecursion (IsAsTold text) (items text)
unfolding items
items-told text = told_from text (length text) 0 (omega arith)

-- an item before tokens that are words
module _ (text : List ℕ) (item : Item) (rest : List Token) (told : IsAsTold text item) (each : AllByRecursion (IsWordAt text) rest) where
  before-words : (outside word : Bool) → is_word item.kind ≡ word → AllByRecursion (IsWordAt text) (cond (outside && word) (token_of item ∷ rest) rest)
  before-words true true e = (told e, each)
  before-words true false e = each
  before-words false word e = each

words-told : (text : List ℕ) (count : ℕ) (row : List Item) → AllByRecursion (IsAsTold text) row → AllByRecursion (IsWordAt text) (words_outside count row)
words-told text count [] told = tt
words-told text count (item ∷ row) told =
    let behind : ℕ = open_behind count item.kind in
    before-words text item (words_outside behind row) told.0 (words-told text behind row told.1) (count == 0) (is_word item.kind) refl

-- ---- the tokens of a text

-- an item leaves as many variations open as it says
abbrev Leaves : ℕ → Kind → Section → Type 0
Leaves count kind next = depth_of next ≡ open_behind count kind

moves-leave : (kind : Kind) (place : ℕ) → IfSome (after_in_moves kind place) (Leaves 0 kind)
moves-leave Blank place = tt
moves-leave (Pair tag) place = tt
moves-leave (Terminates ending) place = refl
moves-leave Word place = refl
moves-leave Dropped place = refl
moves-leave Opens place = refl
moves-leave Closes place = tt
moves-leave Wrong place = tt

closing-leaves : (inner outer : ℕ) (last : Bool) → (inner == 0) ≡ last → Leaves (inner + 1) Closes (cond last Moves (Variation (inner - 1) outer))
closing-leaves inner outer true e = let none : inner ≡ 0 = eqb-true inner 0 e in omega (arith, none)
closing-leaves inner outer false e =
    let some : inner ≡ 0 → ⊥ = eqb-false inner 0 e in
    elim (cases_lt 0 inner) [
      | inl lt ↦ omega (arith, lt)
      | inr ge ↦ absurd (some (omega (arith, ge)))
    ]

variation-leaves : (inner outer : ℕ) (kind : Kind) → IfSome (after_in_variation inner outer kind) (Leaves (inner + 1) kind)
variation-leaves inner outer Blank = tt
variation-leaves inner outer (Pair tag) = tt
variation-leaves inner outer (Terminates ending) = refl
variation-leaves inner outer Word = refl
variation-leaves inner outer Dropped = refl
variation-leaves inner outer Opens = refl
variation-leaves inner outer Closes = closing-leaves inner outer (inner == 0) refl
variation-leaves inner outer Wrong = tt

after-leaves : (section : Section) (kind : Kind) (place : ℕ) → IfSome (after section kind place) (Leaves (depth_of section) kind)
after-leaves section Blank place = refl
after-leaves Heading (Pair tag) place = refl
after-leaves Heading kind place = moves-leave kind place
after-leaves Moves kind place = moves-leave kind place
after-leaves (Variation inner outer) kind place = variation-leaves inner outer kind
after-leaves (Ended ending) kind place = tt

kind-words : (kind : Kind) (item : Item) (found : Parts) → (with_kind kind item found).tokens ≡ cond (is_word kind) (token_of item ∷ found.tokens) found.tokens
kind-words Word item found = refl
kind-words Blank item found = refl
kind-words (Pair tag) item found = refl
kind-words (Terminates ending) item found = refl
kind-words Dropped item found = refl
kind-words Opens item found = refl
kind-words Closes item found = refl
kind-words Wrong item found = refl

item-words : (section : Section) (item : Item) (found : Parts)
    → (with_item section item found).tokens ≡ cond (depth_of section == 0 && is_word item.kind) (token_of item ∷ found.tokens) found.tokens
item-words Heading item found = kind-words item.kind item found
item-words Moves item found = kind-words item.kind item found
item-words (Ended ending) item found = kind-words item.kind item found
item-words (Variation inner outer) item found =
    let inside : (inner + 1 == 0) ≡ false = false_from_ne_true (inner + 1 == 0) (λ e. absurd (omega (arith, eqb-true (inner + 1) 0 e))) in
    sym (ap (λ (outside : Bool). cond (outside && is_word item.kind) (token_of item ∷ found.tokens) found.tokens) inside)

abbrev HasWords : ℕ → List Item → Parts → Type 0
HasWords count row found = found.tokens ≡ words_outside count row

rest-words : (section : Section) (item : Item) (row : List Item) (next : Section) → Leaves (depth_of section) item.kind next
    → (reading : Result Parts LexFault) → IfOk reading (HasWords (depth_of next) row)
    → IfOk (reading >>= λ found. Ok (with_item section item found)) (HasWords (depth_of section) (item ∷ row))
rest-words section item row next leaves (Ok found) has =
    item-words section item found
    ∙ ap (λ (rest : List Token). cond (depth_of section == 0 && is_word item.kind) (token_of item ∷ rest) rest) (has ∙ ap (λ (n : ℕ). words_outside n row) leaves)
rest-words section item row next leaves (Err fault) has = tt

abbrev fault_at : Item → LexFault
fault_at item = record { place = item.place }

next-words : (section : Section) (item : Item) (row : List Item) (o : Option Section) → IfSome o (Leaves (depth_of section) item.kind)
    → ((next : Section) → IfOk (meaning next row) (HasWords (depth_of next) row))
    → IfOk (ok_or o (fault_at item) >>= λ next. meaning next row >>= λ found. Ok (with_item section item found)) (HasWords (depth_of section) (item ∷ row))
next-words section item row None leaves each = tt
next-words section item row (Some next) leaves each = rest-words section item row next leaves (meaning next row) (each next)

end-words : (section : Section) → IfOk (at_end section) (HasWords (depth_of section) [])
end-words Heading = refl
end-words Moves = refl
end-words (Variation inner outer) = tt
end-words (Ended ending) = refl

meaning-words : (section : Section) (row : List Item) → IfOk (meaning section row) (HasWords (depth_of section) row)
unfolding meaning
meaning-words section [] = end-words section
meaning-words section (item ∷ row) =
    next-words section item row (after section item.kind item.place) (after-leaves section item.kind item.place) (λ next. meaning-words next row)

pub tokens-words : (text : List ℕ) → IfOk (parts text) (λ found. found.tokens ≡ words_outside 0 (items text))
unfolding parts
tokens-words text = meaning-words Heading (items text)

each-longest : (text : List ℕ) (reading : Result Parts LexFault) → IfOk reading (HasWords 0 (items text)) → IfOk reading (λ found. All (IsWordAt text) found.tokens)
each-longest text (Ok found) has =
    let words : List Token = words_outside 0 (items text) in
    All-same (IsWordAt text) found.tokens words has (All-from_recursion (IsWordAt text) words (words-told text 0 (items text) (items-told text)))
each-longest text (Err fault) has = tt

pub tokens-longest : (text : List ℕ) → IfOk (parts text) (λ found. All (IsWordAt text) found.tokens)
tokens-longest text = each-longest text (parts text) (tokens-words text)
