-- The words of a movetext: moves in SAN, and numbers.
use Rattle.std.proofs.Common.{◌≡◌, ℕ, ◌+◌, ◌/◌, ◌%◌, ◌^◌, ◌<◌, ◌≤◌, ◌==◌, Bool, true, false, ◌&&◌, List, [], ◌∷◌, ◌++◌, length, Option, Some, None, codes, decimal, refl, sym, ap, ◌∙◌, subst, arith, inl, inr, if◌then◌else◌}
use Rattle.std.specs.List.{list_all}
use Rattle.std.specs.Char.{is_ascii_digit, is_ascii_alphabetic}
use Rattle.std.specs.Str.{all_ascii_digits}
use Rattle.std.specs.Str.Parse.{AllDigits}
use Rattle.std.proofs.lemmas.Bool.{and_from, and_parts}
use Rattle.std.proofs.lemmas.Bool.Decides.{nat_tests}
use Rattle.std.proofs.lemmas.Fmt.{decimal_is_IsNumeral}
use Rattle.std.proofs.lemmas.List.Folds.{list_all-append}
use Rattle.std.proofs.lemmas.Str.Parse.{tells_all_ascii_digits, tells_digits}
use Rattle.explorer_model.specs.declared.chess.Move.{Move}
use Rattle.explorer_model.specs.declared.chess.Position.{Position}
use Rattle.explorer_model.specs.declared.chess.Role.{Role}
use Rattle.explorer_model.specs.declared.chess.Role.TheVariants.{Pawn, Knight, Bishop, Rook, Queen, King}
use Rattle.explorer_model.specs.declared.chess.Side.TheVariants.{Short, Long}
use Rattle.explorer_model.specs.declared.chess.Side.{Side}
use Rattle.explorer_model.specs.declared.notation.CheckMark.{CheckMark}
use Rattle.explorer_model.specs.declared.notation.CheckMark.TheVariants.{Quiet, Check, Mate}
use Rattle.explorer_model.specs.declared.notation.Start.{Start}
use Rattle.explorer_model.specs.declared.notation.Start.TheVariants.{Unnamed, File, Rank, Square}
use Rattle.explorer_model.specs.Chess.{castling_side}
use Rattle.explorer_model.specs.Items.{Word, Dropped, is_white, begins_symbol, continues_symbol, kind_of_symbol, ending_of}
use Rattle.explorer_model.specs.Letters.{file_letter, rank_digit, square_text}
use Rattle.explorer_model.specs.San.{captures, StartOf, start_text, capture_text, promotion_text, castling_text, mark_text, named_text, MoveText, SanText}
use Rattle.sample_games.proofs.Symbols.{IsSymbol}

pub all-append : (p : ℕ → Bool) (xs ys : List ℕ) → list_all p xs ≡ true → list_all p ys ≡ true → list_all p (xs ++ ys) ≡ true
all-append p xs ys front back = list_all-append p xs ys ∙ ap (λ (b : Bool). b && list_all p ys) front ∙ back

-- ---- letters

abbrev begins_alpha : List ℕ → Bool
begins_alpha [] = false
begins_alpha (b ∷ bytes) = is_ascii_alphabetic b

-- a letter first, and what goes on a symbol
abbrev IsWord : List ℕ → Type 0
IsWord text = (begins_alpha text ≡ true) × (list_all continues_symbol text ≡ true)

word-append : (xs ys : List ℕ) → IsWord xs → list_all continues_symbol ys ≡ true → IsWord (xs ++ ys)
word-append [] ys word more = absurd (grind (arith, word.0))
word-append (b ∷ xs) ys word more = (word.0, all-append continues_symbol (b ∷ xs) ys word.1 more)

letter-dark : (b : ℕ) → is_ascii_alphabetic b ≡ true → is_white b ≡ false
letter-dark b h = grind (arith, nat_tests, h)

letter-begins : (b : ℕ) → is_ascii_alphabetic b ≡ true → begins_symbol b ≡ true
letter-begins b h = grind (arith, nat_tests, h)

letter-no_digit : (b : ℕ) → is_ascii_alphabetic b ≡ true → is_ascii_digit b ≡ false
letter-no_digit b h = grind (arith, nat_tests, h)

letter-not : (b n : ℕ) → n ≤ 57 → is_ascii_alphabetic b ≡ true → (b == n) ≡ false
letter-not b n le h = grind (arith, nat_tests, le, h)

-- digits alone are a number, and the terminations begin with digits
letter-kind : (b : ℕ) (more : List ℕ) → is_ascii_alphabetic b ≡ true → kind_of_symbol (b ∷ more) ≡ Word
unfolding ending_of
letter-kind b more h = rw (letter-no_digit b h, letter-not b 49 (omega arith) h, letter-not b 48 (omega arith) h) refl

pub record Begins (text : List ℕ) : Type 0 where
  pub first : ℕ
  pub more : List ℕ
  pub is : text ≡ first ∷ more
  pub symbol : IsSymbol first more
  pub kind : kind_of_symbol (first ∷ more) ≡ Word

tail-goes_on : (b : ℕ) (more : List ℕ) → list_all continues_symbol (b ∷ more) ≡ true → list_all continues_symbol more ≡ true
tail-goes_on b more h = grind (arith, h)

word-begins : (text : List ℕ) → IsWord text → Begins text
word-begins [] word = absurd (grind (arith, word.0))
word-begins (b ∷ more) word = record {
  first = b;
  more = more;
  is = refl;
  symbol = record { begins = letter-begins b word.0; dark = letter-dark b word.0; goes_on = tail-goes_on b more word.1 };
  kind = letter-kind b more word.0;
}

-- ---- moves

file-alpha : (n : ℕ) → n < 8 → is_ascii_alphabetic (97 + n) ≡ true
file-alpha n lt = grind (arith, nat_tests, lt)

alpha-goes_on : (b : ℕ) → is_ascii_alphabetic b ≡ true → continues_symbol b ≡ true
alpha-goes_on b h = grind (arith, nat_tests, h)

rank-goes_on : (n : ℕ) → n < 8 → continues_symbol (49 + n) ≡ true
rank-goes_on n lt = grind (arith, nat_tests, lt)

file-word : (s : ℕ) (more : List ℕ) → list_all continues_symbol more ≡ true → IsWord (file_letter s ∷ more)
file-word s more h =
    let alpha : is_ascii_alphabetic (97 + s % 8) ≡ true = file-alpha (s % 8) (omega arith) in
    (alpha, and_from (continues_symbol (97 + s % 8)) (list_all continues_symbol more) (alpha-goes_on (97 + s % 8) alpha) h)

rank-alone : (s : ℕ) → s < 64 → list_all continues_symbol (rank_digit s ∷ []) ≡ true
rank-alone s lt = and_from (continues_symbol (49 + s / 8)) true (rank-goes_on (s / 8) (omega (arith, lt))) refl

square-word : (s : ℕ) → s < 64 → IsWord (square_text s)
square-word s lt = file-word s (rank_digit s ∷ []) (rank-alone s lt)

promotion-goes_on : (promotion : Option Role) → list_all continues_symbol (promotion_text promotion) ≡ true
promotion-goes_on None = refl
promotion-goes_on (Some Pawn) = refl
promotion-goes_on (Some Knight) = refl
promotion-goes_on (Some Bishop) = refl
promotion-goes_on (Some Rook) = refl
promotion-goes_on (Some Queen) = refl
promotion-goes_on (Some King) = refl

capture-goes_on : (takes : Bool) → list_all continues_symbol (capture_text takes) ≡ true
capture-goes_on true = refl
capture-goes_on false = refl

start-goes_on : (start : Start) (s : ℕ) → s < 64 → list_all continues_symbol (start_text start s) ≡ true
start-goes_on Unnamed s lt = refl
start-goes_on File s lt = (file-word s [] refl).1
start-goes_on Rank s lt = rank-alone s lt
start-goes_on Square s lt = (square-word s lt).1

mark-goes_on : (mark : CheckMark) → list_all continues_symbol (mark_text mark) ≡ true
mark-goes_on Quiet = refl
mark-goes_on Check = refl
mark-goes_on Mate = refl

-- what is written of a move behind its piece
abbrev ahead : Start → ℕ → Bool → ℕ → Option Role → List ℕ → List ℕ
ahead start from takes to promotion role = role ++ start_text start from ++ capture_text takes ++ square_text to ++ promotion_text promotion

lettered-word : (role : List ℕ) (start : Start) (from : ℕ) (takes : Bool) (to : ℕ) (promotion : Option Role) → from < 64 → to < 64 → IsWord role
    → IsWord (ahead start from takes to promotion role)
lettered-word role start from takes to promotion from_in to_in word =
    word-append (role ++ start_text start from ++ capture_text takes ++ square_text to) (promotion_text promotion)
    (word-append (role ++ start_text start from ++ capture_text takes) (square_text to)
    (word-append (role ++ start_text start from) (capture_text takes)
    (word-append role (start_text start from) word (start-goes_on start from from_in))
    (capture-goes_on takes)) (square-word to to_in).1) (promotion-goes_on promotion)

pawn-word : (from : ℕ) (takes : Bool) (to : ℕ) (promotion : Option Role) → from < 64 → to < 64 → IsWord (ahead (if takes then File else Unnamed) from takes to promotion [])
pawn-word from false to promotion from_in to_in = word-append (square_text to) (promotion_text promotion) (square-word to to_in) (promotion-goes_on promotion)
pawn-word from true to promotion from_in to_in =
    word-append (file_letter from ∷ codes "x" ++ square_text to) (promotion_text promotion)
    (word-append (file_letter from ∷ codes "x") (square_text to) (file-word from (codes "x") refl) (square-word to to_in).1) (promotion-goes_on promotion)

named-word : (p : Position) (m : Move) (role : Role) (start : Start) → m.from.index < 64 → m.to.index < 64 → StartOf p m role start → IsWord (named_text p m role start)
named-word p m Pawn start from_in to_in is =
    subst (λ (s : Start). IsWord (named_text p m Pawn s)) (sym is) (pawn-word m.from.index (captures p m) m.to.index m.promotion from_in to_in)
named-word p m Knight start from_in to_in is = lettered-word (codes "N") start m.from.index (captures p m) m.to.index m.promotion from_in to_in (refl, refl)
named-word p m Bishop start from_in to_in is = lettered-word (codes "B") start m.from.index (captures p m) m.to.index m.promotion from_in to_in (refl, refl)
named-word p m Rook start from_in to_in is = lettered-word (codes "R") start m.from.index (captures p m) m.to.index m.promotion from_in to_in (refl, refl)
named-word p m Queen start from_in to_in is = lettered-word (codes "Q") start m.from.index (captures p m) m.to.index m.promotion from_in to_in (refl, refl)
named-word p m King start from_in to_in is = lettered-word (codes "K") start m.from.index (captures p m) m.to.index m.promotion from_in to_in (refl, refl)

castling-word : (side : Side) → IsWord (castling_text side)
castling-word Short = (refl, refl)
castling-word Long = (refl, refl)

move-word : (p : Position) (m : Move) (text : List ℕ) → m.from.index < 64 → m.to.index < 64 → MoveText p m text → IsWord text
move-word p m text from_in to_in (inl castles) = subst IsWord (sym castles.1) (castling-word (castling_side m))
move-word p m text from_in to_in (inr named) =
    let w = named.1 in
    subst IsWord (sym w.4) (named-word p m w.0 w.1 from_in to_in w.3)

pub san-begins : (p : Position) (m : Move) (text : List ℕ) → m.from.index < 64 → m.to.index < 64 → SanText p m text → Begins text
san-begins p m text from_in to_in san =
    word-begins text (subst IsWord (sym san.4) (word-append san.0 (mark_text san.1) (move-word p m san.0 from_in to_in san.2) (mark-goes_on san.1)))

-- ---- numbers

pub record BeginsNumber (text : List ℕ) : Type 0 where
  pub first : ℕ
  pub more : List ℕ
  pub is : text ≡ first ∷ more
  pub symbol : IsSymbol first more
  pub kind : kind_of_symbol (first ∷ more) ≡ Dropped

digit-goes_on : (b : ℕ) → is_ascii_digit b ≡ true → continues_symbol b ≡ true
digit-goes_on b h = grind (arith, nat_tests, h)

digit-begins : (b : ℕ) → is_ascii_digit b ≡ true → begins_symbol b ≡ true
digit-begins b h = grind (arith, nat_tests, h)

digit-dark : (b : ℕ) → is_ascii_digit b ≡ true → is_white b ≡ false
digit-dark b h = grind (arith, nat_tests, h)

pub all-digits : (ds : List ℕ) → AllDigits 10 ds → all_ascii_digits ds ≡ true
all-digits [] h = refl
all-digits (c ∷ cs) h = let first = tells_digits.parts c cs h in tells_all_ascii_digits.more c cs first.0 (all-digits cs first.1)

digits-alike : (ds : List ℕ) → list_all is_ascii_digit ds ≡ all_ascii_digits ds
digits-alike [] = refl
digits-alike (c ∷ cs) = ap (λ (b : Bool). is_ascii_digit c && b) (digits-alike cs)

pub digits-go_on : (ds : List ℕ) → all_ascii_digits ds ≡ true → list_all continues_symbol ds ≡ true
digits-go_on [] h = refl
digits-go_on (c ∷ cs) h =
    and_from (continues_symbol c) (list_all continues_symbol cs) (digit-goes_on c (and_parts (is_ascii_digit c) (all_ascii_digits cs) h).0)
    (digits-go_on cs (and_parts (is_ascii_digit c) (all_ascii_digits cs) h).1)

number-begins : (text : List ℕ) → 0 < length text → all_ascii_digits text ≡ true → BeginsNumber text
number-begins [] some all = absurd (omega (arith, some))
number-begins (c ∷ cs) some all =
    let first : is_ascii_digit c ≡ true = (and_parts (is_ascii_digit c) (all_ascii_digits cs) all).0 in
    record {
      first = c;
      more = cs;
      is = refl;
      symbol = record { begins = digit-begins c first; dark = digit-dark c first; goes_on = digits-go_on cs (and_parts (is_ascii_digit c) (all_ascii_digits cs) all).1 };
      kind = rw (digits-alike (c ∷ cs) ∙ all) refl;
    }

pub decimal-begins : (n : ℕ) → n < 2 ^ 64 → BeginsNumber (decimal n)
decimal-begins n lt = let numeral = (decimal_is_IsNumeral n lt).0 in number-begins (decimal n) numeral.0 (all-digits (decimal n) numeral.1)
