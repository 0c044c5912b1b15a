-- What stands first in a movetext, and what is read behind it.
use Rattle.std.proofs.Common.{◌≡◌, ℕ, ◌+◌, ◌==◌, Bool, true, false, List, [], ◌∷◌, ◌++◌, length, map, take, Option, Some, Result, Ok, ok_or, refl, sym, ap, ◌∙◌, subst, arith}
use Rattle.std.specs.List.{list_all, prefix_len}
use Rattle.std.proofs.lemmas.Bool.{cond-true, cond-false, and_parts}
use Rattle.std.proofs.Math.Seq.{take-append_seam}
use Rattle.explorer_model.specs.declared.archive.Ending.{Ending}
use Rattle.explorer_model.specs.declared.archive.Parts.{Parts}
use Rattle.explorer_model.specs.declared.archive.Tag.{Tag}
use Rattle.explorer_model.specs.declared.archive.Token.{Token}
use Rattle.explorer_model.specs.declared.fault.LexFault.{LexFault}
use Rattle.explorer_model.specs.Items.{Kind, Blank, Pair, Terminates, Word, Dropped, Item, Shape, Lead, White, Symbol, lead_of, is_white, begins_symbol, continues_symbol, kind_of_symbol, symbol_of, shape_by, shape_of, items_from}
use Rattle.explorer_model.specs.Parts.{Section, Heading, Moves, Ended, after, is_in_variation, with_kind, with_item, meaning}
use Rattle.explorer_model.specs.Stop.{◌>>=◌}

-- what a text is read as, whatever the places of its tokens
pub record Parted (reading : Result Parts LexFault) (tags : List Tag) (texts : List (List ℕ)) (ending : Ending) : Type 0 where
  pub found : Parts
  pub is : reading ≡ Ok found
  pub tags_are : found.tags ≡ tags
  pub texts_are : map (λ (token : Token). token.text) found.tokens ≡ texts
  pub ends : found.termination ≡ Some ending

-- from this section on the bytes have these tags and move texts, wherever they stand
abbrev pub Reads : Section → List ℕ → List Tag → List (List ℕ) → Ending → Type 0
Reads section bytes tags texts ending = (fresh : Bool) (place : ℕ) → Parted (meaning section (items_from 0 fresh place bytes)) tags texts ending

-- a section in which moves may come
pub record IsOpen (section : Section) : Type 0 where
  pub word : (place : ℕ) → after section Word place ≡ Some Moves
  pub dropped : (place : ℕ) → after section Dropped place ≡ Some Moves
  pub ends : (ending : Ending) (place : ℕ) → after section (Terminates ending) place ≡ Some (Ended ending)
  pub blank : (place : ℕ) → after section Blank place ≡ Some section
  pub flat : is_in_variation section ≡ false

pub heading-open : IsOpen Heading
heading-open = record { word = λ place. refl; dropped = λ place. refl; ends = λ ending place. refl; blank = λ place. refl; flat = refl }

pub moves-open : IsOpen Moves
moves-open = record { word = λ place. refl; dropped = λ place. refl; ends = λ ending place. refl; blank = λ place. refl; flat = refl }

-- ---- one item

meaning-step : (section next : Section) (item : Item) (row : List Item) (found : Parts) → after section item.kind item.place ≡ Some next → meaning next row ≡ Ok found
    → meaning section (item ∷ row) ≡ Ok (with_item section item found)
unfolding meaning
meaning-step section next item row found goes rest =
    ap (λ (o : Option Section). ok_or o (record { place = item.place }) >>= λ s. meaning s row >>= λ parts. Ok (with_item section item parts)) goes
    ∙ ap (λ (reading : Result Parts LexFault). reading >>= λ parts. Ok (with_item section item parts)) rest

abbrev Fits : Section → Item → List Item → List Tag → List (List ℕ) → Ending → Type 0
Fits section item row tags texts ending = Parted (meaning section (item ∷ row)) tags texts ending

-- an item that is neither a tag nor a move
pub passes : (section next : Section) (item : Item) (row : List Item) (tags : List Tag) (texts : List (List ℕ)) (ending : Ending) → after section item.kind item.place ≡ Some next
    → ((found : Parts) → with_item section item found ≡ found) → Parted (meaning next row) tags texts ending → Fits section item row tags texts ending
passes section next item row tags texts ending goes adds rest = record {
  found = rest.found;
  is = meaning-step section next item row rest.found goes rest.is ∙ ap Ok (adds rest.found);
  tags_are = rest.tags_are;
  texts_are = rest.texts_are;
  ends = rest.ends;
}

-- a move
adds-word : (section next : Section) (item : Item) (row : List Item) (tags : List Tag) (texts : List (List ℕ)) (ending : Ending) → after section item.kind item.place ≡ Some next
    → ((found : Parts) → with_item section item found ≡ record found { tokens = record { place = item.place; text = item.text } ∷ found.tokens })
    → Parted (meaning next row) tags texts ending → Fits section item row tags (item.text ∷ texts) ending
adds-word section next item row tags texts ending goes adds rest = record {
  found = record rest.found { tokens = record { place = item.place; text = item.text } ∷ rest.found.tokens };
  is = meaning-step section next item row rest.found goes rest.is ∙ ap Ok (adds rest.found);
  tags_are = rest.tags_are;
  texts_are = ap (λ (ts : List (List ℕ)). item.text ∷ ts) rest.texts_are;
  ends = rest.ends;
}

-- a tag
pub adds-tag : (item : Item) (row : List Item) (tag : Tag) (tags : List Tag) (texts : List (List ℕ)) (ending : Ending) → item.kind ≡ Pair tag
    → Parted (meaning Heading row) tags texts ending → Fits Heading item row (tag ∷ tags) texts ending
adds-tag item row tag tags texts ending is rest = record {
  found = record rest.found { tags = tag ∷ rest.found.tags };
  is = meaning-step Heading Heading item row rest.found (ap (λ (k : Kind). after Heading k item.place) is) rest.is ∙ ap (λ (k : Kind). Ok (with_kind k item rest.found)) is;
  tags_are = ap (λ (ts : List Tag). tag ∷ ts) rest.tags_are;
  texts_are = rest.texts_are;
  ends = rest.ends;
}

prefix_len-stops : (p : ℕ → Bool) (xs : List ℕ) (c : ℕ) (rest : List ℕ) → list_all p xs ≡ true → p c ≡ false → prefix_len p (xs ++ c ∷ rest) ≡ length xs
prefix_len-stops p [] c rest all stops = cond-false (p c) (1 + prefix_len p rest) 0 stops
prefix_len-stops p (x ∷ xs) c rest all stops =
    let both : (p x ≡ true) × (list_all p xs ≡ true) = and_parts (p x) (list_all p xs) all in
    cond-true (p x) (1 + prefix_len p (xs ++ c ∷ rest)) 0 both.0 ∙ (ap (λ (n : ℕ). 1 + n) (prefix_len-stops p xs c rest both.1 stops) ∙ omega arith)

-- where the items go on behind bytes that belong to the item before
pub record Skipped (count : ℕ) (bytes rest : List ℕ) (fresh : Bool) (place : ℕ) : Type 0 where
  pub line : Bool
  pub next : ℕ
  pub is : items_from count fresh place (bytes ++ rest) ≡ items_from 0 line next rest

pub skip : (bytes rest : List ℕ) (fresh : Bool) (place : ℕ) → Skipped (length bytes) bytes rest fresh place
unfolding items_from
skip [] rest fresh place = record { line = fresh; next = place; is = refl }
skip (b ∷ bytes) rest fresh place =
    let behind : Skipped (length bytes) bytes rest (b == 10) (place + 1) = skip bytes rest (b == 10) (place + 1) in
    record { line = behind.line; next = behind.next; is = behind.is }

-- a symbol begins with this byte and has these behind it
pub record IsSymbol (b : ℕ) (more : List ℕ) : Type 0 where
  pub begins : begins_symbol b ≡ true
  pub dark : is_white b ≡ false
  pub goes_on : list_all continues_symbol more ≡ true

symbol-items : (b : ℕ) (more : List ℕ) (c : ℕ) (rest : List ℕ) (fresh : Bool) (place : ℕ) → IsSymbol b more → continues_symbol c ≡ false
    → items_from 0 fresh place (b ∷ more ++ c ∷ rest)
    ≡ record { kind = kind_of_symbol (b ∷ more); place = place; text = b ∷ more } ∷ items_from (length more) (b == 10) (place + 1) (more ++ c ∷ rest)
unfolding items_from lead_of symbol_of
symbol-items b more c rest fresh place symbol stops =
    let bytes : List ℕ = more ++ c ∷ rest in
    let lead : lead_of fresh b ≡ Symbol = cond-false (is_white b) White _ symbol.dark ∙ cond-true (begins_symbol b) Symbol _ symbol.begins in
    let count : prefix_len continues_symbol bytes ≡ length more = prefix_len-stops continues_symbol more c rest symbol.goes_on stops in
    let shape : shape_of fresh b bytes ≡ record { kind = kind_of_symbol (b ∷ more); more = length more } =
    ap (λ (l : Lead). shape_by l b bytes) lead
    ∙ (ap (λ (n : ℕ). record { kind = kind_of_symbol (b ∷ take n bytes); more = n }) count
    ∙ ap (λ (xs : List ℕ). record { kind = kind_of_symbol (b ∷ xs); more = length more }) (take-append_seam more (c ∷ rest))) in
    ap (λ (s : Shape). record { kind = s.kind; place = place; text = b ∷ take s.more bytes } ∷ items_from s.more (b == 10) (place + 1) bytes) shape
    ∙ ap (λ (xs : List ℕ). record { kind = kind_of_symbol (b ∷ more); place = place; text = b ∷ xs } ∷ items_from (length more) (b == 10) (place + 1) bytes) (take-append_seam more (c ∷ rest))

-- ---- symbols in the movetext

module _ (section : Section) (open_here : IsOpen section) (b : ℕ) (more : List ℕ) (c : ℕ) (rest : List ℕ) (symbol : IsSymbol b more) (stops : continues_symbol c ≡ false)
    (tags : List Tag) (texts : List (List ℕ)) (ending : Ending) where
  abbrev Behind : Section → Type 0
  Behind next = Reads next (c ∷ rest) tags texts ending

  abbrev symbol_item : ℕ → Item
  symbol_item place = record { kind = kind_of_symbol (b ∷ more); place = place; text = b ∷ more }

  flatly : (place : ℕ) (kind : Kind) → kind_of_symbol (b ∷ more) ≡ kind → (found : Parts) → with_item section (symbol_item place) found ≡ with_kind kind (symbol_item place) found
  flatly place kind is found =
      cond-false (is_in_variation section) found (with_kind (kind_of_symbol (b ∷ more)) (symbol_item place) found) open_here.flat
      ∙ ap (λ (k : Kind). with_kind k (symbol_item place) found) is

  goes : (place : ℕ) (kind : Kind) (next : Section) → kind_of_symbol (b ∷ more) ≡ kind → after section kind place ≡ Some next → after section (kind_of_symbol (b ∷ more)) place ≡ Some next
  goes place kind next is on = ap (λ (k : Kind). after section k place) is ∙ on

  over : (place : ℕ) → Skipped (length more) more (c ∷ rest) (b == 10) (place + 1)
  over place = skip more (c ∷ rest) (b == 10) (place + 1)

  abbrev behind_items : ℕ → List Item
  behind_items place = items_from 0 (over place).line (over place).next (c ∷ rest)

  from-items : (fresh : Bool) (place : ℕ) (found : List (List ℕ)) → Parted (meaning section (symbol_item place ∷ behind_items place)) tags found ending
      → Parted (meaning section (items_from 0 fresh place (b ∷ more ++ c ∷ rest))) tags found ending
  from-items fresh place found parted =
      subst (λ (row : List Item). Parted (meaning section row) tags found ending)
      (sym (symbol-items b more c rest fresh place symbol stops ∙ ap (λ (row : List Item). symbol_item place ∷ row) (over place).is)) parted

  pub reads-word : kind_of_symbol (b ∷ more) ≡ Word → Behind Moves → Reads section (b ∷ more ++ c ∷ rest) tags ((b ∷ more) ∷ texts) ending
  reads-word is behind fresh place =
      from-items fresh place ((b ∷ more) ∷ texts)
      (adds-word section Moves (symbol_item place) (behind_items place) tags texts ending
      (goes place Word Moves is (open_here.word place)) (flatly place Word is) (behind (over place).line (over place).next))

  pub reads-number : kind_of_symbol (b ∷ more) ≡ Dropped → Behind Moves → Reads section (b ∷ more ++ c ∷ rest) tags texts ending
  reads-number is behind fresh place =
      from-items fresh place texts
      (passes section Moves (symbol_item place) (behind_items place) tags texts ending
      (goes place Dropped Moves is (open_here.dropped place)) (flatly place Dropped is) (behind (over place).line (over place).next))

  pub reads-ending : (last : Ending) → kind_of_symbol (b ∷ more) ≡ Terminates last → Behind (Ended last) → Reads section (b ∷ more ++ c ∷ rest) tags texts ending
  reads-ending last is behind fresh place =
      from-items fresh place texts
      (passes section (Ended last) (symbol_item place) (behind_items place) tags texts ending
      (goes place (Terminates last) (Ended last) is (open_here.ends last place)) (flatly place (Terminates last) is) (behind (over place).line (over place).next))

-- ---- single bytes

module _ (rest : List ℕ) (tags : List Tag) (texts : List (List ℕ)) (ending : Ending) where
  pub reads-space : Reads Moves rest tags texts ending → Reads Moves (32 ∷ rest) tags texts ending
  unfolding items_from lead_of
  reads-space behind fresh place = passes Moves Moves _ (items_from 0 false (place + 1) rest) tags texts ending refl (λ found. refl) (behind false (place + 1))

  pub reads-period : Reads Moves rest tags texts ending → Reads Moves (46 ∷ rest) tags texts ending
  unfolding items_from lead_of
  reads-period behind fresh place = passes Moves Moves _ (items_from 0 false (place + 1) rest) tags texts ending refl (λ found. refl) (behind false (place + 1))

  pub reads-line : Reads Heading rest tags texts ending → Reads Heading (10 ∷ rest) tags texts ending
  unfolding items_from lead_of
  reads-line behind fresh place = passes Heading Heading _ (items_from 0 true (place + 1) rest) tags texts ending refl (λ found. refl) (behind true (place + 1))

-- two lines' ends behind the termination
pub reads-end : (ending : Ending) → Reads (Ended ending) (10 ∷ 10 ∷ []) [] [] ending
unfolding items_from lead_of meaning
reads-end ending fresh place = record { found = record { tags = []; tokens = []; termination = Some ending }; is = refl; tags_are = refl; texts_are = refl; ends = refl }
