-- A tag pair on its line is read as its tag.
use Rattle.std.proofs.Common.{◌≡◌, ℕ, ◌+◌, ◌-◌, ◌==◌, Bool, true, false, ◌&&◌, not, List, [], ◌∷◌, ◌++◌, length, take, drop, Option, Some, None, option_map, codes, refl, sym, ap, ◌∙◌, subst, arith}
use Rattle.std.specs.List.{list_all}
use Rattle.std.proofs.lemmas.Bool.{cond-false}
use Rattle.std.proofs.lemmas.List.{append_assoc, length-append}
use Rattle.std.proofs.Math.Seq.{drop-append-add, take-append_seam}
use Rattle.explorer_model.specs.declared.archive.Ending.{Ending}
use Rattle.explorer_model.specs.declared.archive.Tag.{Tag}
use Rattle.explorer_model.specs.Items.{Pair, Item, Lead, Bracket, Shape, lead_of, shape_by, shape_of, items_from, name_at, after_white, after_byte, closes_string, ends_line, escapes, keep_unless, string_len, unescaped, pair_of, pair_within, pair_item_of, ◌>>=◌}
use Rattle.explorer_model.specs.Parts.{Heading, meaning}
use Rattle.sample_games.specs.Samples.{tag_line}
use Rattle.sample_games.proofs.Symbols.{Reads, Parted, adds-tag, reads-line, Skipped, skip}

-- a byte that stands for itself in a string
abbrev pub is_plain : ℕ → Bool
is_plain b = not (b == 34) && (not (b == 92) && not (ends_line b))

record IsPlain (b : ℕ) : Type 0 where
  quote : (b == 34) ≡ false
  slash : (b == 92) ≡ false
  line : ends_line b ≡ false

plain-by : (b : ℕ) (x y z : Bool) → (b == 34) ≡ x → (b == 92) ≡ y → ends_line b ≡ z → (not x && (not y && not z)) ≡ true → IsPlain b
plain-by b false false false quote slash line h = record { quote = quote; slash = slash; line = line }
plain-by b true y z quote slash line h = absurd (grind (arith, h))
plain-by b false true z quote slash line h = absurd (grind (arith, h))
plain-by b false false true quote slash line h = absurd (grind (arith, h))

plain : (b : ℕ) (bytes : List ℕ) → list_all is_plain (b ∷ bytes) ≡ true → IsPlain b × (list_all is_plain bytes ≡ true)
plain b bytes h = both (is_plain b) refl h where
  both : (x : Bool) → is_plain b ≡ x → (x && list_all is_plain bytes) ≡ true → IsPlain b × (list_all is_plain bytes ≡ true)
  both true is rest = (plain-by b (b == 34) (b == 92) (ends_line b) refl refl refl is, rest)
  both false is rest = absurd (grind (arith, rest))

stays-open : (b : ℕ) → IsPlain b → closes_string false b ≡ false
stays-open b p = ap (λ (x : Bool). x && true) p.quote

escapes-nothing : (b : ℕ) (bytes : List ℕ) → IsPlain b → escapes false b bytes ≡ false
escapes-nothing b bytes p = rw (p.slash) refl

string_len-plain : (value rest : List ℕ) → list_all is_plain value ≡ true → string_len false (value ++ 34 ∷ rest) ≡ Some (length value)
unfolding string_len
string_len-plain [] rest h = refl
string_len-plain (b ∷ value) rest h =
    let here = plain b value h in
    let next : string_len (escapes false b (value ++ 34 ∷ rest)) (value ++ 34 ∷ rest) ≡ Some (length value) =
    ap (λ (e : Bool). string_len e (value ++ 34 ∷ rest)) (escapes-nothing b (value ++ 34 ∷ rest) here.0) ∙ string_len-plain value rest here.1 in
    cond-false (closes_string false b) (Some 0) _ (stays-open b here.0)
    ∙ (cond-false (ends_line b) None _ here.0.line ∙ (ap (option_map (λ count. count + 1)) next ∙ ap Some (omega arith)))

unescaped-plain : (value : List ℕ) → list_all is_plain value ≡ true → unescaped false value ≡ value
unfolding unescaped
unescaped-plain [] h = refl
unescaped-plain (b ∷ value) h =
    let here = plain b value h in
    ap (λ (e : Bool). keep_unless e b (unescaped e value)) (escapes-nothing b value here.0) ∙ ap (λ (bytes : List ℕ). b ∷ bytes) (unescaped-plain value here.1)

-- the names of tags are letters, digits and underlines
abbrev pub IsName : List ℕ → Type 0
IsName name = (rest : List ℕ) → name_at (after_white (name ++ 32 ∷ rest)) ≡ Some (name, 32 ∷ rest)

module _ (name value : List ℕ) (named : IsName name) (is_plain_value : list_all is_plain value ≡ true) (rest : List ℕ) where
  abbrev tag : Tag
  tag = record { name = name; value = value }

  abbrev string : List ℕ
  string = value ++ 34 ∷ 93 ∷ rest

  behind-string : drop (length value + 1) string ≡ 93 ∷ rest
  behind-string = drop-append-add value (34 ∷ 93 ∷ rest) 1

  abbrev tag_with : List ℕ → List ℕ → Option (Tag × List ℕ)
  tag_with text more = Some (record { name = name; value = unescaped false text }, more)

  abbrev closed_at : ℕ → List ℕ → Option (Tag × List ℕ)
  closed_at count bytes = after_byte 93 (after_white bytes) >>= λ more. tag_with (take count string) more

  closes : (count : ℕ) → count ≡ length value → closed_at count (drop (count + 1) string) ≡ Some (tag, rest)
  closes count is =
      let with_value : List ℕ → Option (Tag × List ℕ) = λ bytes. Some (record { name = name; value = bytes }, rest) in
      ap (λ (n : ℕ). closed_at n (drop (n + 1) string)) is
      ∙ (ap (λ (bytes : List ℕ). closed_at (length value) bytes) behind-string
      ∙ ap with_value (ap (unescaped false) (take-append_seam value (34 ∷ 93 ∷ rest)) ∙ unescaped-plain value is_plain_value))

  pair-is : pair_of (name ++ 32 ∷ 34 ∷ string) ≡ Some (tag, rest)
  unfolding pair_of
  pair-is = rw (named (34 ∷ string), string_len-plain value (93 ∷ rest) is_plain_value) (closes (length value) refl)

  abbrev pair : List ℕ
  pair = name ++ 32 ∷ 34 ∷ (value ++ 34 ∷ 93 ∷ [])

  split : name ++ 32 ∷ 34 ∷ string ≡ pair ++ rest
  split =
      ap (λ (bytes : List ℕ). name ++ 32 ∷ 34 ∷ bytes) (sym (append_assoc value (34 ∷ 93 ∷ []) rest))
      ∙ sym (append_assoc name (32 ∷ 34 ∷ (value ++ 34 ∷ 93 ∷ [])) rest)

bracket : (fresh : Bool) → lead_of fresh 91 ≡ Bracket
unfolding lead_of
bracket true = refl
bracket false = refl

module _ (name value : List ℕ) (named : IsName name) (is_plain_value : list_all is_plain value ≡ true) (rest : List ℕ) where
  abbrev whole : List ℕ
  whole = name ++ 32 ∷ 34 ∷ (value ++ 34 ∷ 93 ∷ rest)

  abbrev left : List ℕ
  left = name ++ 32 ∷ 34 ∷ (value ++ 34 ∷ 93 ∷ [])

  shape-is : (fresh : Bool) → shape_of fresh 91 whole ≡ record { kind = Pair (record { name = name; value = value }); more = length left }
  unfolding pair_item_of
  shape-is fresh =
      let long : length whole - length rest ≡ length left = omega (arith, ap (λ (bytes : List ℕ). length bytes) (split name value named is_plain_value rest), length-append left rest) in
      ap (λ (l : Lead). shape_by l 91 whole) (bracket fresh)
      ∙ (ap (pair_within whole) (pair-is name value named is_plain_value rest)
      ∙ ap (λ (n : ℕ). record { kind = Pair (record { name = name; value = value }); more = n }) long)

  reads-pair : (tags : List Tag) (texts : List (List ℕ)) (ending : Ending) → Reads Heading rest tags texts ending
      → Reads Heading (91 ∷ whole) (record { name = name; value = value } ∷ tags) texts ending
  unfolding items_from
  reads-pair tags texts ending behind fresh place =
      let tag_here : Tag = record { name = name; value = value } in
      let over : Skipped (length left) left rest false (place + 1) = skip left rest false (place + 1) in
      let item : Item = record { kind = Pair tag_here; place = place; text = 91 ∷ take (length left) whole } in
      let moved : items_from (length left) false (place + 1) whole ≡ items_from 0 over.line over.next rest =
      ap (λ (bytes : List ℕ). items_from (length left) false (place + 1) bytes) (split name value named is_plain_value rest) ∙ over.is in
      subst (λ (s : Shape). Parted (meaning Heading (record { kind = s.kind; place = place; text = 91 ∷ take s.more whole } ∷ items_from s.more false (place + 1) whole)) (tag_here ∷ tags) texts ending)
      (sym (shape-is fresh))
      (subst (λ (row : List Item). Parted (meaning Heading (item ∷ row)) (tag_here ∷ tags) texts ending) (sym moved)
      (adds-tag item (items_from 0 over.line over.next rest) tag_here tags texts ending refl (behind over.line over.next)))

tag_line-is : (name value rest : List ℕ) → tag_line name value ++ rest ≡ 91 ∷ (name ++ 32 ∷ 34 ∷ (value ++ 34 ∷ 93 ∷ 10 ∷ rest))
tag_line-is name value rest =
    ap (λ (bytes : List ℕ). 91 ∷ bytes)
    (append_assoc (name ++ codes " \"" ++ value) (codes "\"]\n") rest
    ∙ (append_assoc (name ++ codes " \"") value (34 ∷ 93 ∷ 10 ∷ rest) ∙ append_assoc name (codes " \"") (value ++ 34 ∷ 93 ∷ 10 ∷ rest)))

pub reads-tag : (name value : List ℕ) → IsName name → list_all is_plain value ≡ true → (rest : List ℕ) (tags : List Tag) (texts : List (List ℕ)) (ending : Ending)
    → Reads Heading rest tags texts ending → Reads Heading (tag_line name value ++ rest) (record { name = name; value = value } ∷ tags) texts ending
reads-tag name value named is_plain_value rest tags texts ending behind =
    subst (λ (bytes : List ℕ). Reads Heading bytes (record { name = name; value = value } ∷ tags) texts ending) (sym (tag_line-is name value rest))
    (reads-pair name value named is_plain_value (10 ∷ rest) tags texts ending (reads-line rest tags texts ending behind))
