-- A line is read column by column.
use Rattle.std.proofs.Common.{◌≡◌, ℕ, ◌<◌, Bool, true, false, true≢false, ◌&&◌, MatchBool, nat_le, if◌then◌else◌, List, [], ◌∷◌, length, is_some, Bor, Option, Some, None, Result, Ok, Err, refl, sym, ap, subst, ◌∙◌, arith}
use Rattle.std.specs.List.{slice_split}
use Rattle.std.specs.Option.{option_copied}
use Rattle.std.specs.Prelude.{option_map}
use Rattle.std.specs.Str.{IsUtf8, is_utf8}
use Rattle.std.proofs.lemmas.Bool.{false_from_ne_true}
use Rattle.std.proofs.lemmas.List.Splits.{length-slice_split}
use Rattle.std.proofs.lemmas.Option.{none-some, same_Some}
use Rattle.std.proofs.lemmas.Str.{IsUtf8-from_is_utf8, is_utf8-from_IsUtf8}
use Rattle.explorer_model.specs.declared.chess.Position.{Position}
use Rattle.explorer_model.specs.declared.opening.BookCause.{BookCause}
use Rattle.explorer_model.specs.declared.opening.BookCause.TheVariants.{NotUtf8, TooLong, BadMove}
use Rattle.explorer_model.specs.Chess.{start}
use Rattle.explorer_model.specs.Classes.{name_of}
use Rattle.explorer_model.specs.Openings.{Columns, ColumnsRead, Leads, NamedPosition, is_tab, move_limit, named_by, three_columns, words_of}
use Rattle.opening_names.specs.Reading.{pieces_left}

-- ---- texts

pub is-text : (bytes text : List ℕ) → Some text ≡ name_of bytes → (is_utf8 bytes ≡ true) × (text ≡ bytes)
unfolding name_of
is-text bytes text is = by (is_utf8 bytes) refl is
  where
    by : (b : Bool) → is_utf8 bytes ≡ b → Some text ≡ (if b then Some bytes else None) → (is_utf8 bytes ≡ true) × (text ≡ bytes)
    by true utf8 same = (utf8, same_Some text bytes same)
    by false utf8 same = absurd (none-some text (sym same))

pub is-no-text : (bytes : List ℕ) → None ≡ name_of bytes → is_utf8 bytes ≡ false
unfolding name_of
is-no-text bytes is = by (is_utf8 bytes) refl is
  where
    by : (b : Bool) → is_utf8 bytes ≡ b → None ≡ (if b then Some bytes else None) → is_utf8 bytes ≡ false
    by true utf8 same = absurd (none-some bytes same)
    by false utf8 same = utf8

pub is-none : (o : Option (Bor (List ℕ))) (bytes : List ℕ) → option_map (λ text. text.now) o ≡ name_of bytes → o ≡ None → None ≡ name_of bytes
is-none o bytes reads is = sym (ap (λ o. option_map (λ (text : Bor (List ℕ)). text.now) o) is) ∙ reads

pub is-some : (o : Option (Bor (List ℕ))) (text : Bor (List ℕ)) (bytes : List ℕ) → option_map (λ text. text.now) o ≡ name_of bytes → o ≡ Some text → Some text.now ≡ name_of bytes
is-some o text bytes reads is = sym (ap (λ o. option_map (λ (text : Bor (List ℕ)). text.now) o) is) ∙ reads

-- ---- columns

more-columns : (eco name moves : List ℕ) (pieces : List (List ℕ)) → 0 < length pieces → three_columns (eco ∷ name ∷ moves ∷ pieces) ≡ None
more-columns eco name moves [] some = absurd (omega arith)
more-columns eco name moves (piece ∷ pieces) some = refl

pieces-some : (rest : Option (Bor (List ℕ))) → is_some rest ≡ true → 0 < length (pieces_left is_tab (option_copied rest))
pieces-some None some = absurd (true≢false (sym some))
pieces-some (Some text) some = omega (arith, length-slice_split is_tab text.now)

-- the line has a third tab
pub columns-more : (line eco name moves first second : List ℕ) (rest more last : Option (Bor (List ℕ)))
    → slice_split is_tab line ≡ eco ∷ pieces_left is_tab (option_copied rest) → option_copied rest ≡ Some first
    → slice_split is_tab first ≡ name ∷ pieces_left is_tab (option_copied more) → option_copied more ≡ Some second
    → slice_split is_tab second ≡ moves ∷ pieces_left is_tab (option_copied last) → is_some last ≡ true
    → None ≡ three_columns (slice_split is_tab line)
columns-more line eco name moves first second rest more last cut rest_is cut_first more_is cut_second some =
    let pieces = pieces_left is_tab (option_copied last) in
    let one : slice_split is_tab line ≡ eco ∷ slice_split is_tab first = cut ∙ ap (λ o. eco ∷ pieces_left is_tab o) rest_is in
    let two : slice_split is_tab first ≡ name ∷ slice_split is_tab second = cut_first ∙ ap (λ o. name ∷ pieces_left is_tab o) more_is in
    let all : slice_split is_tab line ≡ eco ∷ name ∷ moves ∷ pieces =
    one ∙ (ap (λ l. eco ∷ l) two ∙ ap (λ l. eco ∷ name ∷ l) cut_second) in
    sym (ap three_columns all ∙ more-columns eco name moves pieces (pieces-some last some))

module _ (columns : Columns) where
  abbrev pub Short : Result NamedPosition BookCause → Type 0
  Short reading = (end : Option Position) × Leads start (words_of columns.moves) end × (reading ≡ named_by columns end)

  abbrev pub Told : Result NamedPosition BookCause → Type 0
  Told reading = MatchBool (nat_le (length (words_of columns.moves)) move_limit) (Short reading) (reading ≡ Err TooLong)

  untold : (reading : Result NamedPosition BookCause) → reading ≡ Err NotUtf8 → is_utf8 columns.eco && is_utf8 columns.name ≡ false
      → ColumnsRead (Some columns) reading
  untold reading is other =
      let M : Bool → Type 0 = λ b. MatchBool b (Told reading) (reading ≡ Err NotUtf8) in
      let at : M false = is in
      subst M (sym other) at

  pub code-untold : None ≡ name_of columns.eco → ColumnsRead (Some columns) (Err NotUtf8)
  code-untold eco = untold (Err NotUtf8) refl (ap (λ b. b && is_utf8 columns.name) (is-no-text columns.eco eco))

  pub name-untold : None ≡ name_of columns.name → ColumnsRead (Some columns) (Err NotUtf8)
  name-untold name = untold (Err NotUtf8) refl (ap (λ b. is_utf8 columns.eco && b) (is-no-text columns.name name) ∙ never (is_utf8 columns.eco))
    where
      never : (b : Bool) → b && false ≡ false
      never true = refl
      never false = refl

  module _ (eco name : List ℕ) (is_eco : Some eco ≡ name_of columns.eco) (is_name : Some name ≡ name_of columns.name) where
    told : (reading : Result NamedPosition BookCause) → Told reading → ColumnsRead (Some columns) reading
    told reading read =
        let M : Bool → Type 0 = λ b. MatchBool b (Told reading) (reading ≡ Err NotUtf8) in
        let at : M true = read in
        let utf8 : is_utf8 columns.eco && is_utf8 columns.name ≡ true =
        ap (λ b. b && is_utf8 columns.name) (is-text columns.eco eco is_eco).0 ∙ (is-text columns.name name is_name).0 in
        subst M (sym utf8) at

    longly : (reading : Result NamedPosition BookCause) → reading ≡ Err TooLong → nat_le (length (words_of columns.moves)) move_limit ≡ false
        → ColumnsRead (Some columns) reading
    longly reading is long =
        let M : Bool → Type 0 = λ b. MatchBool b (Short reading) (reading ≡ Err TooLong) in
        let at : M false = is in
        told reading (subst M (sym long) at)

    pub too-long : nat_le (length (words_of columns.moves)) move_limit ≡ false → ColumnsRead (Some columns) (Err TooLong)
    too-long long = longly (Err TooLong) refl long

    module _ (short : nat_le (length (words_of columns.moves)) move_limit ≡ true) where
      shortly : (reading : Result NamedPosition BookCause) → Short reading → ColumnsRead (Some columns) reading
      shortly reading read =
          let M : Bool → Type 0 = λ b. MatchBool b (Short reading) (reading ≡ Err TooLong) in
          let at : M true = read in
          told reading (subst M (sym short) at)

      pub bad-move : Leads start (words_of columns.moves) None → ColumnsRead (Some columns) (Err BadMove)
      bad-move leads = shortly (Err BadMove) (None, leads, refl)

      pub well-read : (p : Position) → Leads start (words_of columns.moves) (Some p)
          → ColumnsRead (Some columns) (Ok (record { position = p; opening = record { eco = eco; name = name } }))
      well-read p leads =
          let reading : List ℕ → List ℕ → Result NamedPosition BookCause = λ eco name. Ok (record { position = p; opening = record { eco = eco; name = name } }) in
          let same_eco : columns.eco ≡ eco = sym (is-text columns.eco eco is_eco).1 in
          let same_name : columns.name ≡ name = sym (is-text columns.name name is_name).1 in
          shortly (reading eco name) (Some p, leads, λ i. reading (sym same_eco i) (sym same_name i))
