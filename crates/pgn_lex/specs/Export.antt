-- Laws: a game's text as it is written out plainly (PGN 8): a line for each tag, the words of the
-- movetext with a space behind each, and the termination.
use Rattle.std.specs.Prelude.{◌≡◌, ℕ, ◌+◌, ◌<◌, ◌||◌, not, ◌==◌, if◌then◌else◌, Bool, false, ◌&&◌, IsTrue, Option, Some, None, List, [], ◌∷◌, ◌++◌, length, flat_map, codes}
use Rattle.std.specs.List.{list_all}
use Rattle.std.specs.Str.{byte}
use Rattle.explorer_model.specs.declared.archive.Ending.{Ending}
use Rattle.explorer_model.specs.declared.archive.Ending.TheVariants.{WhiteWins, BlackWins, Drawn, Unknown}
use Rattle.explorer_model.specs.declared.archive.Parts.{Parts}
use Rattle.explorer_model.specs.declared.archive.Tag.{Tag}
use Rattle.explorer_model.specs.declared.archive.Token.{Token}
use Rattle.explorer_model.specs.Items.{Word, begins_symbol, continues_symbol, ends_line, is_of_name, kind_of_symbol}

-- ---- tags

-- a quote and a backslash have a backslash before them
abbrev pub is_special : ℕ → Bool
is_special b = b == byte "\"" || b == byte "\\"

abbrev pub escaped : List ℕ → List ℕ
escaped [] = []
escaped (b ∷ bytes) = if is_special b then byte "\\" ∷ b ∷ escaped bytes else b ∷ escaped bytes

abbrev pub tag_text : Tag → List ℕ
tag_text tag = byte "[" ∷ (tag.name ++ (codes " \"" ++ (escaped tag.value ++ codes "\"]\n")))

-- a name has one byte or more, and no line ends within a value
pub record IsPlainTag (tag : Tag) : Type 0 where
  pub some : 0 < length tag.name
  pub name : IsTrue (list_all is_of_name tag.name)
  pub value : IsTrue (list_all (λ b. not (ends_line b)) tag.value)

-- ---- words

abbrev pub word_text : List ℕ → List ℕ
word_text word = word ++ codes " "

abbrev pub begins_well : List ℕ → Bool
begins_well [] = false
begins_well (b ∷ bytes) = begins_symbol b && list_all continues_symbol bytes

-- a symbol that is neither a number nor a termination
pub record IsPlainWord (word : List ℕ) : Type 0 where
  pub symbol : IsTrue (begins_well word)
  pub kind : kind_of_symbol word ≡ Word

-- the words as tokens, the first at the place
abbrev pub tokens_at : ℕ → List (List ℕ) → List Token
tokens_at place [] = []
tokens_at place (word ∷ words) =
    record { place = place; text = word } ∷ tokens_at (place + length (word_text word)) words

-- ---- the whole text

abbrev pub ending_text : Option Ending → List ℕ
ending_text None = []
ending_text (Some WhiteWins) = codes "1-0"
ending_text (Some BlackWins) = codes "0-1"
ending_text (Some Drawn) = codes "1/2-1/2"
ending_text (Some Unknown) = codes "*"

abbrev pub heading : List Tag → List ℕ
heading tags = flat_map tag_text tags

abbrev pub movetext : List (List ℕ) → Option Ending → List ℕ
movetext words ending = flat_map word_text words ++ ending_text ending

abbrev pub export_text : List Tag → List (List ℕ) → Option Ending → List ℕ
export_text tags words ending = heading tags ++ movetext words ending

-- what it says
abbrev pub export_parts : List Tag → List (List ℕ) → Option Ending → Parts
export_parts tags words ending = record {
  tags = tags;
  tokens = tokens_at (length (heading tags)) words;
  termination = ending;
}
