-- Laws: how items and tokens stand in a text.
use Rattle.std.specs.Prelude.{◌≡◌, ℕ, ◌+◌, ◌-◌, ◌<◌, ◌≤◌, Bool, true, false, not, ◌&&◌, ◌==◌, if◌then◌else◌, IsTrue, List, [], ◌∷◌, length, take, drop, ⊤}
use Rattle.explorer_model.specs.declared.archive.Token.{Token}
use Rattle.explorer_model.specs.Items.{Closes, Item, Kind, Opens, Word, continues_symbol}
use Rattle.pgn_lex.specs.Export.{IsPlainWord}
use Rattle.pgn_lex.specs.Reading.{token_of}

-- these bytes stand in the text at the place
abbrev pub StandsAt : List ℕ → ℕ → List ℕ → Type 0
StandsAt text place bytes = (0 < length bytes) × (take (length bytes) (drop place text) ≡ bytes)

-- from the place to the text's end, each item stands where the one before it ends
abbrev pub StandInARow : List ℕ → ℕ → List Item → Type 0
StandInARow text place [] = place ≡ length text
StandInARow text place (item ∷ items) =
    (item.place ≡ place) × StandsAt text place item.text
    × StandInARow text (place + length item.text) items

-- from the place on, each token stands behind the ones before it
abbrev pub StandApart : List ℕ → ℕ → List Token → Type 0
StandApart text place [] = ⊤
StandApart text place (token ∷ tokens) =
    (place ≤ token.place) × StandsAt text token.place token.text
    × StandApart text (token.place + length token.text) tokens

-- the bytes do not begin with one that continues a symbol
abbrev pub ends_symbol : List ℕ → Bool
ends_symbol [] = true
ends_symbol (b ∷ bytes) = not (continues_symbol b)

-- the token is the longest symbol that begins at its place, and no number and no termination
pub record IsWordAt (text : List ℕ) (token : Token) : Type 0 where
  pub plain : IsPlainWord token.text
  pub stands : StandsAt text token.place token.text
  pub ends : IsTrue (ends_symbol (drop (token.place + length token.text) text))

-- how many variations are open behind an item, where so many are open before it
abbrev pub open_behind : ℕ → Kind → ℕ
open_behind count Opens = count + 1
open_behind count Closes = count - 1
open_behind count _ = count

abbrev pub is_word : Kind → Bool
is_word Word = true
is_word _ = false

-- the words among the items that stand in no variation, where so many are open before them
abbrev pub words_outside : ℕ → List Item → List Token
words_outside count [] = []
words_outside count (item ∷ items) =
    let behind = words_outside (open_behind count item.kind) items in
    if count == 0 && is_word item.kind then token_of item ∷ behind else behind
