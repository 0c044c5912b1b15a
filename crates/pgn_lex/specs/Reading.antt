-- Bridge: a text that is read up to a place.
use Rattle.std.specs.Prelude.{◌≡◌, ℕ, ◌+◌, ◌≤◌, List, [], ◌∷◌, ◌++◌, length, map, drop, Result, Ok, if◌then◌else◌}
use Rattle.explorer_model.specs.declared.archive.Parts.{Parts}
use Rattle.explorer_model.specs.declared.archive.Tag.{Tag}
use Rattle.explorer_model.specs.declared.archive.Token.{Token}
use Rattle.explorer_model.specs.declared.fault.LexFault.{LexFault}
use Rattle.explorer_model.specs.Items.{Kind, Pair, Word, Item, items_from}
use Rattle.explorer_model.specs.Parts.{at_end, is_in_variation, meaning, parts}
use Rattle.explorer_model.specs.Parts as model
use Rattle.explorer_model.specs.Stop.{◌>>=◌}
use Rattle.pgn_lex.specs.declared.reading.Section.{Section}
use Rattle.pgn_lex.specs.declared.reading.Section.TheVariants as sections
use Rattle.pgn_lex.specs.declared.reading.Found.{Found}
use Rattle.pgn_lex.specs.Items.{begins_line}
use Rattle.pgn_lex.specs.Span.{token_in}

abbrev pub section_as : Section → model.Section
section_as sections.Heading = model.Heading
section_as sections.Moves = model.Moves
section_as (sections.Variation inner outer) = model.Variation inner outer
section_as (sections.Ended ending) = model.Ended ending

-- how many variations are open
abbrev pub depth_of : model.Section → ℕ
depth_of (model.Variation inner outer) = inner + 1
depth_of _ = 0

-- the tags and tokens before a place
pub record Front : Type 0 where
  pub tags : List Tag
  pub tokens : List Token

abbrev pub front_of : List ℕ → Found → Front
front_of text found =
    record { tags = found.tags.items; tokens = map (token_in text) found.spans.items }

abbrev pub token_of : Item → Token
token_of item = record { place = item.place; text = item.text }

abbrev pub added_kind : Kind → Item → Front → Front
added_kind (Pair tag) item front = record front { tags = front.tags ++ tag ∷ [] }
added_kind Word item front = record front { tokens = front.tokens ++ token_of item ∷ [] }
added_kind _ item front = front

-- an item behind the front
abbrev pub added : model.Section → Item → Front → Front
added section item front =
    if is_in_variation section then front else added_kind item.kind item front

-- the parts from a place on behind the front
abbrev pub onto : Front → Parts → Parts
onto front parts =
    record parts { tags = front.tags ++ parts.tags; tokens = front.tokens ++ parts.tokens }

abbrev pub with_front : Front → Result Parts LexFault → Result Parts LexFault
with_front front reading = reading >>= λ parts. Ok (onto front parts)

abbrev pub finished : model.Section → Front → Result Parts LexFault
finished section front = with_front front (at_end section)

-- what is read before the place, and then the rest of the text
pub record IsReadUpTo (text : List ℕ) (at : ℕ) (section : model.Section)
    (front : Front) : Type 0 where
  pub within : at ≤ length text
  pub depth : depth_of section ≤ at
  pub goes_on : with_front front
      (meaning section (items_from 0 (begins_line at text) at (drop at text))) ≡ parts text
