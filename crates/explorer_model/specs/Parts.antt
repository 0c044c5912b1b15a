-- Statement: what the items of a game's text mean: its tags, its move tokens and its termination,
-- or the first fault (PGN 8).
use Rattle.std.specs.Prelude.{ℕ, ◌+◌, ◌-◌, Bool, true, false, List, [], ◌∷◌, Option, Some, None, Result, Ok, Err, ok_or, ◌==◌, if◌then◌else◌}
use Rattle.explorer_model.specs.declared.archive.Ending.{Ending}
use Rattle.explorer_model.specs.declared.archive.Parts.{Parts}
use Rattle.explorer_model.specs.declared.fault.LexFault.{LexFault}
use Rattle.explorer_model.specs.Items.{Kind, Blank, Pair, Terminates, Word, Dropped, Opens, Closes, Item, items}
use Rattle.explorer_model.specs.Stop.{◌>>=◌}

-- where in a text an item stands
pub data Section : Type 0 where
  -- among the tag pairs
  Heading : Section
  -- in the movetext, outside variations
  Moves : Section
  -- within a variation, that many more of which are open within the outermost, and that one's place
  Variation : ℕ → ℕ → Section
  -- after the termination
  Ended : Ending → Section

abbrev pub after_in_moves : Kind → ℕ → Option Section
after_in_moves (Terminates ending) place = Some (Ended ending)
after_in_moves Word place = Some Moves
after_in_moves Dropped place = Some Moves
after_in_moves Opens place = Some (Variation 0 place)
after_in_moves _ place = None

abbrev pub after_in_variation : ℕ → ℕ → Kind → Option Section
after_in_variation inner outer (Terminates ending) = Some (Variation inner outer)
after_in_variation inner outer Word = Some (Variation inner outer)
after_in_variation inner outer Dropped = Some (Variation inner outer)
after_in_variation inner outer Opens = Some (Variation (inner + 1) outer)
after_in_variation inner outer Closes =
    Some (if inner == 0 then Moves else Variation (inner - 1) outer)
after_in_variation inner outer _ = None

abbrev pub after_in_heading : Kind → ℕ → Option Section
after_in_heading (Pair tag) place = Some Heading
after_in_heading kind place = after_in_moves kind place

-- where the text stands after an item at a place, or nothing where such an item must not stand
abbrev pub after : Section → Kind → ℕ → Option Section
after section Blank place = Some section
after Heading kind place = after_in_heading kind place
after Moves kind place = after_in_moves kind place
after (Variation inner outer) kind place = after_in_variation inner outer kind
after (Ended ending) kind place = None

abbrev pub is_in_variation : Section → Bool
is_in_variation (Variation inner outer) = true
is_in_variation _ = false

abbrev pub with_kind : Kind → Item → Parts → Parts
with_kind (Pair tag) item parts = record parts { tags = tag ∷ parts.tags }
with_kind Word item parts =
    record parts { tokens = record { place = item.place; text = item.text } ∷ parts.tokens }
with_kind _ item parts = parts

-- an item before the parts of the text after it; within a variation it adds nothing
abbrev pub with_item : Section → Item → Parts → Parts
with_item section item parts =
    if is_in_variation section then parts else with_kind item.kind item parts

abbrev pub nothing_but : Option Ending → Parts
nothing_but termination = record { tags = []; tokens = []; termination = termination }

-- at the text's end no variation is open
abbrev pub at_end : Section → Result Parts LexFault
at_end Heading = Ok (nothing_but None)
at_end Moves = Ok (nothing_but None)
at_end (Variation inner outer) = Err (record { place = outer })
at_end (Ended ending) = Ok (nothing_but (Some ending))

unfoldable pub meaning : Section → List Item → Result Parts LexFault
meaning section [] = at_end section
meaning section (item ∷ items) = do
  next ← ok_or (after section item.kind item.place) (record { place = item.place })
  parts ← meaning next items
  Ok (with_item section item parts)

unfoldable pub parts : List ℕ → Result Parts LexFault
parts text = meaning Heading (items text)
