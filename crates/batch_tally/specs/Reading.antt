-- Bridge: texts that are replayed.
use Rattle.std.specs.Prelude.{◌≡◌, ℕ, ◌+◌, ◌++◌, ◌≤◌, Result, Vec, IfOk, List, [], ◌∷◌, length}
use Rattle.std.specs.List.{All}
use Rattle.std.specs.declared.alloc.AllocError.{AllocError}
use Rattle.std.specs.declared.alloc.Global.{Global}
use Rattle.explorer_model.specs.declared.archive.Placed.{Placed}
use Rattle.explorer_model.specs.Cuts.{text_limit}
use Rattle.explorer_model.specs.Games.{GameOf}
use Rattle.explorer_model.specs.Imports.{Replayed, Examination, Read}
use Rattle.batch_tally.specs.declared.reading.Contents.{Contents}
use Rattle.batch_tally.specs.declared.reading.Reading.{Reading}
use Rattle.batch_tally.specs.declared.reading.Run.{Run}
use Rattle.batch_tally.specs.declared.reading.RunPart.{RunPart}
use Rattle.tally_rows.specs.declared.single.Single.{Single}
use Rattle.batch_tally.specs.Singles.{AreSinglesOf, IsCountOf, part_of}

abbrev pub replayed_as : Reading → Replayed
replayed_as reading = record { place = reading.place; text = reading.text; game = reading.game }

abbrev pub examination_as : Reading → Examination
examination_as reading = Read (replayed_as reading)

-- the count is that of the game, where there is one
abbrev pub HasCount : Reading → Type 0
HasCount reading = IfOk reading.game (λ game. IsCountOf game reading.count)

-- the reading is that of the text
pub record IsReadingOf (text : Placed) (reading : Reading) : Type 0 where
  pub place : reading.place ≡ text.place
  pub bytes : reading.text ≡ text.bytes
  pub game : GameOf text.bytes reading.game
  pub counted : HasCount reading

-- the contents are those of the text
pub record AreContentsOf (text : Placed) (contents : Contents) : Type 0 where
  pub game : GameOf text.bytes contents.game
  pub counted : IfOk contents.game (λ game. IsCountOf game contents.count)

-- the part has the game of the text, whose singles stand among these
pub record IsPartOf (singles : List Single) (text : Placed) (part : RunPart) : Type 0 where
  pub game : GameOf text.bytes part.game
  pub within : part.from + part.number ≤ length singles
  pub counted : IfOk part.game (λ game. AreSinglesOf game (part_of singles part.from part.number))

-- and they stand behind those that were there before
pub record IsReadBehind (before after : List Single) (text : Placed) (part : RunPart) : Type 0 where
  pub own : List Single
  pub pushed : after ≡ before ++ own
  pub is_part : IsPartOf after text part

-- the text with its contents
abbrev pub reading_of : Placed → Contents → Reading
reading_of text contents = record {
  place = text.place;
  text = text.bytes;
  game = contents.game;
  count = contents.count;
}

-- each text with its contents
abbrev pub readings_of : List Placed → List Contents → List Reading
readings_of [] contents = []
readings_of (text ∷ texts) [] = []
readings_of (text ∷ texts) (one ∷ contents) = reading_of text one ∷ readings_of texts contents

abbrev pub AreShort : List Placed → Type 0
AreShort texts = All (λ text. length text.bytes ≤ text_limit) texts

-- the texts of a run
abbrev pub run_of : List Placed → Run → List Placed
run_of texts run = part_of texts run.from run.number

-- the runs stand one behind another, from a place on up to an end
abbrev pub AreRunsFrom : ℕ → ℕ → List Run → Type 0
AreRunsFrom from end [] = from ≡ end
AreRunsFrom from end (run ∷ runs) =
    (run.from ≡ from) × AreRunsFrom (from + run.number) end runs

-- what is made of a run: the contents of its texts, or want of memory
abbrev pub RunMade : Type 0
RunMade = Result (Vec Contents Global) AllocError
