-- Statement: a journal is a list of batches, which are stored one after another.
use Rattle.std.specs.Prelude.{◌≡◌, ◌≢◌, true, ◌<◌, ◌≤◌, ◌^◌, ℕ, List, length, map, sum_by}
use Rattle.std.specs.List.{All, AllPairs, AllZip}
use Rattle.explorer_model.specs.declared.archive.Batch.{Batch}
use Rattle.explorer_model.specs.declared.archive.Classes.{Classes}
use Rattle.explorer_model.specs.declared.archive.Game.{Game}
use Rattle.explorer_model.specs.Cuts.{text_limit}
use Rattle.explorer_model.specs.Imports.{group_limit}
use Rattle.explorer_model.specs.Labels.{is_label}
use Rattle.explorer_model.specs.Visits.{IsTextOf, AreGamesOf, texts_of}

-- ---- limits

-- the most bytes that one import takes
abbrev pub input_limit : ℕ
input_limit = 2 ^ 40

-- the most games of a journal
abbrev pub game_limit : ℕ
game_limit = 262144

-- the most bytes of its texts
abbrev pub byte_limit : ℕ
byte_limit = 536870912

-- how many games a journal has: each of its texts has one
abbrev pub game_count : List Batch → ℕ
game_count journal = length (texts_of journal)

-- how many bytes its texts have
abbrev pub byte_count : List Batch → ℕ
byte_count journal = sum_by (λ text. length text) (texts_of journal)

abbrev pub AreWithin : ℕ → ℕ → Type 0
AreWithin games bytes = (games ≤ game_limit) × (bytes ≤ byte_limit)

-- the journal passes no limit
abbrev pub IsWithin : List Batch → Type 0
IsWithin journal = AreWithin (game_count journal) (byte_count journal)

-- ---- batches and journals

-- a label, and one to 512 texts that can be read, each with a game
pub record IsBatch (batch : Batch) : Type 0 where
  pub label : is_label batch.label ≡ true
  pub some : 0 < length batch.texts
  pub few : length batch.texts ≤ group_limit
  pub short : All (λ text. length text ≤ text_limit) batch.texts
  pub games : List Game
  pub are_games : AllZip IsTextOf batch.texts games

-- no two games of these classes have one id
abbrev pub HaveDifferentIds : List Classes → Type 0
HaveDifferentIds classes = AllPairs (λ a b. a.id.bytes ≢ b.id.bytes) classes

-- a journal that imports make
pub record IsSound (journal : List Batch) : Type 0 where
  pub batches : All IsBatch journal
  pub games : List Game
  pub are_games : AreGamesOf journal games
  pub different : HaveDifferentIds (map (λ game. game.classes) games)
  pub within : IsWithin journal
