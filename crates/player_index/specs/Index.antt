-- Statement: what an index has of the games of a journal.
use Rattle.std.specs.Prelude.{◌≡◌, ℕ, ◌≤◌, List, [], map, length, slice_range, Option, None, Some}
use Rattle.std.specs.List.{All}
use Rattle.explorer_model.specs.declared.archive.Batch.{Batch}
use Rattle.explorer_model.specs.declared.archive.Classes.{Classes}
use Rattle.explorer_model.specs.declared.archive.Game.{Game}
use Rattle.explorer_model.specs.declared.chess.Color.{Color}
use Rattle.explorer_model.specs.Players.{plays_as}
use Rattle.explorer_model.specs.Visits.{AreGamesOf}
use Rattle.published_index.specs.Cover.{journal_of}
use Rattle.segment_blocks.specs.Segment.{CountedSpan}
use Rattle.player_index.specs.declared.entry.Entry.{Entry}
use Rattle.player_index.specs.Entries.{entries_in, numbers_where}

-- what the tags say of the games of a journal, in the order of their numbers
pub record AreClassesOf (journal : List Batch) (classes : List Classes) : Type 0 where
  pub games : List Game
  pub are_games : AreGamesOf journal games
  pub are_classes : classes ≡ map (λ game. game.classes) games

-- the batches that an index covers, and its entries
pub record Indexed : Type 0 where
  pub batches : List Batch
  pub entries : List Entry

-- the entries are those of all games of the batches, in their order
pub record IsIndexed (index : Indexed) : Type 0 where
  pub classes : List Classes
  pub are_classes : AreClassesOf index.batches classes
  pub in_order : index.entries ≡ entries_in classes

-- ---- bridge: how the code holds an index

-- the list that was covered last; at first none was
abbrev pub list_of : Option (List CountedSpan) → List CountedSpan
list_of None = []
list_of (Some list) = list

abbrev pub indexed : Option (List CountedSpan) → List Entry → Indexed
indexed covered entries = record { batches = journal_of (list_of covered); entries = entries }

-- the entries are those of the games of the journal, of which there are so many
pub record IsIndex (journal : List Batch) (entries : List Entry) (batches games : ℕ) : Type 0 where
  pub classes : List Classes
  pub are_classes : AreClassesOf journal classes
  pub in_order : entries ≡ entries_in classes
  pub batch_count : batches ≡ length journal
  pub game_count : games ≡ length classes

-- the entries of a player in a colour stand between two places
pub record IsRange (classes : List Classes) (entries : List Entry) (player : List ℕ) (color : Color)
    (from to : ℕ) : Type 0 where
  pub ordered : from ≤ to
  pub within : to ≤ length entries
  pub numbers : map (λ entry. entry.number) (slice_range entries from to)
      ≡ numbers_where (plays_as player color) 0 classes
  pub colors : All (λ entry. entry.color ≡ color) (slice_range entries from to)
