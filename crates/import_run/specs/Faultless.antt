-- Laws: imports without faults.
use Rattle.std.specs.Prelude.{◌≡◌, ⊤, ◌<◌, ◌+◌, ◌-◌, ◌^◌, ℕ, List, [], ◌++◌, Some, None, length, map, sum_by}
use Rattle.std.specs.List.{AllZip}
use Rattle.disk_model.specs.Disk.{DiskState}
use Rattle.explorer_model.specs.declared.archive.Batch.{Batch}
use Rattle.explorer_model.specs.declared.archive.Game.{Game}
use Rattle.explorer_model.specs.declared.archive.Placed.{Placed}
use Rattle.explorer_model.specs.declared.fault.Refusal.{Refusal}
use Rattle.explorer_model.specs.Cuts.{Text, cuts}
use Rattle.explorer_model.specs.Journal.{AreWithin, HaveDifferentIds, byte_count, game_count, input_limit}
use Rattle.explorer_model.specs.Visits.{IsTextOf, texts_of}
use Rattle.outside.specs.Stream.{Stream}
use Rattle.ingest_desk.specs.Stored.{Stored}
use Rattle.ingest_desk.specs.declared.report.End.{End}
use Rattle.ingest_desk.specs.declared.report.End.TheVariants as ends

-- the stream is told and below the bound, the store is open, and neither count of faults stands at
-- its greatest number
pub record CanEnd {D : Type 0} (disk : D → DiskState) (source : Stream) (store : Stored D)
    : Type 0 where
  pub bytes : List ℕ
  pub told : source.left ≡ Some bytes
  pub below : length bytes < input_limit
  pub reads : source.read_faults < 2 ^ 64 - 1
  pub sound : store.manifest.fault ≡ None
  pub calls : (disk store.manifest.disk).faults < 2 ^ 64 - 1

-- no read and no call of the disk failed
pub record IsFaultless {D : Type 0} (disk : D → DiskState) (source source_after : Stream)
    (before after : Stored D) : Type 0 where
  pub reads : source_after.read_faults ≡ source.read_faults
  pub calls : (disk after.manifest.disk).faults ≡ (disk before.manifest.disk).faults

-- the whole stream was settled, a group found no room, or memory was wanting
abbrev pub EndsWithoutFault : {J : Type 0} → End J → Type 0
EndsWithoutFault ends.Whole = ⊤
EndsWithoutFault (ends.Full games bytes note) = ⊤
EndsWithoutFault ends.OutOfMemory = ⊤
EndsWithoutFault _ = ⊥

-- ---- streams of new games

abbrev pub HasGame : Placed → Game → Type 0
HasGame text game = IsTextOf text.bytes game

-- each cut of the stream is a text with a game, and no two of these games and the stored ones have
-- one id
pub record HasNewGames (stored : List Game) (bytes : List ℕ) : Type 0 where
  pub texts : List Placed
  pub all : cuts bytes ≡ map (λ text. Text text) texts
  pub games : List Game
  pub are_games : AllZip HasGame texts games
  pub different : HaveDifferentIds (map (λ game. game.classes) (stored ++ games))

-- the texts pass no limit behind the journal
abbrev pub FindRoom : List Batch → List Placed → Type 0
FindRoom journal texts = AreWithin (game_count journal + length texts)
    (byte_count journal + sum_by (λ text. length text.bytes) texts)

-- all the texts stand behind those of the journal, in their order, and none is refused; or memory
-- was wanting
abbrev pub StoresAll : {J : Type 0} → End J → List Batch → List Placed → List Refusal → List Batch
    → Type 0
StoresAll ends.Whole before texts refused after =
    (refused ≡ []) × (texts_of after ≡ texts_of before ++ map (λ text. text.bytes) texts)
StoresAll ends.OutOfMemory before texts refused after = ⊤
StoresAll _ before texts refused after = ⊥
