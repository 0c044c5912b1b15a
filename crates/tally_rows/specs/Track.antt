-- Statement: a game as the positions that it visits.
use Rattle.std.specs.Prelude.{ℕ, Bool, false, List, Option, None, Some, option_map, bytes_eq}
use Rattle.std.specs.List.{find}
use Rattle.explorer_model.specs.declared.archive.Classes.{Classes}
use Rattle.explorer_model.specs.declared.chess.Move.{Move}
use Rattle.tally_rows.specs.declared.row_key.RowKey.{RowKey}
use Rattle.tally_rows.specs.RowKey.{same_row_key}

-- a position by its key, and the move that follows there, or none where the game ends there
pub record Step : Type 0 where
  pub key : List ℕ
  pub next : Option Move

-- what a game's tags say, and its positions in their order, as far as they count
pub record Track : Type 0 where
  pub classes : Classes
  pub steps : List Step

-- what follows in a position where the track first comes to it, or nothing where it never does
unfoldable pub visit : List ℕ → Track → Option (Option Move)
visit key track = option_map (λ step. step.next) (find (λ step. bytes_eq step.key key) track.steps)

-- the parts that the track has in a position
unfoldable pub row_keys_at : List ℕ → Track → Option RowKey
row_keys_at key track = option_map
    (λ next. record {
      key = key;
      next = next;
      month = track.classes.month;
      speed = track.classes.speed;
      group = track.classes.group;
    })
    (visit key track)

-- whether there is a value, and it passes the test
abbrev pub is_some_where : {A : Type 0} → (A → Bool) → Option A → Bool
is_some_where test None = false
is_some_where test (Some value) = test value

-- whether the track visits the position of the parts, and has them there
unfoldable pub has : RowKey → Track → Bool
has row_key track = is_some_where (same_row_key row_key) (row_keys_at row_key.key track)
