-- Bridge: the games of entries, as they are looked up by their numbers.
use Rattle.std.specs.Prelude.{◌≡◌, ℕ, ◌+◌, ◌==◌, Bool, List, Option, None, option_map, option_and_then}
use Rattle.std.specs.List.{All, Contains, find, flat_map, list_any, slice_get}
use Rattle.best_lists.specs.declared.entry.Entry.{Entry}
use Rattle.explorer_model.specs.Best.{best}
use Rattle.explorer_model.specs.declared.answer.Listed.{Listed}
use Rattle.explorer_model.specs.declared.archive.Classes.{Classes}
use Rattle.explorer_model.specs.declared.chess.Move.{Move}
use Rattle.row_sums.specs.declared.listing.Listing.{Listing}
use Rattle.row_sums.specs.declared.listing.Listing.TheVariants.{Top, Recent}
use Rattle.row_sums.specs.declared.moves.Shown.{Shown}
use Rattle.row_sums.specs.declared.moves.Shown.TheVariants.{One}
use Rattle.row_sums.specs.Hits.{NumberedRow}
use Rattle.row_sums.specs.Sums.{any_row, entries_where}
use Rattle.segment_blocks.specs.Segment.{CountedSpan}
use Rattle.tally_rows.specs.declared.row.Row.{Row}

-- the entries of a list of a row
abbrev pub list_of : Listing → Row → List Entry
list_of Top row = row.top
list_of Recent row = row.recent

module _ (list : Row → List Entry) where
  -- whether the row lists the game of a number among all games
  abbrev pub lists_number : ℕ → NumberedRow → Bool
  lists_number number hit = list_any (λ entry. entry.number + hit.first == number) (list hit.row)

  -- the move of the first row that lists the game
  unfoldable pub next_where : List NumberedRow → ℕ → Option Move
  next_where hits number = option_and_then (λ hit. hit.row.next) (find (lists_number number) hits)

-- what is known of the games of segments, in the order of their numbers
abbrev pub classes_in : List CountedSpan → List Classes
classes_in segments = flat_map (λ segment. segment.classes) segments

-- the game of a number, where this move follows in it
abbrev pub listed_as : List Classes → Move → ℕ → Option Listed
listed_as games next number =
    option_map (λ classes. record { next = next; classes = classes }) (slice_get games number)

-- the game of a number, with its move
abbrev pub listed_where : (Row → List Entry) → List Classes → List NumberedRow → ℕ → Option Listed
listed_where list games hits number =
    option_and_then (λ next. listed_as games next number) (next_where list hits number)

-- the game of a move, where what is shown of the move is one game
abbrev pub shown_game : List Classes → Move → Shown → Option Listed
shown_game games next (One entry) = listed_as games next entry.number
shown_game games next _ = None

-- the best entries of rows, and some rows of all that list them
pub record AreBestOf (before : Entry → Entry → Bool) (list : Row → List Entry)
    (all hits rows : List NumberedRow) (entries : List Entry) : Type 0 where
  pub of_all : entries ≡ best before 4 (entries_where hits any_row list)
  pub of_rows : entries ≡ best before 4 (entries_where rows any_row list)
  pub among : All (Contains all) rows
