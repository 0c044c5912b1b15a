-- Bridge: the games of entries, as they are found by their numbers.
use Rattle.std.specs.Prelude.{◌≡◌, ℕ, Bool, List, filter_map, take}
use Rattle.std.specs.List.{flat_map}
use Rattle.best_lists.specs.declared.entry.Entry.{Entry}
use Rattle.explorer_model.specs.declared.answer.Listed.{Listed}
use Rattle.explorer_model.specs.declared.archive.Classes.{Classes}
use Rattle.lookup.specs.Parts.{Part}
use Rattle.row_sums.specs.Hits.{NumberedRow}
use Rattle.row_sums.specs.Listing.{AreBestOf, listed_where}
use Rattle.tally_rows.specs.declared.row.Row.{Row}

-- what is known of all games, in the order of their numbers
abbrev pub all_classes : List Part → List Classes
all_classes parts = flat_map (λ part. part.classes) parts

-- the first games of the best entries of rows, found by their numbers in some of these rows
pub record AreListed (before : Entry → Entry → Bool) (list : Row → List Entry)
    (games : List Classes) (hits : List NumberedRow) (most : ℕ) (listed : List Listed) : Type 0
  where
    pub rows : List NumberedRow
    pub entries : List Entry
    pub are_best : AreBestOf before list hits hits rows entries
    pub are_listed : listed
        ≡ filter_map (λ entry. listed_where list games rows entry.number) (take most entries)
