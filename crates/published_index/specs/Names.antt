-- Statement: the name of an index.
use Rattle.std.specs.Prelude.{[]}
use Rattle.logbook.specs.Pages.{Book}
use Rattle.atomic_table.specs.Seated.{TableId}

-- the book of its history, and the table of the places of its journal
pub record Name : Type 0 where
  pub book : Book
  pub places : TableId

-- the name of no index
abbrev pub no_name : Name
no_name = record {
  book = record { number = 0; log_name = 0; cells_name = 0 };
  places = record {
    words = 0;
    slots = 0;
    views_name = 0;
    atom = 0;
    block = 0;
    offset = 0;
    slot_names = [];
  };
}
