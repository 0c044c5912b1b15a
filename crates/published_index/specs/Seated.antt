-- Bridge: a pass and a publisher of an index whose name no type has, and the places of its journal.
use Rattle.std.specs.Prelude.{◌≡◌, ℕ, List, length, replicate}
use Rattle.logbook.specs.Pages.{Book}
use Rattle.atomic_table.specs.Seated.{TableId}
use Rattle.explorer_model.specs.declared.archive.Batch.{Batch}
use Rattle.published_index.specs.States.{Publishing, Watching, watching}

pub record Seated : Type 0 where
  pub book : Book
  pub watching : Watching

pub record Written : Type 0 where
  pub book : Book
  pub publishing : Publishing

-- the table that names the places, and how many are given
pub record NamelessPlaces : Type 0 where
  pub table : TableId
  pub count : ℕ

-- each has seen the journal, and made no event
abbrev pub AreSeated : Book → List Batch → List Seated → Type 0
AreSeated book journal seats =
    seats ≡ replicate (length seats) (record { book = book; watching = watching journal })
