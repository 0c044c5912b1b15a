-- Bridge: the table of ids, as it is held.
use Rattle.std.specs.Prelude.{ℕ}
use Rattle.std.specs.HashMap.{get, spare}
use Rattle.explorer_model.specs.Imports.{Numbering}
use Rattle.ingest_desk.specs.Clashes.{is_id}
use Rattle.ingest_desk.specs.declared.ids.Ids.{Ids}

abbrev pub number_at : Ids → Numbering
number_at ids id = get is_id ids.numbers id

-- how many ids it takes without memory
abbrev pub room_of : Ids → ℕ
room_of ids = spare ids.numbers
