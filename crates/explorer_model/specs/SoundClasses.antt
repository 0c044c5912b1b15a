-- Statement: what the tags of a game can say.
use Rattle.std.specs.Prelude.{◌<◌, ◌≤◌}
use Rattle.std.specs.Str.{IsAscii}
use Rattle.explorer_model.specs.declared.archive.Classes.{Classes}
use Rattle.explorer_model.specs.declared.archive.Month.{Month}
use Rattle.explorer_model.specs.Counting.{group_place}

-- a month of a calendar
abbrev pub IsMonth : Month → Type 0
IsMonth month = (1 ≤ month.month) × (month.month ≤ 12)

-- an id of ASCII bytes, ratings of at most 4000, one of the nine groups, and a month of a calendar
pub record AreSoundClasses (classes : Classes) : Type 0 where
  pub id : IsAscii classes.id.bytes
  pub white : classes.white.rating ≤ 4000
  pub black : classes.black.rating ≤ 4000
  pub group : group_place classes.group.value < 9
  pub month : IsMonth classes.month
