-- Bridge: namings that a book lends.
use Rattle.std.specs.Prelude.{map}
use Rattle.std.specs.Option.{option_copied}
use Rattle.explorer_model.specs.declared.opening.Naming.{Naming}
use Rattle.opening_names.specs.declared.lent.LentNaming.{LentNaming}

-- the naming itself
abbrev pub naming_lent : LentNaming → Naming
naming_lent lent = record {
  whole = option_copied lent.whole;
  moves = map option_copied lent.moves.items;
}
