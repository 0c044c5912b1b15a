-- Bridge: a cut as the definition of cuts has it.
use Rattle.std.specs.Prelude.{List, [], ◌∷◌, Option, Some, None}
use Rattle.explorer_model.specs.Cuts as model
use Rattle.pgn_cut.specs.declared.cut.Cut.{Cut}
use Rattle.pgn_cut.specs.declared.cut.Cut.TheVariants.{Text, TooLong, Preamble}

abbrev pub meaning : Cut → model.Cut
meaning (Text placed) = model.Text placed
meaning (TooLong place length) = model.TooLong place length
meaning (Preamble place) = model.Preamble place

-- the cut that is there, or none
abbrev pub cuts_in : Option Cut → List model.Cut
cuts_in None = []
cuts_in (Some cut) = meaning cut ∷ []
