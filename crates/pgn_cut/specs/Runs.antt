-- Laws: a whole run of a cutter.
use Rattle.std.specs.Prelude.{◌≡◌, ℕ, List, [], ◌∷◌, Option}
use Rattle.explorer_model.specs.Cuts.{cuts}
use Rattle.pgn_cut.specs.Cut.{cuts_in}
use Rattle.pgn_cut.specs.Cutter.{Gives, cuts_of_rest}
use Rattle.pgn_cut.specs.declared.cut.Cut.{Cut}
use Rattle.pgn_cut.specs.declared.cutter.Cutter.{Cutter}

-- the cutter stands before a stream
abbrev pub IsNew : Cutter → Type 0
IsNew cutter = (stream : List ℕ) → cuts_of_rest cutter stream ≡ cuts stream

-- a call of `feed`: the bytes that it took, the cut that it gave, and the cutter afterwards
pub record Call : Type 0 where
  pub taken : List ℕ
  pub cut : Option Cut
  pub after : Cutter

-- calls of `feed`, one after another, and the cut that `end` gives behind them
abbrev pub Runs : Cutter → List Call → Option Cut → Type 0
Runs cutter [] last = cuts_in last ≡ cuts_of_rest cutter []
Runs cutter (call ∷ calls) last =
    Gives cutter call.taken call.cut call.after × Runs call.after calls last
