-- What a whole run of a cutter gives.
use Rattle.std.specs.List.{flat_map}
use Rattle.std.proofs.Common.{◌≡◌, ℕ, List, [], ◌∷◌, ◌++◌, Option, ap, ◌∙◌, append_assoc}
use Rattle.explorer_model.specs.Cuts as model
use Rattle.pgn_cut.specs.Cut.{cuts_in}
use Rattle.pgn_cut.specs.Cutter.{cuts_of_rest}
use Rattle.pgn_cut.specs.Runs.{Call, IsNew, Runs}
use Rattle.pgn_cut.specs.declared.cut.Cut.{Cut}
use Rattle.pgn_cut.specs.declared.cutter.Cutter.{Cutter}

given : List Call → List model.Cut
given calls = flat_map (λ call. cuts_in call.cut) calls

taken : List Call → List ℕ
taken calls = flat_map (λ call. call.taken) calls

cuts-of-calls : (cutter : Cutter) (calls : List Call) (last : Option Cut) → Runs cutter calls last → given calls ++ cuts_in last ≡ cuts_of_rest cutter (taken calls)
unfolding given taken
cuts-of-calls cutter [] last runs = runs
cuts-of-calls cutter (call ∷ calls) last runs =
    append_assoc (cuts_in call.cut) (given calls) (cuts_in last)
    ∙ ap (λ (rest : List model.Cut). cuts_in call.cut ++ rest) (cuts-of-calls call.after calls last runs.1)
    ∙ runs.0 (taken calls)

pub run-cuts : (cutter : Cutter) (calls : List Call) (last : Option Cut) → IsNew cutter → Runs cutter calls last
    → flat_map (λ call. cuts_in call.cut) calls ++ cuts_in last ≡ model.cuts (flat_map (λ call. call.taken) calls)
unfolding given taken
run-cuts cutter calls last new runs = cuts-of-calls cutter calls last runs ∙ new (taken calls)
