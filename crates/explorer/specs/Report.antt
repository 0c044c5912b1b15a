-- Statement: what is reported of the cuts that are refused.
use Rattle.std.specs.Prelude.{◌≡◌, ◌⊎◌, ℕ, List, [], ◌∷◌, ◌++◌, codes}
use Rattle.std.specs.List.{flat_map}
use Rattle.std.specs.Fmt.{decimal}
use Rattle.outside.specs.Stream.{Stream, Writes}
use Rattle.explorer_model.specs.Refusals.{why_text}
use Rattle.explorer_model.specs.declared.fault.Refusal.{Refusal}
use Rattle.explorer_model.specs.declared.fault.Why.{Why}

-- a place, a space, the words of a refusal and a line end
abbrev pub report_line : ℕ → Why → List ℕ
report_line place why = decimal place ++ codes " " ++ why_text why ++ codes "\n"

-- the report lines of refusals, in their order
abbrev pub report : List Refusal → List ℕ
report refused = flat_map (λ refusal. report_line refusal.place refusal.why) refused

-- these lines were reported, or, where memory was wanting for them, nothing was
abbrev pub MayReport : List ℕ → Stream → Stream → Type 0
MayReport lines before after = Writes (lines ∷ []) before after ⊎ (after ≡ before)
