use Rattle.std.proofs.Common.{◌≡◌, ℕ, List, Bor, map, drop}
use Rattle.std.specs.List.{list_any}
use Rattle.explorer_model.specs.Wire.{has_close}
use Rattle.http_wire.proofs.judging.is_any_close.Given as goal

abbrev pub invariant-loop-value : goal.invariant-loop-value
invariant-loop-value l =
    list_any has_close (map (λ (value : Bor (List ℕ)). value.now) (drop l.value-index l.values))
    ≡ list_any has_close (map (λ (value : Bor (List ℕ)). value.now) l.values)
