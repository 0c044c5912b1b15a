use Rattle.std.proofs.Common.{◌≡◌, map, drop}
use Rattle.explorer_model.specs.Query.{is_among}
use Rattle.query_params.proofs.lists.is_among.Given as goal

abbrev pub invariant-loop-name : goal.invariant-loop-name
invariant-loop-name l = is_among (map (λ name. name.now) (drop l.name-index l.names)) l.text ≡ is_among (map (λ name. name.now) l.names) l.text
