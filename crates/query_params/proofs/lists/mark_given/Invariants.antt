use Rattle.std.proofs.Common.{◌≡◌, map, take}
use Rattle.explorer_model.specs.Query.{is_among, pieces_of}
use Rattle.query_params.proofs.lists.mark_given.Given as goal

abbrev pub invariant-loop-place : goal.invariant-loop-place
invariant-loop-place l = take l.place l.given ≡ map (is_among (pieces_of l.text)) (map (λ name. name.now) (take l.place l.names))
