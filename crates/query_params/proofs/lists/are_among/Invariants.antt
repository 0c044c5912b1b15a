use Rattle.std.proofs.Common.{◌≡◌, map, length}
use Rattle.std.specs.List.{list_all}
use Rattle.std.specs.Option.{option_copied}
use Rattle.explorer_model.specs.Query.{is_among, pieces_of}
use Rattle.query_params.specs.Given.{pieces_left}
use Rattle.query_params.proofs.lists.are_among.Given as goal

abbrev pub invariant-loop-rest : goal.invariant-loop-rest
invariant-loop-rest l =
    let known = is_among (map (λ name. name.now) l.names) in
    list_all known (pieces_left (option_copied l.rest)) ≡ list_all known (pieces_of l.fn.text)

abbrev pub decreases-loop-rest : goal.decreases-loop-rest
decreases-loop-rest l = length (pieces_left (option_copied l.rest))
