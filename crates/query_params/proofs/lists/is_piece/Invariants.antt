use Rattle.std.proofs.Common.{◌≡◌, length}
use Rattle.std.specs.Option.{option_copied}
use Rattle.explorer_model.specs.Query.{is_among, pieces_of}
use Rattle.query_params.specs.Given.{pieces_left}
use Rattle.query_params.proofs.lists.is_piece.Given as goal

abbrev pub invariant-loop-rest : goal.invariant-loop-rest
invariant-loop-rest l = is_among (pieces_left (option_copied l.rest)) l.name ≡ is_among (pieces_of l.fn.text) l.name

abbrev pub decreases-loop-rest : goal.decreases-loop-rest
decreases-loop-rest l = length (pieces_left (option_copied l.rest))
