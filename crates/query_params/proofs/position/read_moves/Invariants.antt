use Rattle.std.proofs.Common.{length}
use Rattle.std.specs.Option.{option_copied}
use Rattle.explorer_model.specs.Query.{pieces_of}
use Rattle.query_params.specs.Given.{pieces_left}
use Rattle.query_params.specs.Lines.{Playing}
use Rattle.query_params.proofs.position.read_moves.Given as goal

abbrev pub invariant-loop-rest : goal.invariant-loop-rest
invariant-loop-rest l = Playing l.root (pieces_of l.fn.text) l.board l.moves.items (pieces_left (option_copied l.rest))

abbrev pub decreases-loop-rest : goal.decreases-loop-rest
decreases-loop-rest l = length (pieces_left (option_copied l.rest))
